-- What a contract sees of a store, and what an operation makes of it.
use Rattle.std.specs.Prelude.{◌≡◌, ◌-◌, ◌⊎◌, ℕ, Bool, List, IsTrue, Result, Ok, Err}
use Rattle.std.specs.declared.cmp.Ordering.{Ordering}
use Rattle.fkv_functions.specs.Meanings.{Meanings}
use Rattle.fkv_functions.specs.Plain.{PlainMap, Same}
use Rattle.fkv_functions.specs.declared.refusals.Refused.{Refused}
use Rattle.fkv_functions.specs.declared.refusals.Refused.TheVariants.{BadConfig}
use Rattle.fkv_device.specs.Failing.{FailsOnlyBy}
use Rattle.fkv_operations.specs.After.{after, answer}
use Rattle.fkv_operations.specs.declared.operations.KeyedOp.{KeyedOp}
use Rattle.fkv_operations.specs.declared.operations.KeyedOp.TheVariants.{Rmw, Merge}
use Rattle.fkv_operations.specs.declared.operations.Answer.{Answer}
use Rattle.fkv_partition.specs.declared.limits.Config.{Config}
use Rattle.fkv_partition.specs.Views.{live_of, PartitionView}
use Rattle.fkv_partition.specs.Unions.{union_of}
use Rattle.fkv_local.specs.Resting.{IsIdle}

-- the partitions of a store, what writes and what reads their pages, its configuration, whether logs are compacted on call alone,
-- and how many moments it has taken
pub record StoreView (K V I W P : Type 0) : Type 0 where
  pub parts : List (PartitionView K V I)
  pub writers : List W
  pub readers : List P
  pub config : Config
  pub keeps_log : Bool
  pub moments : ℕ

-- the plain map that a store is
abbrev pub plain : {K V I W P : Type 0} → (K → K → Ordering) → (K → ℕ) → StoreView K V I W P → PlainMap K V
plain cmp code s = union_of cmp code s.parts

-- what a store was opened with, or told since, stays
abbrev pub SameTerms : {K V I W P : Type 0} → StoreView K V I W P → StoreView K V I W P → Type 0
SameTerms old new = (new.keeps_log ≡ old.keeps_log) × (new.config ≡ old.config)

-- THE STORE IS A PLAIN MAP. An operation on the map `old` came to this result, and left the map `new`: where it is done,
-- `new` is `old` after the operation, and the answer is the plain map's; where it is refused, `new` is `old`.
abbrev pub IsRun : {K V I O : Type 0} → (K → K → Ordering) → Meanings K V I O → PlainMap K V → PlainMap K V → KeyedOp K V I
    → Result (Answer O) Refused → Type 0
IsRun cmp f old new op (Ok a) = Same new (after cmp f old op) × (a ≡ answer f old op)
IsRun cmp f old new op (Err why) = Same new old

-- the same of an update that may have been made a merge
abbrev pub IsUpdateRun : {K V I O : Type 0} → (K → K → Ordering) → Meanings K V I O → PlainMap K V → PlainMap K V → K → I
    → Result (Answer O) Refused → Type 0
IsUpdateRun cmp f old new k i result = IsRun cmp f old new (Rmw k i) result ⊎ IsRun cmp f old new (Merge k i) result

-- the same of one partition, whose session has nothing open before and after
pub record Runs {K V I O : Type 0} (keeps : Bool) (cmp : K → K → Ordering) (f : Meanings K V I O)
    (old new : PartitionView K V I) (op : KeyedOp K V I) (result : Result (Answer O) Refused) : Type 0 where
  pub number : new.number ≡ old.number
  pub count : new.count ≡ old.count
  pub idle : IsIdle new 0
  pub effect : IsTrue keeps → IsRun cmp f (live_of cmp old) (live_of cmp new) op result

abbrev pub Updates : {K V I O : Type 0} → Bool → (K → K → Ordering) → Meanings K V I O → PartitionView K V I → PartitionView K V I
    → K → I → Result (Answer O) Refused → Type 0
Updates keeps cmp f old new k i result = Runs keeps cmp f old new (Rmw k i) result ⊎ Runs keeps cmp f old new (Merge k i) result

-- the bytes of a log from its beginning to its tail, and those of them that are below Head
abbrev pub log_bytes : {K V I : Type 0} → PartitionView K V I → ℕ
log_bytes v = v.records.log.tail - v.records.log.begin

abbrev pub evicted_bytes : {K V I : Type 0} → PartitionView K V I → ℕ
evicted_bytes v = v.records.log.regions.offsets.head - v.records.log.begin

-- Why a store is not opened, by the count of the device's failures: the configuration is outside its limits, which asks nothing
-- of the device; there is no memory; or the device does not open the pages of a partition.
abbrev pub IsUnopened : ℕ → ℕ → Refused → Type 0
IsUnopened before after why = ((why ≡ BadConfig) × (after ≡ before)) ⊎ FailsOnlyBy 1 0 before after why
