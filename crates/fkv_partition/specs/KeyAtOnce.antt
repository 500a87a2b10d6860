-- An operation that is issued and done in one call, and a read that changes nothing.
use Rattle.std.specs.Prelude.{◌≡◌, ℕ, true, Option, Ok}
use Rattle.std.specs.declared.cmp.Ordering.{Ordering}
use Rattle.fkv_functions.specs.Meanings.{Meanings}
use Rattle.fkv_device.specs.Standing.{Standing}
use Rattle.fkv_operations.specs.After.{key_of, is_merge, shown_of}
use Rattle.fkv_operations.specs.declared.operations.KeyedOp.{KeyedOp}
use Rattle.fkv_operations.specs.declared.operations.KeyedOp.TheVariants.{Read}
use Rattle.fkv_operations.specs.declared.operations.Answer.{Answer}
use Rattle.fkv_lookups.specs.declared.decisions.LookupResult.TheVariants.{Mutable}
use Rattle.fkv_lookups.specs.declared.decisions.Decision.TheVariants as decided
use Rattle.fkv_lookups.specs.Decisions.{decision}
use Rattle.fkv_partition.specs.declared.contexts.Progress.TheVariants.{Done}
use Rattle.fkv_partition.specs.Views.{PartitionView, partition_of, met_at, live_of}
use Rattle.fkv_partition.specs.KeyBeginning.{Issues}
use Rattle.fkv_partition.specs.KeyGoing.{Goes}
use Rattle.fkv_partition.specs.KeyEffect.{IsIssue, IsEvent}

-- an operation has its key here, and writes this value, or a tombstone, where the record that a look-up of the key meets stands
pub record IsAtHand {K V I O : Type 0} (cmp : K → K → Ordering) (join : V → V → V) (f : Meanings K V I O) (code : K → ℕ)
    (v : PartitionView K V I) (slot : ℕ) (op : KeyedOp K V I) : Type 0 where
  pub own : partition_of v.count (code (key_of op)) ≡ v.number
  pub merging : is_merge op ≡ true → v.merges ≡ true
  pub held : V
  pub met : met_at cmp join code v slot (key_of op) ≡ Mutable held
  pub value : Option V
  pub answer : Answer O
  pub writes : decision f op (Mutable held) ≡ decided.Replace value answer

-- the operation is issued in a context at one moment, and done with this answer when it goes on at another: what stands
-- between them is what the issue makes
pub record IsDoneAtOnce {K V I O R : Type 0} (stands : R → Standing) (cmp : K → K → Ordering) (join : V → V → V) (f : Meanings K V I O)
    (code : K → ℕ) (old new : PartitionView K V I) (slot c : ℕ) (op : KeyedOp K V I) (issued now : ℕ) (answer : Answer O)
    : Type 0 where
  pub between : PartitionView K V I
  pub issues : Issues code old between slot c op issued
  pub issue : IsIssue code old between slot c op issued
  pub goes : Goes stands cmp join f code between new slot c now (Ok (Done answer now))
  pub event : IsEvent {R = R} cmp f between new slot c now (Done answer now)

-- a read of a key that belongs here is done by what the session meets, and this answer shows what the key has
pub record IsReadAtOnce {K V I O : Type 0} (cmp : K → K → Ordering) (join : V → V → V) (f : Meanings K V I O) (code : K → ℕ)
    (v : PartitionView K V I) (slot : ℕ) (key : K) (input : I) (answer : Answer O) : Type 0 where
  pub own : partition_of v.count (code key) ≡ v.number
  pub done : decision f (Read key input) (met_at cmp join code v slot key) ≡ decided.Done answer
  pub shows : answer ≡ shown_of f key input (live_of cmp v key)

-- a read of the key asks for a page
pub record AsksForPage {K V I O : Type 0} (cmp : K → K → Ordering) (join : V → V → V) (f : Meanings K V I O) (code : K → ℕ)
    (v : PartitionView K V I) (slot : ℕ) (key : K) (input : I) : Type 0 where
  pub address : ℕ
  pub parts : Option V
  pub asks : decision f (Read key input) (met_at cmp join code v slot key) ≡ decided.Load address parts
