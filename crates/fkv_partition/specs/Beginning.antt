-- What the issue of an operation on a key and that of a relocation do, what leaving a session does, and giving up a
-- relocation: a rule for each case, in the order of the tests.
use Rattle.std.specs.Prelude.{◌≡◌, ◌≢◌, ◌+◌, ◌*◌, ◌<◌, ◌≤◌, ℕ, Bool, true, false, IsSome, Option, Some, None, Result, Ok, Err, slice_get}
use Rattle.fkv_functions.specs.declared.refusals.Refused.{Refused}
use Rattle.fkv_functions.specs.declared.refusals.Refused.TheVariants.{Unknown, Busy, Stranger, NoMerge, NotDue, NoContext}
use Rattle.fkv_functions.specs.declared.refusals.What.TheVariants.{Partition}
use Rattle.fkv_operations.specs.After.{key_of, is_merge}
use Rattle.fkv_operations.specs.declared.operations.KeyedOp.{KeyedOp}
use Rattle.fkv_partition.specs.declared.contexts.Phase.TheVariants as phase
use Rattle.fkv_partition.specs.Contexts.{is_session, joined}
use Rattle.fkv_partition.specs.KeyBeginning.{IsEntered}
use Rattle.fkv_partition.specs.KeyEnding.{Leaves}
use Rattle.fkv_partition.specs.Views.{slots_of, partition_of, seen_at, with_context, PartitionView, relocation_at, with_relocation}
use Rattle.fkv_partition.specs.declared.relocations.Relocation.{Relocation}
use Rattle.fkv_partition.specs.declared.relocations.Stage.TheVariants.{Fresh}

-- nothing stands in a context of a slot
abbrev pub IsFree : {K V I : Type 0} → PartitionView K V I → ℕ → ℕ → Type 0
IsFree v slot c = joined (slice_get v.contexts (slot * 8 + c)) ≡ None

-- the lowest free context of a slot, or that there is none
abbrev pub IsFirstFree : {K V I : Type 0} → PartitionView K V I → ℕ → Option ℕ → Type 0
IsFirstFree v slot None = (d : ℕ) → d < 8 → ¬ IsFree v slot d
IsFirstFree v slot (Some c) = (c < 8) × IsFree v slot c × ((d : ℕ) → d < c → ¬ IsFree v slot d)

-- the lowest context of a slot in which a relocation is open, or that there is none
abbrev pub IsFirstOpen : {K V I : Type 0} → PartitionView K V I → ℕ → Option ℕ → Type 0
IsFirstOpen v slot None = (d : ℕ) → relocation_at v slot d ≡ None
IsFirstOpen v slot (Some c) =
    IsSome (relocation_at v slot c) × ((d : ℕ) → d < c → relocation_at v slot d ≡ None)

pub data IssuesOnKey {K V I : Type 0} (code : K → ℕ) (old new : PartitionView K V I) (slot : ℕ) (op : KeyedOp K V I) (now : ℕ)
    (result : Result ℕ Refused) : Type 0 where
  unknown : is_session (slots_of old) slot ≡ false
      → new ≡ old
      → result ≡ Err Unknown
      → IssuesOnKey code old new slot op now result
  stranger : IsEntered old slot
      → partition_of old.count (code (key_of op)) ≢ old.number
      → new ≡ old
      → result ≡ Err (Stranger Partition old.number (partition_of old.count (code (key_of op))))
      → IssuesOnKey code old new slot op now result
  unmerged : IsEntered old slot
      → partition_of old.count (code (key_of op)) ≡ old.number
      → is_merge op ≡ true
      → old.merges ≡ false
      → new ≡ old
      → result ≡ Err NoMerge
      → IssuesOnKey code old new slot op now result
  full : IsEntered old slot
      → partition_of old.count (code (key_of op)) ≡ old.number
      → (is_merge op ≡ true → old.merges ≡ true)
      → IsFirstFree old slot None
      → new ≡ old
      → result ≡ Err NoContext
      → IssuesOnKey code old new slot op now result
  issues : (c : ℕ)
      → IsEntered old slot
      → partition_of old.count (code (key_of op)) ≡ old.number
      → (is_merge op ≡ true → old.merges ≡ true)
      → IsFirstFree old slot (Some c)
      → new ≡ with_context old slot c (Some (record { number = now; op = op; phase = phase.Fresh })) now
      → result ≡ Ok c
      → IssuesOnKey code old new slot op now result

-- a relocation has the place that is cleared next, which is to lie below what its session sees as safely read-only
pub data Relocates {K V I : Type 0} (old new : PartitionView K V I) (slot now : ℕ) (result : Result ℕ Refused)
    : Type 0 where
  unknown : is_session (slots_of old) slot ≡ false
      → new ≡ old
      → result ≡ Err Unknown
      → Relocates old new slot now result
  not_due : IsEntered old slot
      → (seen_at old slot).safe_read_only ≤ old.cleared
      → new ≡ old
      → result ≡ Err NotDue
      → Relocates old new slot now result
  full : IsEntered old slot
      → old.cleared < (seen_at old slot).safe_read_only
      → IsFirstFree old slot None
      → new ≡ old
      → result ≡ Err NoContext
      → Relocates old new slot now result
  relocates : (c : ℕ)
      → IsEntered old slot
      → old.cleared < (seen_at old slot).safe_read_only
      → IsFirstFree old slot (Some c)
      → new ≡ with_relocation old slot c (Some (record { number = now; target = old.cleared; stage = Fresh })) now
      → result ≡ Ok c
      → Relocates old new slot now result

-- a session is left as that of a partition is, unless a relocation of it is open
pub data LeavesAll {K V I : Type 0} (keeps : Bool) (old new : PartitionView K V I) (slot now : ℕ)
    (result : Result (Unit {0}) Refused) : Type 0 where
  busy : (c : ℕ) (x : Relocation K V)
      → relocation_at old slot c ≡ Some x
      → new ≡ old
      → result ≡ Err Busy
      → LeavesAll keeps old new slot now result
  leaves : ((c : ℕ) → relocation_at old slot c ≡ None)
      → Leaves keeps old new slot now result
      → LeavesAll keeps old new slot now result

pub data Drops {K V I : Type 0} (old new : PartitionView K V I) (slot c now : ℕ)
    (result : Result (Unit {0}) Refused) : Type 0 where
  unknown : relocation_at old slot c ≡ None → new ≡ old → result ≡ Err Unknown → Drops old new slot c now result
  drops : (x : Relocation K V)
      → relocation_at old slot c ≡ Some x
      → new ≡ with_relocation old slot c None now
      → result ≡ Ok tt
      → Drops old new slot c now result
