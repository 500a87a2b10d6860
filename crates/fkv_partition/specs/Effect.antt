-- What an event of a partition does (`Effects`).
use Rattle.std.specs.Prelude.{ℕ, Bool, Option, Some, None}
use Rattle.std.specs.declared.cmp.Ordering.{Ordering}
use Rattle.fkv_functions.specs.Meanings.{Meanings}
use Rattle.fkv_operations.specs.declared.operations.KeyedOp.{KeyedOp}
use Rattle.fkv_operations.specs.declared.operations.Op.{Op}
use Rattle.fkv_operations.specs.declared.operations.Op.TheVariants.{Relocate}
use Rattle.fkv_partition.specs.declared.contexts.Progress.{Progress}
use Rattle.fkv_partition.specs.declared.relocations.Relocation.{Relocation}
use Rattle.fkv_partition.specs.KeyEffect as key_effect
use Rattle.fkv_partition.specs.Effects as effects
use Rattle.fkv_partition.specs.Pending.{Pending}
use Rattle.fkv_partition.specs.Views.{PartitionView, relocation_at}
pub use Rattle.fkv_partition.specs.Effects.{Asked, HasEffect, HasLoaded}

abbrev pub asked_of : {K V I : Type 0} → Option (Asked K V I) → Option (Relocation K V) → Option (Asked K V I)
asked_of (Some x) r = Some x
asked_of None (Some r) = Some (record { number = r.number; op = Relocate })
asked_of None None = None

-- an operation on a key, or a relocation, or nothing
abbrev pub asked : {K V I : Type 0} → PartitionView K V I → ℕ → ℕ → Option (Asked K V I)
asked v slot c = asked_of (key_effect.asked v slot c) (relocation_at v slot c)

abbrev pub LeavesOthers : {K V I : Type 0} → PartitionView K V I → PartitionView K V I → ℕ → ℕ → ℕ → Type 0
LeavesOthers old new slot c now =
    effects.LeavesOthers (asked old) (asked new) old new old.cleared new.cleared slot c now

abbrev pub IsQuiet : {K V I : Type 0} → Bool → PartitionView K V I → PartitionView K V I → ℕ → Type 0
IsQuiet keeps old new now =
    effects.IsQuiet (asked old) (asked new) keeps old new old.cleared new.cleared now

abbrev pub IsIssue : {K V I : Type 0} → (K → ℕ) → PartitionView K V I → PartitionView K V I → ℕ → ℕ → Op K V I → ℕ
    → Type 0
IsIssue code old new slot c op now =
    effects.IsIssue (asked old) (asked new) code old new old.cleared new.cleared slot c op now

abbrev pub IsEvent : {K V I O R : Type 0} → (K → K → Ordering) → Meanings K V I O → PartitionView K V I
    → PartitionView K V I → ℕ → ℕ → ℕ → Progress K V I O R → Type 0
IsEvent cmp f old new slot c now progress =
    effects.IsEvent (asked old) (asked new) cmp f old new old.cleared new.cleared slot c now progress

abbrev pub IsGiveUp : {K V I : Type 0} → PartitionView K V I → PartitionView K V I → ℕ → ℕ → ℕ → Type 0
IsGiveUp old new slot c now =
    effects.IsGiveUp (asked old) (asked new) old new old.cleared new.cleared slot c now

abbrev pub to_find : {K V I : Type 0} → (K → K → Ordering) → PartitionView K V I → ℕ → Option (KeyedOp K V I)
    → Option (Pending V)
to_find cmp v now o = effects.to_find cmp v now o

abbrev pub IsAsking : {K V I : Type 0} → (K → K → Ordering) → PartitionView K V I → PartitionView K V I → ℕ → ℕ → ℕ
    → Type 0
IsAsking cmp old new slot c now = effects.IsAsking (asked old) cmp old new slot c now

abbrev pub Finds : {K V I O R : Type 0} → (K → K → Ordering) → PartitionView K V I → PartitionView K V I → ℕ → ℕ → ℕ
    → Progress K V I O R → Type 0
Finds cmp old new slot c now progress = effects.Finds (asked old) cmp old new slot c now progress

abbrev pub IsLoaded : {K V I O R : Type 0} → (K → K → Ordering) → Meanings K V I O → PartitionView K V I
    → PartitionView K V I → ℕ → ℕ → ℕ → Progress K V I O R → Type 0
IsLoaded cmp f old new slot c now progress =
    effects.IsLoaded (asked old) (asked new) cmp f old new old.cleared new.cleared slot c now progress

-- a page came for a context: for an operation on a key; or for a relocation, which goes on as any event does
pub data IsLoad {K V I O R : Type 0} (cmp : K → K → Ordering) (f : Meanings K V I O) (old new : PartitionView K V I)
    (slot c now : ℕ) (progress : Progress K V I O R) : Type 0 where
  on_key : IsLoaded cmp f old new slot c now progress → IsLoad cmp f old new slot c now progress
  relocation : IsEvent cmp f old new slot c now progress
      → Finds cmp old new slot c now progress
      → IsLoad cmp f old new slot c now progress

abbrev pub IsTruncation : {K V I : Type 0} → Bool → (K → K → Ordering) → PartitionView K V I → PartitionView K V I → ℕ → ℕ
    → Type 0
IsTruncation keeps cmp old new page now =
    effects.IsTruncation (asked old) (asked new) keeps cmp old new old.cleared new.cleared page now
