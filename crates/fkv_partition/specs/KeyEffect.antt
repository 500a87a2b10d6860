-- What an event of an operation on a key, of a session or of pages does (`Effects`), where contexts ask of keys alone.
use Rattle.std.specs.Prelude.{Bool, ℕ, Option, option_map}
use Rattle.std.specs.declared.cmp.Ordering.{Ordering}
use Rattle.fkv_functions.specs.Meanings.{Meanings}
use Rattle.fkv_operations.specs.Operations.{op_of}
use Rattle.fkv_operations.specs.declared.operations.KeyedOp.{KeyedOp}
use Rattle.fkv_partition.specs.declared.contexts.Context.{Context}
use Rattle.fkv_partition.specs.declared.contexts.Progress.{Progress}
use Rattle.fkv_partition.specs.Views.{PartitionView, context_at}
use Rattle.fkv_partition.specs.Effects as effects
pub use Rattle.fkv_partition.specs.Effects.{Asked, HasEffect, HasLoaded}

-- the moment of the issue of an operation on a key, and the operation
abbrev pub asked_by : {K V I : Type 0} → Context K V I → Asked K V I
asked_by x = record { number = x.number; op = op_of x.op }

abbrev pub asked : {K V I : Type 0} → PartitionView K V I → ℕ → ℕ → Option (Asked K V I)
asked v slot c = option_map asked_by (context_at v slot c)

abbrev pub LeavesOthers : {K V I : Type 0} → PartitionView K V I → PartitionView K V I → ℕ → ℕ → ℕ → Type 0
LeavesOthers old new slot c now = effects.LeavesOthers (asked old) (asked new) old new 0 0 slot c now

abbrev pub IsQuiet : {K V I : Type 0} → Bool → PartitionView K V I → PartitionView K V I → ℕ → Type 0
IsQuiet keeps old new now = effects.IsQuiet (asked old) (asked new) keeps old new 0 0 now

abbrev pub IsIssue : {K V I : Type 0} → (K → ℕ) → PartitionView K V I → PartitionView K V I → ℕ → ℕ → KeyedOp K V I → ℕ → Type 0
IsIssue code old new slot c op now = effects.IsIssue (asked old) (asked new) code old new 0 0 slot c (op_of op) now

abbrev pub IsEvent : {K V I O R : Type 0} → (K → K → Ordering) → Meanings K V I O → PartitionView K V I → PartitionView K V I → ℕ
    → ℕ → ℕ → Progress K V I O R → Type 0
IsEvent cmp f old new slot c now progress = effects.IsEvent (asked old) (asked new) cmp f old new 0 0 slot c now progress

abbrev pub IsGiveUp : {K V I : Type 0} → PartitionView K V I → PartitionView K V I → ℕ → ℕ → ℕ → Type 0
IsGiveUp old new slot c now = effects.IsGiveUp (asked old) (asked new) old new 0 0 slot c now

abbrev pub Finds : {K V I O R : Type 0} → (K → K → Ordering) → PartitionView K V I → PartitionView K V I → ℕ → ℕ → ℕ
    → Progress K V I O R → Type 0
Finds cmp old new slot c now progress = effects.Finds (asked old) cmp old new slot c now progress

abbrev pub IsLoaded : {K V I O R : Type 0} → (K → K → Ordering) → Meanings K V I O → PartitionView K V I → PartitionView K V I → ℕ
    → ℕ → ℕ → Progress K V I O R → Type 0
IsLoaded cmp f old new slot c now progress = effects.IsLoaded (asked old) (asked new) cmp f old new 0 0 slot c now progress

abbrev pub IsTruncation : {K V I : Type 0} → Bool → (K → K → Ordering) → PartitionView K V I → PartitionView K V I → ℕ → ℕ → Type 0
IsTruncation keeps cmp old new page now = effects.IsTruncation (asked old) (asked new) keeps cmp old new 0 0 page now
