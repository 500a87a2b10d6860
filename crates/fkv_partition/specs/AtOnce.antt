-- An operation that is issued and done in one call, and a read that changes nothing.
use Rattle.std.specs.Prelude.{ℕ, Some, Ok}
use Rattle.std.specs.declared.cmp.Ordering.{Ordering}
use Rattle.fkv_functions.specs.Meanings.{Meanings}
use Rattle.fkv_device.specs.Standing.{Standing}
use Rattle.fkv_operations.specs.Operations.{op_of}
use Rattle.fkv_operations.specs.declared.operations.KeyedOp.{KeyedOp}
use Rattle.fkv_operations.specs.declared.operations.Answer.{Answer}
use Rattle.fkv_partition.specs.declared.contexts.Progress.TheVariants.{Done}
use Rattle.fkv_partition.specs.KeyAtOnce as on_key
use Rattle.fkv_partition.specs.KeyBeginning.{IsEntered}
use Rattle.fkv_partition.specs.Views.{PartitionView}
use Rattle.fkv_partition.specs.Beginning.{IsFirstFree}
use Rattle.fkv_partition.specs.Events.{Issues, Goes}
use Rattle.fkv_partition.specs.Effect.{IsIssue, IsEvent}

-- an operation would be issued here, and would write where a record stands
pub record IsAtHand {K V I O : Type 0} (cmp : K → K → Ordering) (join : V → V → V) (f : Meanings K V I O) (code : K → ℕ)
    (v : PartitionView K V I) (slot : ℕ) (op : KeyedOp K V I) : Type 0 where
  pub entered : IsEntered v slot
  pub context : ℕ
  pub free : IsFirstFree v slot (Some context)
  pub hand : on_key.IsAtHand cmp join f code v slot op

-- the operation is issued at one moment, and done with this answer when it goes on at another: what stands between them is
-- what the issue makes
pub record IsDoneAtOnce {K V I O R : Type 0} (stands : R → Standing) (cmp : K → K → Ordering) (join : V → V → V) (f : Meanings K V I O)
    (code : K → ℕ) (old new : PartitionView K V I) (slot : ℕ) (op : KeyedOp K V I) (issued now : ℕ) (answer : Answer O)
    : Type 0 where
  pub context : ℕ
  pub between : PartitionView K V I
  pub issues : Issues code old between slot (op_of op) issued (Ok context)
  pub issue : IsIssue code old between slot context (op_of op) issued
  pub goes : Goes stands cmp join f code between new slot context now (Ok (Done answer now))
  pub event : IsEvent {R = R} cmp f between new slot context now (Done answer now)

-- a read of a key in a session is done by what this meets, and this answer shows what the key has
pub record IsReadAtOnce {K V I O : Type 0} (cmp : K → K → Ordering) (join : V → V → V) (f : Meanings K V I O) (code : K → ℕ)
    (v : PartitionView K V I) (slot : ℕ) (key : K) (input : I) (answer : Answer O) : Type 0 where
  pub entered : IsEntered v slot
  pub read : on_key.IsReadAtOnce cmp join f code v slot key input answer
