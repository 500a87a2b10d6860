-- An operation of a pass that is answered in one hold.
use Rattle.std.specs.Prelude.{◌≡◌, ◌-◌, ◌^◌, ◌<◌, ℕ, Bool}
use Rattle.fkv_operations.specs.declared.operations.KeyedOp.{KeyedOp}
use Rattle.fkv_operations.specs.declared.operations.Answer.{Answer}
use Rattle.fkv_store.specs.Passes.{PassView, Runs}

-- an operation on a key of this partition was answered in one hold of its lock: it took no turn, and no page was read for it
pub record IsDone {K V I O : Type 0} (keeps : Bool) (old : PassView K V I O) (partition : ℕ) (op : KeyedOp K V I)
    (new : PassView K V I O) (answer : Answer O) : Type 0 where
  pub runs : Runs keeps old new partition op answer
  pub room : old.share < 2 ^ 64 - 1
  pub turned : new.turned ≡ 0
  pub missed : new.missed ≡ 0
  pub reads : new.reads ≡ old.reads
