-- What comes of a job in its slot.
use Rattle.std.specs.Prelude.{◌≡◌, Some}
use Rattle.fkv_jobs.specs.declared.spread.Slot.{Slot}

-- the job of a slot was done, and what it gave stands there
pub record HasTurned {J O : Type 0} (gives : J → O → Type 0) (old new : Slot J O) : Type 0 where
  pub job : J
  pub was : old.job ≡ Some job
  pub output : O
  pub now : new.given ≡ Some output
  pub gave : gives job output
