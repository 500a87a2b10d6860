-- Epochs as callers see them.
use Rattle.std.specs.Prelude.{ℕ, List, Option}
use Rattle.fkv_epoch.specs.declared.actions.Waiting.{Waiting}

-- the current epoch; the epoch of each slot, where a session is entered there; and what waits, in order
pub record EpochState : Type 0 where
  pub epoch : ℕ
  pub slots : List (Option ℕ)
  pub waiting : List Waiting
