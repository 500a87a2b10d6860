-- What holds of epochs at any time.
use Rattle.std.specs.Prelude.{◌≡◌, ◌<◌, ◌≤◌, ℕ, List, false, Some, length, slice_get}
use Rattle.std.specs.List.{All, AllPairs}
use Rattle.fkv_epoch.specs.declared.actions.Waiting.{Waiting}
use Rattle.fkv_epoch.specs.EpochState.{EpochState}
use Rattle.fkv_epoch.specs.SafeEpoch.{is_safe_epoch}

-- each epoch in the list is greater than those before it
abbrev pub IsRising : List Waiting → Type 0
IsRising ws = AllPairs (λ v w. v.epoch < w.epoch) ws

-- sixteen slots, at most sixteen waiting actions, and no epoch is ahead of the current one
pub record IsOrdered (s : EpochState) : Type 0 where
  pub slots : length s.slots ≡ 16
  pub room : length s.waiting ≤ 16
  pub entered : (slot e : ℕ) → slice_get s.slots slot ≡ Some (Some e) → e ≤ s.epoch
  pub past : All (λ w. w.epoch < s.epoch) s.waiting
  pub rising : IsRising s.waiting

-- and nothing waits for an epoch that is safe
pub record IsTimely (s : EpochState) : Type 0 where
  pub ordered : IsOrdered s
  pub held : All (λ w. is_safe_epoch s.slots w.epoch ≡ false) s.waiting
