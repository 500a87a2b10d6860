-- Any list of calls on new epochs: each action comes out once, in order, at the first call after which its epoch is
-- safe.
use Rattle.std.specs.Prelude.{◌≡◌, ◌<◌, ◌≤◌, ◌↔◌, ℕ, suc, Bool, true, false, List, [], ◌∷◌, ◌++◌, slice_get, take}
use Rattle.std.specs.List.{fold, Contains}
use Rattle.std.specs.Option.{option_map_or}
use Rattle.fkv_epoch.specs.declared.actions.Waiting.{Waiting}
use Rattle.fkv_epoch.specs.declared.calls.Call.{Call}
use Rattle.fkv_epoch.specs.EpochState.{EpochState}
use Rattle.fkv_epoch.specs.SafeEpoch.{IsSafeEpoch}
use Rattle.fkv_epoch.specs.Moves.{fresh}
use Rattle.fkv_epoch.specs.Timely.{IsRising}
use Rattle.fkv_epoch.specs.Calls.{lets_out, after, let_out, put_in}

-- the states before and after call number k, counted from 0
abbrev pub state_before : EpochState → List Call → ℕ → EpochState
state_before s calls k = fold after s (take k calls)

abbrev pub state_after : EpochState → List Call → ℕ → EpochState
state_after s calls k = fold after s (take (suc k) calls)

-- what call number k lets out and puts in, and whether it is a bump, a refresh or a leave
abbrev pub out_at : EpochState → List Call → ℕ → List Waiting
out_at s calls k = option_map_or (let_out (state_before s calls k)) (slice_get calls k) []

abbrev pub in_at : EpochState → List Call → ℕ → List Waiting
in_at s calls k = option_map_or (put_in (state_before s calls k)) (slice_get calls k) []

abbrev pub lets_out_at : List Call → ℕ → Bool
lets_out_at calls k = option_map_or lets_out (slice_get calls k) false

-- all that comes out over the calls, and all that is put in, in order
abbrev pub all_out : EpochState → List Call → List Waiting
all_out s [] = []
all_out s (call ∷ calls) = let_out s call ++ all_out (after s call) calls

abbrev pub all_in : EpochState → List Call → List Waiting
all_in s [] = []
all_in s (call ∷ calls) = put_in s call ++ all_in (after s call) calls

-- call number k is the first bump, refresh or leave from number b on after which epoch c is safe
pub record IsFirstSafe (s : EpochState) (calls : List Call) (b k c : ℕ) : Type 0 where
  pub from : b ≤ k
  pub call : lets_out_at calls k ≡ true
  pub safe : IsSafeEpoch (state_after s calls k).slots c
  pub first : (j : ℕ) → b ≤ j → j < k → lets_out_at calls j ≡ true → ¬ IsSafeEpoch (state_after s calls j).slots c

pub record IsOnceInOrder (calls : List Call) : Type 0 where
  -- what came out, and then what waits on, is what was put in, in that order
  pub in_order : all_out fresh calls ++ (fold after fresh calls).waiting ≡ all_in fresh calls
  -- no two were put in beside the same epoch, so none comes out twice
  pub apart : IsRising (all_in fresh calls)
  -- what call number b put in comes out at call number k exactly where k is the first after which its epoch is safe
  pub at_first : (b k : ℕ) (w : Waiting)
      → Contains (in_at fresh calls b) w
      → (Contains (out_at fresh calls k) w ↔ IsFirstSafe fresh calls b k w.epoch)
