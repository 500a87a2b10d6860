-- What the sessions have seen of the actions that wait. What `Seen slot action` says is the caller's: that the view of
-- the session at this slot has the action's offset, say.
use Rattle.std.specs.Prelude.{◌≡◌, ◌≢◌, ◌<◌, ℕ, Bool, List, Option, Some, slice_get, IsTrue}
use Rattle.std.specs.List.{All}
use Rattle.fkv_epoch.specs.declared.actions.Action.{Action}
use Rattle.fkv_epoch.specs.EpochState.{EpochState}
use Rattle.fkv_epoch.specs.Due.{due, settled}
use Rattle.fkv_epoch.specs.Moves.{fresh, renewed, vacated, bumped}
use Rattle.fkv_epoch.specs.Timely.{IsOrdered}

-- each session has seen this action
abbrev pub SeenByAll : (ℕ → Action → Type 0) → List (Option ℕ) → Action → Type 0
SeenByAll Seen slots a = (slot e : ℕ) → slice_get slots slot ≡ Some (Some e) → Seen slot a

-- a session whose epoch is greater than that of a waiting action has seen it
pub record WaitsAgree (Seen : ℕ → Action → Type 0) (s : EpochState) : Type 0 where
  pub agree : All (λ w. (slot e : ℕ)
      → slice_get s.slots slot ≡ Some (Some e)
      → w.epoch < e
      → Seen slot w.action) s.waiting

-- the same, by a test
abbrev pub Agrees : (ℕ → Action → Bool) → EpochState → Type 0
Agrees seen s = WaitsAgree (λ slot a. IsTrue (seen slot a)) s

-- what waits agrees with what was seen, whatever the calls, as long as a session that enters or refreshes sees all that
-- waits; so what comes out was seen by every session
pub record IsSeenFirst (seen now : ℕ → Action → Bool) : Type 0 where
  pub start : Agrees seen fresh
  pub renewal : (s : EpochState) (slot : ℕ)
      → Agrees seen s
      → ((i : ℕ) (a : Action) → i ≢ slot → IsTrue (seen i a) → IsTrue (now i a))
      → All (λ w. IsTrue (now slot w.action)) s.waiting
      → Agrees now (renewed s slot)
  pub vacation : (s : EpochState) (slot : ℕ) → Agrees seen s → Agrees seen (vacated s slot)
  pub bump : (s : EpochState) (a : Action) → IsOrdered s → Agrees seen s → Agrees seen (bumped s a)
  pub left : (s : EpochState) → Agrees seen s → Agrees seen (settled s)
  pub out : (s : EpochState)
      → Agrees seen s
      → All (λ w. SeenByAll (λ slot a. IsTrue (seen slot a)) s.slots w.action) (due s)
