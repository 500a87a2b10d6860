-- Lives placed on steps: what the headline says of the answers.
use Rattle.std.specs.Prelude.{◌≡◌, true, ℕ, ◌<◌, ◌≤◌, List, Some, slice_get}
use Rattle.std.specs.declared.cmp.Ordering.{Ordering}
use Rattle.fkv_functions.specs.Meanings.{Meanings}
use Rattle.fkv_operations.specs.Operations.{may_update, answer_to}
use Rattle.fkv_lives.specs.declared.lives.Finish.{Finish}
use Rattle.fkv_lives.specs.declared.lives.Life.{Life}
use Rattle.fkv_lives.specs.Lives.{finish_of, map_before}

-- issue < effect ≤ done ≤ now, and an update takes effect as it is done
pub record IsTimely {K V I O : Type 0} (x : Life K V I O) (t : Finish O) (now : ℕ) : Type 0 where
  pub later : x.issue < t.effect
  pub within : t.effect ≤ t.done
  pub past : t.done ≤ now
  pub update : may_update x.op ≡ true → t.effect ≡ t.done

-- each finished life has a step of its own for its effect, between its issue and its completion, and answers what the
-- plain map answers there
pub record IsPlaced {K V I O : Type 0} (cmp : K → K → Ordering) (f : Meanings K V I O) (lives : List (Life K V I O))
    (now : ℕ) : Type 0 where
  pub issued : (j : ℕ) (x : Life K V I O) → slice_get lives j ≡ Some x → x.issue ≤ now
  pub timely : (j : ℕ) (x : Life K V I O) (t : Finish O)
      → slice_get lives j ≡ Some x
      → finish_of x ≡ Some t
      → IsTimely x t now
  pub alone : (i j : ℕ) (x y : Life K V I O) (t u : Finish O)
      → slice_get lives i ≡ Some x
      → slice_get lives j ≡ Some y
      → finish_of x ≡ Some t
      → finish_of y ≡ Some u
      → t.effect ≡ u.effect
      → i ≡ j
  pub answers : (j : ℕ) (x : Life K V I O) (t : Finish O)
      → slice_get lives j ≡ Some x
      → finish_of x ≡ Some t
      → t.answer ≡ answer_to f (map_before cmp f lives t.effect) x.op
