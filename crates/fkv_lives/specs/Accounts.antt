-- How the lives account for what was told: the outcomes of the steps, and the lives that they began and ended.
use Rattle.std.specs.Prelude.{◌≡◌, ℕ, List, Some, Result, length, map, slice_get}
use Rattle.fkv_functions.specs.declared.refusals.Refused.{Refused}
use Rattle.fkv_operations.specs.declared.operations.Answer.{Answer}
use Rattle.fkv_lives.specs.declared.lives.Life.{Life}
use Rattle.fkv_lives.specs.declared.lives.Finish.{Finish}
use Rattle.fkv_lives.specs.declared.outcomes.Outcome.{Outcome}
use Rattle.fkv_lives.specs.Histories.{Event, issue_at}
use Rattle.fkv_lives.specs.Lives.{finish_of}
use Rattle.fkv_lives.specs.Told.{told_at, issues_from}

-- there is one life for each accepted issue, in their order, and no other; and the answers told are those of the
-- finished lives, each told at its own step, once, and in the context that the life's issue was given
pub record IsAccount {K V I O : Type 0} (lives : List (Life K V I O)) (outcomes : List (Result (Outcome V O) Refused))
    (history : List (Event K V I O)) (now : ℕ) : Type 0 where
  pub counted : length outcomes ≡ now
  pub issued : map (λ (x : Life K V I O). x.issue) lives ≡ issues_from 1 outcomes
  pub told : (j : ℕ) (x : Life K V I O) (t : Finish O)
      → slice_get lives j ≡ Some x
      → finish_of x ≡ Some t
      → told_at outcomes t.done ≡ Some t.answer
  -- the step that told the answer went on with what the life's issue began
  pub own : (j : ℕ) (x : Life K V I O) (t : Finish O)
      → slice_get lives j ≡ Some x
      → finish_of x ≡ Some t
      → issue_at history t.done ≡ Some x.issue
  pub once : (i j : ℕ) (x y : Life K V I O) (t u : Finish O)
      → slice_get lives i ≡ Some x
      → slice_get lives j ≡ Some y
      → finish_of x ≡ Some t
      → finish_of y ≡ Some u
      → t.done ≡ u.done
      → i ≡ j
  pub owned : (s : ℕ) (a : Answer O)
      → told_at outcomes s ≡ Some a
      → (j : ℕ) × (x : Life K V I O) × (t : Finish O) × (slice_get lives j ≡ Some x) × (finish_of x ≡ Some t) ×
      (t.done ≡ s) × (t.answer ≡ a)
