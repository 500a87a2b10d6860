-- Reports and replays.
use Rattle.std.proofs.Common.{◌≡◌, ◌≢◌, ℕ, zero, suc, ◌≤◌, true, inl, inr, take, List, [], ◌∷◌, ◌++◌, length, Option, Result, refl, ap, subst, arith}
use Rattle.std.specs.declared.cmp.Ordering.{Ordering}
use Rattle.fkv_functions.specs.Meanings.{Meanings}
use Rattle.fkv_functions.specs.declared.refusals.Refused.{Refused}
use Rattle.fkv_functions.specs.declared.refusals.Refused.TheVariants.{NoMemory, Device, Damaged}
use Rattle.fkv_device.specs.Standing.{Standing}
use Rattle.fkv_device.specs.Failing.{ReadFailsBy}
use Rattle.fkv_texts.specs.declared.entries.Entry.{Entry}
use Rattle.fkv_hybrid.specs.Scans.{MayFail, IsScanRefusal}
use Rattle.fkv_lives.specs.declared.outcomes.Outcome.{Outcome}
use Rattle.fkv_lives.specs.declared.steps.Step.{Step}
use Rattle.fkv_worlds.specs.States.{WorldView}
use Rattle.fkv_worlds.specs.Reports.{IsStepTaken, RunsTo}

-- steps in turn
pub runs-append : {K V I O R : Type 0} (stands : R → Standing) (entry : ℕ → List ℕ → ℕ → Entry K V → Type 0) (cmp : K → K → Ordering) (join : V → V → V) (f : Meanings K V I O) (code : K → ℕ) (v u w : WorldView K V I O R) (ss : List (Step K V I)) (s : Step K V I) (r : Result (Outcome V O) Refused)
    → RunsTo stands entry cmp join f code v ss u → IsStepTaken stands entry cmp join f code u w s r → RunsTo stands entry cmp join f code v (ss ++ s ∷ []) w
runs-append stands entry cmp join f code v u w [] s r run kept = (w, r, subst (λ x. IsStepTaken stands entry cmp join f code x w s r) run kept, refl)
runs-append stands entry cmp join f code v u w (t ∷ ss) s r run kept = (run.0, run.1, run.2, runs-append stands entry cmp join f code run.0 u w ss s r run.3 kept)

pub take-all : {A : Type 0} (n : ℕ) (xs : List A) → length xs ≤ n → take n xs ≡ xs
take-all zero [] h = refl
take-all zero (x ∷ xs) h = absurd (omega arith)
take-all (suc n) [] h = refl
take-all (suc n) (x ∷ xs) h = ap (λ ys. x ∷ ys) (take-all n xs (omega arith))

-- where no read of a page may fail, the list of what is live is refused for want of memory alone
module _ {R : Type 0} (stands : R → Standing) (can_fail : R → ℕ → Type 0) (receipts : List (Option Standing)) (bits : ℕ) (never : (page : ℕ) → MayFail stands can_fail receipts bits page → ⊥) where
  reads-never : (page old new : ℕ) (e : Refused) → ReadFailsBy page old new e → (e ≢ NoMemory → (n : ℕ) × MayFail stands can_fail receipts bits n) → e ≡ NoMemory
  reads-never page old new e f caused = elim f [
    | inl a ↦ elim a [
      | inl b ↦ b.0
      | inr b ↦ (let device : e ≡ Device 3 page = b.0 in let other : e ≢ NoMemory = λ t. cc in absurd (never (caused other).0 (caused other).1))
    ]
    | inr b ↦ (let damaged : e ≡ Damaged page = b.0 in let other : e ≢ NoMemory = λ t. cc in absurd (never (caused other).0 (caused other).1))
  ]

  pub memory-only : (low flushed old new : ℕ) (e : Refused) → IsScanRefusal true low flushed old new e → (e ≢ NoMemory → (n : ℕ) × MayFail stands can_fail receipts bits n) → e ≡ NoMemory
  memory-only low flushed old new e (IsScanRefusal.memory a b) caused = a
  memory-only low flushed old new e (IsScanRefusal.at_page {page} a b why) caused = elim why [
    | inl r ↦ reads-never page old new e r caused
    | inr s ↦ absurd (s.0 refl)
  ]
