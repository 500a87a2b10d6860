-- Lemmas on lives, on what is first in them, and on the map before a step.
use Rattle.std.proofs.Common.{◌≡◌, ◌≢◌, Bool, true, false, cond, ◌&&◌, ℕ, zero, suc, ◌<◌, ◌⊎◌, inl, inr, List, [], ◌∷◌, ◌++◌, Option, Some, None, slice_get, refl, ◌∙◌, ap, arith}
use Rattle.std.proofs.lemmas.Bool.Decides.{nat_tests}
use Rattle.std.specs.declared.cmp.Ordering.{Ordering}
use Rattle.fkv_functions.specs.Meanings.{Meanings}
use Rattle.fkv_operations.specs.Operations.{may_update}
use Rattle.fkv_lives.specs.declared.lives.Life.{Life}
use Rattle.fkv_lives.specs.declared.lives.End.{End}
use Rattle.fkv_lives.specs.declared.lives.Finish.{Finish}
use Rattle.fkv_lives.specs.Lives.{finish_of, has_effect_at, updates_at, first_by, update_at, after_some, map_before}
use Rattle.fkv_lives.specs.Changes.{ended_at}

-- ---- lists
pub append_cases : {A : Type 0} (xs : List A) (y : A) (i : ℕ) (w : A) → slice_get (xs ++ y ∷ []) i ≡ Some w → (slice_get xs i ≡ Some w) ⊎ (w ≡ y)
append_cases [] y zero w h = let e : w ≡ y = cc in inr e
append_cases [] y (suc i) w h = inl h
append_cases (x ∷ xs) y zero w h = inl h
append_cases (x ∷ xs) y (suc i) w h = append_cases xs y i w h

pub append_old : {A : Type 0} (xs : List A) (y : A) (i : ℕ) (w : A) → slice_get xs i ≡ Some w → slice_get (xs ++ y ∷ []) i ≡ Some w
append_old [] y i w h = absurd (cc)
append_old (x ∷ xs) y zero w h = h
append_old (x ∷ xs) y (suc i) w h = append_old xs y i w h

-- ---- the first that passes
pub first_by-none : {A B : Type 0} (p : A → Bool) (g : A → Option B) (xs : List A) → ((i : ℕ) (x : A) → slice_get xs i ≡ Some x → p x ≡ false) → first_by p g xs ≡ None
first_by-none p g [] h = refl
first_by-none p g (x ∷ xs) h = rw (h zero x refl) (first_by-none p g xs (λ i. h (suc i)))

pub first_by-append : {A B : Type 0} (p : A → Bool) (g : A → Option B) (xs : List A) (y : A) → p y ≡ false → first_by p g (xs ++ y ∷ []) ≡ first_by p g xs
first_by-append p g [] y h = rw h refl
first_by-append p g (x ∷ xs) y h = ap (cond (p x) (g x)) (first_by-append p g xs y h)

-- ---- a life ends
pub ended_cases : {K V I O : Type 0} (lives : List (Life K V I O)) (j : ℕ) (e : End O) (x : Life K V I O) → slice_get lives j ≡ Some x → (i : ℕ) (y : Life K V I O) → slice_get (ended_at lives j e) i ≡ Some y → ((i ≡ j) × (y ≡ record x { end = e })) ⊎ ((i ≢ j) × (slice_get lives i ≡ Some y))
ended_cases [] j e x h i y k = absurd (cc)
ended_cases (z ∷ zs) zero e x h zero y k =
    let same : z ≡ x = cc in
    let n : y ≡ record z { end = e } = cc in
    inl (refl, n ∙ ap (λ (w : Life _ _ _ _). record w { end = e }) same)
ended_cases (z ∷ zs) zero e x h (suc i) y k = inr ((λ n. omega arith), k)
ended_cases (z ∷ zs) (suc j) e x h zero y k = inr ((λ n. omega arith), k)
ended_cases (z ∷ zs) (suc j) e x h (suc i) y k = elim (ended_cases zs j e x h i y k) [ inl c ↦ inl (ap suc c.0, c.1) | inr c ↦ inr ((λ n. c.0 (omega arith)), c.1) ]

pub ended_here : {K V I O : Type 0} (lives : List (Life K V I O)) (j : ℕ) (e : End O) (x : Life K V I O) → slice_get lives j ≡ Some x → slice_get (ended_at lives j e) j ≡ Some (record x { end = e })
ended_here [] j e x h = absurd (cc)
ended_here (z ∷ zs) zero e x h = let same : z ≡ x = cc in ap (λ (w : Life _ _ _ _). Some (record w { end = e })) same
ended_here (z ∷ zs) (suc j) e x h = ended_here zs j e x h

pub ended_other : {K V I O : Type 0} (lives : List (Life K V I O)) (j : ℕ) (e : End O) (i : ℕ) → i ≢ j → slice_get (ended_at lives j e) i ≡ slice_get lives i
ended_other [] j e i h = refl
ended_other (z ∷ zs) zero e zero h = absurd (h refl)
ended_other (z ∷ zs) zero e (suc i) h = refl
ended_other (z ∷ zs) (suc j) e zero h = refl
ended_other (z ∷ zs) (suc j) e (suc i) h = ended_other zs j e i (λ n. h (ap suc n))

-- where neither the life before nor the one after passes
pub first_by-ended_quiet : {K V I O B : Type 0} (p : Life K V I O → Bool) (g : Life K V I O → Option B) (lives : List (Life K V I O)) (j : ℕ) (e : End O) (x : Life K V I O) → slice_get lives j ≡ Some x → p x ≡ false → p (record x { end = e }) ≡ false → first_by p g (ended_at lives j e) ≡ first_by p g lives
first_by-ended_quiet p g [] j e x h old new = refl
first_by-ended_quiet p g (z ∷ zs) zero e x h old new =
    let same : z ≡ x = cc in
    let a : p z ≡ false = ap p same ∙ old in
    let b : p (record z { end = e }) ≡ false = ap (λ (w : Life _ _ _ _). p (record w { end = e })) same ∙ new in
    rw (a, b) refl
first_by-ended_quiet p g (z ∷ zs) (suc j) e x h old new = ap (cond (p z) (g z)) (first_by-ended_quiet p g zs j e x h old new)

-- where none passed, and the new one does
pub first_by-ended_now : {K V I O B : Type 0} (p : Life K V I O → Bool) (g : Life K V I O → Option B) (lives : List (Life K V I O)) (j : ℕ) (e : End O) (x : Life K V I O) → slice_get lives j ≡ Some x → ((i : ℕ) (y : Life K V I O) → slice_get lives i ≡ Some y → p y ≡ false) → p (record x { end = e }) ≡ true → first_by p g (ended_at lives j e) ≡ g (record x { end = e })
first_by-ended_now p g [] j e x h none new = absurd (cc)
first_by-ended_now p g (z ∷ zs) zero e x h none new =
    let same : z ≡ x = cc in
    let b : p (record z { end = e }) ≡ true = ap (λ (w : Life _ _ _ _). p (record w { end = e })) same ∙ new in
    rw b (ap (λ (w : Life _ _ _ _). g (record w { end = e })) same)
first_by-ended_now p g (z ∷ zs) (suc j) e x h none new = rw (none zero z refl) (first_by-ended_now p g zs j e x h (λ i. none (suc i)) new)

-- ---- tests of a life
and-false : (b : Bool) → (b && false) ≡ false
and-false true = refl
and-false false = refl

pub updates_at-untold : {K V I O : Type 0} (s : ℕ) (x : Life K V I O) → finish_of x ≡ None → updates_at s x ≡ false
updates_at-untold s x h = rw h (and-false (may_update x.op))

effect-no : {O : Type 0} (s : ℕ) (o : Option (Finish O)) → ((t : Finish O) → o ≡ Some t → t.effect ≢ s) → has_effect_at s o ≡ false
effect-no s None h = refl
effect-no s (Some t) h = let ne : t.effect ≢ s = h t refl in grind (arith, nat_tests)

pub updates_at-other : {K V I O : Type 0} (s : ℕ) (x : Life K V I O) → ((t : Finish O) → finish_of x ≡ Some t → t.effect ≢ s) → updates_at s x ≡ false
updates_at-other s x h = ap (λ b. may_update x.op && b) (effect-no s (finish_of x) h) ∙ and-false (may_update x.op)

-- ---- the map before a step
pub map_before-same : {K V I O : Type 0} (cmp : K → K → Ordering) (f : Meanings K V I O) (l k : List (Life K V I O)) (n : ℕ) → ((s : ℕ) → s < n → update_at l s ≡ update_at k s) → map_before cmp f l n ≡ map_before cmp f k n
map_before-same cmp f l k zero h = refl
map_before-same cmp f l k (suc n) h =
    ap (λ m. after_some cmp f m (update_at l n)) (map_before-same cmp f l k n (λ s b. h s (omega arith)))
    ∙ ap (after_some cmp f (map_before cmp f k n)) (h n (omega arith))
