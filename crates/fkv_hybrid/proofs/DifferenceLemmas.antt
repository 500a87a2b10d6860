-- How two lists differ.
use Rattle.std.proofs.Common.{◌≡◌, ◌≤◌, ◌==◌, ℕ, suc, Bool, true, false, List, [], ◌∷◌, length, drop, Option, Some, None, refl, ap, ◌∙◌, arith}
use Rattle.std.proofs.lemmas.List.{drop_all}
use Rattle.std.proofs.lemmas.Bool.{eqb-true}
use Rattle.std.proofs.lemmas.Bool.Decides.{nat_tests}
use Rattle.fkv_hybrid.specs.Flushes.{first_difference, difference}

by_nothing : (xs : List ℕ) → first_difference xs [] ≡ None
by_nothing [] = refl
by_nothing (x ∷ xs) = refl

-- so nothing differs there
pub none_differs : (xs ys : List ℕ) (n : ℕ) → length ys ≤ n → first_difference (drop n xs) (drop n ys) ≡ None
none_differs xs ys n h = ap (λ (l : List ℕ). first_difference (drop n xs) l) (drop_all n ys h) ∙ by_nothing (drop n xs)

-- lists of one length that differ nowhere are one
pub none_same : (xs ys : List ℕ) → first_difference xs ys ≡ None → length xs ≡ length ys → xs ≡ ys
none_same [] [] h e = refl
none_same [] (y ∷ ys) h e = absurd (omega arith)
none_same (x ∷ xs) [] h e = absurd (omega arith)
none_same (x ∷ xs) (y ∷ ys) h e = by_test (λ g. none_same xs ys g (let l : suc (length xs) ≡ suc (length ys) = e in omega arith)) (x == y) refl
  where
    by_test : (first_difference xs ys ≡ None → xs ≡ ys) → (b : Bool) → (x == y) ≡ b → ◌≡◌ {A = List ℕ} (x ∷ xs) (y ∷ ys)
    by_test others true t =
        let one : x ≡ y = eqb-true x y t in
        let rest : xs ≡ ys = others (rw t at h) in
        λ j. one j ∷ rest j
    by_test others false t = absurd (let some : ◌≡◌ {A = Option (ℕ × ℕ)} (Some (x, y)) None = rw t at h in cc)

pub no_difference : (held came : List ℕ) → difference held came ≡ None → held ≡ came
no_difference held came h = by_test (length held == length came) refl
  where
    by_test : (b : Bool) → (length held == length came) ≡ b → held ≡ came
    by_test true t = none_same held came (rw t at h) (eqb-true (length held) (length came) t)
    by_test false t = absurd (let some : ◌≡◌ {A = Option (ℕ × ℕ)} (Some (length held, length came)) None = rw t at h in cc)

-- a list differs from itself nowhere
by_itself : (xs : List ℕ) → first_difference xs xs ≡ None
by_itself [] = refl
by_itself (x ∷ xs) = let t : (x == x) ≡ true = grind (arith, nat_tests) in rw t (by_itself xs)

pub same_difference : (held came : List ℕ) → held ≡ came → difference held came ≡ None
same_difference held came h = let t : (length came == length came) ≡ true = grind (arith, nat_tests) in rw (h, t) (by_itself came)
