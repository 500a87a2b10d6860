-- Lists of pairs, the keys of each of which have its place for a home.
use Rattle.std.proofs.Common.{◌≡◌, ◌≢◌, ◌+◌, ℕ, zero, suc, Bool, true, false, cond, List, [], ◌∷◌, ◌++◌, length, Some, None, slice_get, refl, ◌∙◌, ap, subst, arith}
use Rattle.std.specs.BTreeMap.{is_at}
use Rattle.std.specs.Map.{lookup, keys_of}
use Rattle.std.specs.List.{AllByRecursion}
use Rattle.std.specs.declared.cmp.Ordering.{Ordering}
use Rattle.fkv_functions.specs.Plain.{IsKeyOrder}
use Rattle.fkv_runs.specs.Merging.{merged, AreHomed}
use Rattle.fkv_runs.proofs.MergeLemmas.{lookup-merged}

module _ {K V : Type 0} (home : K → ℕ) where
  -- one list more, of the next place
  pub homed-more : (n m : ℕ) (xss : List (List (K × V))) (xs : List (K × V)) → m ≡ n + length xss → AreHomed home n xss
      → AllByRecursion (λ q. home q ≡ m) (keys_of xs) → AreHomed home n (xss ++ xs ∷ [])
  homed-more n m [] xs e h all = (subst (λ k. AllByRecursion (λ q. home q ≡ k) (keys_of xs)) (let t : m ≡ n = omega arith in t) all, tt)
  homed-more n m (ys ∷ yss) xs e h all = (h.0, homed-more (suc n) m yss xs (omega arith) h.1 all)

  pub homed-at : (n p : ℕ) (xss : List (List (K × V))) (xs : List (K × V)) → AreHomed home n xss → slice_get xss p ≡ Some xs
      → AllByRecursion (λ q. home q ≡ n + p) (keys_of xs)
  homed-at n p [] xs h here = absurd (cc)
  homed-at n zero (ys ∷ yss) xs h here = (let same : ys ≡ xs = cc in
      subst (λ zs. AllByRecursion (λ q. home q ≡ n + 0) (keys_of zs)) same (subst (λ k. AllByRecursion (λ q. home q ≡ k) (keys_of ys)) (let t : n ≡ n + 0 = omega arith in t) h.0))
  homed-at n (suc p) (ys ∷ yss) xs h here =
      subst (λ k. AllByRecursion (λ q. home q ≡ k) (keys_of xs)) (let t : suc n + p ≡ n + suc p = omega arith in t) (homed-at (suc n) p yss xs h.1 here)

  module _ (cmp : K → K → Ordering) (same : IsKeyOrder cmp) where
    -- a key of another home is in none of these pairs
    elsewhere : (k : K) (m : ℕ) (xs : List (K × V)) → home k ≢ m → AllByRecursion (λ q. home q ≡ m) (keys_of xs) → lookup (is_at (cmp k)) xs ≡ None
    elsewhere k m [] n all = refl
    elsewhere k m (x ∷ xs) n all = by_test (is_at (cmp k) x.0) refl (elsewhere k m xs n all.1)
      where
        by_test : (b : Bool) → is_at (cmp k) x.0 ≡ b → lookup (is_at (cmp k)) xs ≡ None → cond b (Some x.1) (lookup (is_at (cmp k)) xs) ≡ None
        by_test true e rest = absurd (n (ap home (same.same k x.0 e) ∙ all.0))
        by_test false e rest = rest

    -- a key is in the merge what it is in the list of its home
    pub lookup-home : (k : K) (p : ℕ) (xss : List (List (K × V))) (xs : List (K × V)) → AreHomed home 0 xss → home k ≡ p → slice_get xss p ≡ Some xs
        → lookup (is_at (cmp k)) (merged cmp xss) ≡ lookup (is_at (cmp k)) xs
    lookup-home k p xss xs h e here =
        lookup-merged cmp xss k p xs here
        (λ q ys there other. elsewhere k (0 + q) ys (λ t. other (let u : q ≡ p = omega arith in u)) (homed-at 0 q xss ys h there))
