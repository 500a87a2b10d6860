-- Keys that rise in each of several lists, no two of which have one in common, rise in their merge.
use Rattle.std.proofs.Common.{◌≡◌, ◌≢◌, ◌≤◌, ℕ, suc, Bool, true, false, cond, List, [], ◌∷◌, refl, ◌∙◌, ap, arith}
use Rattle.std.specs.Ordering.{is_gt, ordering_reverse}
use Rattle.std.specs.BTreeMap.{is_at}
use Rattle.std.specs.Map.{keys_of}
use Rattle.std.specs.List.{AllByRecursion}
use Rattle.std.specs.List.Sorted.{IsStrictlySortedBy}
use Rattle.std.specs.Cmp.{IsTotalOrder}
use Rattle.std.specs.declared.cmp.Ordering.{Ordering}
use Rattle.std.specs.declared.cmp.Ordering.TheVariants.{Less, Equal, Greater}
use Rattle.fkv_functions.specs.Plain.{IsKeyOrder}
use Rattle.fkv_runs.specs.Merging.{merged_from, merged_two, merged, AreHomed}
use Rattle.fkv_runs.proofs.MergeLemmas.{all-merged, all-from}

all_by : {X : Type 0} {P Q : X → Type 0} (f : (x : X) → P x → Q x) (xs : List X) → AllByRecursion P xs → AllByRecursion Q xs
all_by f [] a = a
all_by f (x ∷ xs) a = (f x a.0, all_by f xs a.1)

all_both : {X : Type 0} {P Q R : X → Type 0} (f : (x : X) → P x → Q x → R x) (xs : List X) → AllByRecursion P xs → AllByRecursion Q xs → AllByRecursion R xs
all_both f [] a b = a
all_both f (x ∷ xs) a b = (f x a.0 b.0, all_both f xs a.1 b.1)

module _ {K : Type 0} (cmp : K → K → Ordering) (o : IsTotalOrder cmp) (same : IsKeyOrder cmp) where
  later : (k q : K) → is_gt (cmp k q) ≡ true → cmp q k ≡ Less
  later k q e = o.antisymm q k ∙ ap ordering_reverse (greater (cmp k q) e)
    where
      greater : (r : Ordering) → is_gt r ≡ true → r ≡ Greater
      greater Less e = absurd (cc)
      greater Equal e = absurd (cc)
      greater Greater e = refl

  sooner : (k q : K) → is_gt (cmp k q) ≡ false → k ≢ q → cmp k q ≡ Less
  sooner k q e n = by_case (cmp k q) refl
    where
      by_case : (r : Ordering) → cmp k q ≡ r → cmp k q ≡ Less
      by_case Less h = h
      by_case Equal h = absurd (n (same.same k q (tied (cmp k q) h)))
        where
          tied : (r : Ordering) → r ≡ Equal → is_at (λ z. r) q ≡ true
          tied r h = rw h refl
      by_case Greater h = absurd (cc)

no_keys : {K : Type 0} (cmp : K → K → Ordering) → IsStrictlySortedBy cmp []
unfolding IsStrictlySortedBy
no_keys cmp = tt

module _ {K V : Type 0} (cmp : K → K → Ordering) (o : IsTotalOrder cmp) (same : IsKeyOrder cmp) where
  abbrev Rises : List (K × V) → Type 0
  Rises xs = IsStrictlySortedBy cmp (keys_of xs)

  abbrev Below : K → List (K × V) → Type 0
  Below k xs = AllByRecursion (λ y. cmp k y ≡ Less) (keys_of xs)

  rises-cons : (x : K × V) (xs : List (K × V)) → Below x.0 xs → Rises xs → Rises (x ∷ xs)
  unfolding IsStrictlySortedBy
  rises-cons x xs a b = (a, b)

  rises-head : (x : K × V) (xs : List (K × V)) → Rises (x ∷ xs) → Below x.0 xs
  unfolding IsStrictlySortedBy
  rises-head x xs r = r.0

  rises-tail : (x : K × V) (xs : List (K × V)) → Rises (x ∷ xs) → Rises xs
  unfolding IsStrictlySortedBy
  rises-tail x xs r = r.1

  below-all : (k q : K) (xs : List (K × V)) → cmp k q ≡ Less → Below q xs → Below k xs
  below-all k q xs h = all_by (λ y. o.trans k q y h) (keys_of xs)

  rises-step : (x y : K × V) (xs ys zs more : List (K × V)) (b : Bool) → is_gt (cmp x.0 y.0) ≡ b → x.0 ≢ y.0
      → (cmp y.0 x.0 ≡ Less → Below y.0 more) → Rises more
      → (cmp x.0 y.0 ≡ Less → Below x.0 zs) → Rises zs
      → Rises (cond b (y ∷ more) (x ∷ zs))
  rises-step x y xs ys zs more true e n h r g s = rises-cons y more (h (later cmp o same x.0 y.0 e)) r
  rises-step x y xs ys zs more false e n h r g s = rises-cons x zs (g (sooner cmp o same x.0 y.0 e n)) s

  from-rises : (x : K × V) (xs : List (K × V)) → Below x.0 xs → Rises xs
      → (on : List (K × V) → List (K × V))
      → ((P : K → Type 0) (ys : List (K × V)) → AllByRecursion P (keys_of xs) → AllByRecursion P (keys_of ys) → AllByRecursion P (keys_of (on ys)))
      → (ys : List (K × V)) → Rises ys → AllByRecursion (λ q. x.0 ≢ q) (keys_of ys)
      → ((zs : List (K × V)) → Rises zs → AllByRecursion (λ q. AllByRecursion (λ p. p ≢ q) (keys_of xs)) (keys_of zs) → Rises (on zs))
      → AllByRecursion (λ q. AllByRecursion (λ p. p ≢ q) (keys_of xs)) (keys_of ys)
      → Rises (merged_from cmp x xs on ys)
  from-rises x xs low r on all [] s apart h others = rises-cons x xs low r
  from-rises x xs low r on all (y ∷ ys) s apart h others =
      rises-step x y xs ys (on (y ∷ ys)) (merged_from cmp x xs on ys) (is_gt (cmp x.0 y.0)) refl apart.0
      (λ e. all-from cmp o (λ q. cmp y.0 q ≡ Less) x xs on e (below-all y.0 x.0 xs e low) (λ zs. all (λ q. cmp y.0 q ≡ Less) zs (below-all y.0 x.0 xs e low)) ys (rises-head y ys s))
      (from-rises x xs low r on all ys (rises-tail y ys s) apart.1 h others.1)
      (λ e. all (λ q. cmp x.0 q ≡ Less) (y ∷ ys) low (e, below-all x.0 y.0 ys e (rises-head y ys s)))
      (h (y ∷ ys) s others)

  abbrev Apart : List (K × V) → List (K × V) → Type 0
  Apart xs ys = AllByRecursion (λ q. AllByRecursion (λ p. p ≢ q) (keys_of xs)) (keys_of ys)

  pub rises-two : (xs ys : List (K × V)) → Rises xs → Rises ys → Apart xs ys → Rises (merged_two cmp xs ys)
  rises-two [] ys r s a = s
  rises-two (x ∷ xs) ys r s a =
      from-rises x xs (rises-head x xs r) (rises-tail x xs r) (merged_two cmp xs) (λ P zs. all-merged cmp o P xs zs) ys s
      (all_by (λ q h. h.0) (keys_of ys) a)
      (λ zs t b. rises-two xs zs (rises-tail x xs r) t b)
      (all_by (λ q h. h.1) (keys_of ys) a)

  -- ---- of lists whose keys have homes that rise from list to list
  module _ (home : K → ℕ) where
    at_home : (xss : List (List (K × V))) (n m : ℕ) → m ≤ n → AreHomed home n xss → AllByRecursion (λ q. m ≤ home q) (keys_of (merged cmp xss))
    at_home [] n m low h = tt
    at_home (xs ∷ xss) n m low h = all-merged cmp o (λ q. m ≤ home q) xs (merged cmp xss)
        (all_by (λ q e. (let t : home q ≡ n = e in omega arith)) (keys_of xs) h.0)
        (at_home xss (suc n) m (omega arith) h.1)

    pub rises-all : (xss : List (List (K × V))) (n : ℕ) → AllByRecursion Rises xss → AreHomed home n xss → Rises (merged cmp xss)
    rises-all [] n r h = no_keys cmp
    rises-all (xs ∷ xss) n r h = rises-two xs (merged cmp xss) r.0 (rises-all xss (suc n) r.1 h.1)
        (all_by (λ q low. all_by (λ p here e. (let t : home p ≡ home q = ap home e in let u : home p ≡ n = here in let v : suc n ≤ home q = low in absurd (omega arith))) (keys_of xs) h.0) (keys_of (merged cmp xss)) (at_home xss (suc n) (suc n) (omega arith) h.1))
