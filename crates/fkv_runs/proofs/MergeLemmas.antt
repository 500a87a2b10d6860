-- What the merge of lists gives first, and what it holds.
use Rattle.std.proofs.Common.{◌≡◌, ℕ, zero, suc, ◌+◌, ◌<◌, drop, length, get_or, Bool, true, false, cond, List, [], ◌∷◌, map, Option, Some, None, slice_get, slice_set, refl, sym, ◌∙◌, ap, subst, arith}
use Rattle.std.proofs.lemmas.List.{drop_more, length-map, map-set}
use Rattle.std.proofs.lemmas.Option.{slice_get-get_or, slice_get-map, slice_get_within}
use Rattle.std.specs.Option.{option_map}
use Rattle.std.specs.Ordering.{is_gt}
use Rattle.std.specs.BTreeMap.{is_at}
use Rattle.std.specs.Map.{lookup, keys_of}
use Rattle.std.specs.List.{AllByRecursion}
use Rattle.std.specs.Cmp.{IsTotalOrder}
use Rattle.std.specs.declared.cmp.Ordering.{Ordering}
use Rattle.fkv_runs.specs.Merging.{merged_from, merged_two, merged, chosen, first_from, behind, sooner, first_of, first_key, first_pair}

module _ {K V : Type 0} (cmp : K → K → Ordering) where
  pub merged_nil : (xs : List (K × V)) → merged_two cmp xs [] ≡ xs
  merged_nil [] = refl
  merged_nil (x ∷ xs) = refl

  -- the list at p gives the next pair of the merge, whose key is k
  pub record Gives (xss : List (List (K × V))) (p : ℕ) (k : K) : Type 0 where
    pub first : K × V
    pub rest : List (K × V)
    pub here : slice_get xss p ≡ Some (first ∷ rest)
    pub key : k ≡ first.0
    pub next : merged cmp xss ≡ first ∷ merged cmp (slice_set xss p rest)

  abbrev Told : List (List (K × V)) → Option (ℕ × K) → Type 0
  Told xss None = merged cmp xss ≡ []
  Told xss (Some p) = Gives xss p.0 p.1

  told-behind : (xss : List (List (K × V))) (o : Option (ℕ × K)) → Told xss o → Told ([] ∷ xss) (behind cmp o)
  told-behind xss None t = t
  told-behind xss (Some p) t = record { first = t.first; rest = t.rest; here = t.here; key = t.key; next = t.next }

  told-sooner : (y : K × V) (ys : List (K × V)) (xss : List (List (K × V))) (o : Option (ℕ × K)) → Told xss o → Told ((y ∷ ys) ∷ xss) (sooner cmp y.0 o)
  told-sooner y ys xss None t = record {
    first = y;
    rest = ys;
    here = refl;
    key = refl;
    next = ap (merged_two cmp (y ∷ ys)) t ∙ ap (λ zs. y ∷ zs) (sym (ap (merged_two cmp ys) t ∙ merged_nil ys));
  }
  told-sooner y ys xss (Some p) t = by_order (is_gt (cmp y.0 p.1)) refl
    where
      came : merged_two cmp (y ∷ ys) (merged cmp xss) ≡ cond (is_gt (cmp y.0 p.1)) (t.first ∷ merged_two cmp (y ∷ ys) (merged cmp (slice_set xss p.0 t.rest))) (y ∷ merged_two cmp ys (merged cmp xss))
      came = ap (merged_two cmp (y ∷ ys)) t.next
          ∙ ap (λ k. cond (is_gt (cmp y.0 k)) (t.first ∷ merged_two cmp (y ∷ ys) (merged cmp (slice_set xss p.0 t.rest))) (y ∷ merged_two cmp ys (t.first ∷ merged cmp (slice_set xss p.0 t.rest)))) (sym t.key)
          ∙ ap (λ zs. cond (is_gt (cmp y.0 p.1)) (t.first ∷ merged_two cmp (y ∷ ys) (merged cmp (slice_set xss p.0 t.rest))) (y ∷ merged_two cmp ys zs)) (sym t.next)

      by_order : (b : Bool) → is_gt (cmp y.0 p.1) ≡ b → Told ((y ∷ ys) ∷ xss) (cond b (Some (suc p.0, p.1)) (Some (0, y.0)))
      by_order true e = record {
        first = t.first;
        rest = t.rest;
        here = t.here;
        key = t.key;
        next = came ∙ ap (λ c. cond c (t.first ∷ merged_two cmp (y ∷ ys) (merged cmp (slice_set xss p.0 t.rest))) (y ∷ merged_two cmp ys (merged cmp xss))) e;
      }
      by_order false e = record {
        first = y;
        rest = ys;
        here = refl;
        key = refl;
        next = came ∙ ap (λ c. cond c (t.first ∷ merged_two cmp (y ∷ ys) (merged cmp (slice_set xss p.0 t.rest))) (y ∷ merged_two cmp ys (merged cmp xss))) e;
      }

  -- the list whose first key is the least gives the next pair of the merge; where no list has a pair, the merge has none
  pub told : (xss : List (List (K × V))) → Told xss (first_of cmp (map first_key xss))
  told [] = refl
  told ([] ∷ xss) = told-behind xss (first_of cmp (map first_key xss)) (told xss)
  told ((y ∷ ys) ∷ xss) = told-sooner y ys xss (first_of cmp (map first_key xss)) (told xss)

  -- ---- what it holds
  module _ (test : K → Bool) where
    passed : (x : K × V) (xs : List (K × V)) (b : Bool) → test x.0 ≡ b → lookup test (x ∷ xs) ≡ cond b (Some x.1) (lookup test xs)
    passed x xs b e = ap (λ b. cond b (Some x.1) (lookup test xs)) e

    left-more : (x y : K × V) (xs ys zs more : List (K × V)) (b c : Bool) → test y.0 ≡ c → lookup test (y ∷ ys) ≡ None
        → lookup test zs ≡ lookup test xs
        → (lookup test ys ≡ None → lookup test more ≡ lookup test (x ∷ xs))
        → lookup test (cond b (y ∷ more) (x ∷ zs)) ≡ lookup test (x ∷ xs)
    left-more x y xs ys zs more false c e none h g = ap (cond (test x.0) (Some x.1)) h
    left-more x y xs ys zs more true true e none h g = (let t : Some y.1 ≡ None = sym (passed y ys true e) ∙ none in absurd (cc))
    left-more x y xs ys zs more true false e none h g = passed y more false e ∙ g (sym (passed y ys false e) ∙ none)

    from-left : (x : K × V) (xs : List (K × V)) (on : List (K × V) → List (K × V)) → ((ys : List (K × V)) → lookup test ys ≡ None → lookup test (on ys) ≡ lookup test xs)
        → (ys : List (K × V)) → lookup test ys ≡ None → lookup test (merged_from cmp x xs on ys) ≡ lookup test (x ∷ xs)
    from-left x xs on h [] none = refl
    from-left x xs on h (y ∷ ys) none =
        left-more x y xs ys (on (y ∷ ys)) (merged_from cmp x xs on ys) (is_gt (cmp x.0 y.0)) (test y.0) refl none (h (y ∷ ys) none) (from-left x xs on h ys)

    -- a key that the second list has not has what it has in the first
    pub lookup-left : (xs ys : List (K × V)) → lookup test ys ≡ None → lookup test (merged_two cmp xs ys) ≡ lookup test xs
    lookup-left [] ys none = none
    lookup-left (x ∷ xs) ys none = from-left x xs (merged_two cmp xs) (λ zs. lookup-left xs zs) ys none

    right-more : (x y : K × V) (ys zs more : List (K × V)) (b : Bool) → test x.0 ≡ false
        → lookup test zs ≡ lookup test (y ∷ ys)
        → lookup test more ≡ lookup test ys
        → lookup test (cond b (y ∷ more) (x ∷ zs)) ≡ lookup test (y ∷ ys)
    right-more x y ys zs more false off h g = passed x zs false off ∙ h
    right-more x y ys zs more true off h g = ap (cond (test y.0) (Some y.1)) g

    from-right : (x : K × V) (xs : List (K × V)) (on : List (K × V) → List (K × V)) → test x.0 ≡ false → lookup test xs ≡ None
        → ((ys : List (K × V)) → lookup test (on ys) ≡ lookup test ys)
        → (ys : List (K × V)) → lookup test (merged_from cmp x xs on ys) ≡ lookup test ys
    from-right x xs on off none h [] = passed x xs false off ∙ none
    from-right x xs on off none h (y ∷ ys) =
        right-more x y ys (on (y ∷ ys)) (merged_from cmp x xs on ys) (is_gt (cmp x.0 y.0)) off (h (y ∷ ys)) (from-right x xs on off none h ys)

    right-first : (x : K × V) (xs ys : List (K × V)) (b : Bool) → test x.0 ≡ b → lookup test (x ∷ xs) ≡ None
        → (lookup test xs ≡ None → (zs : List (K × V)) → lookup test (merged_two cmp xs zs) ≡ lookup test zs)
        → lookup test (merged_two cmp (x ∷ xs) ys) ≡ lookup test ys
    right-first x xs ys true e none h = (let t : Some x.1 ≡ None = sym (passed x xs true e) ∙ none in absurd (cc))
    right-first x xs ys false e none h = (let rest : lookup test xs ≡ None = sym (passed x xs false e) ∙ none in
        from-right x xs (merged_two cmp xs) e rest (h rest) ys)

    -- a key that the first list has not has what it has in the second
    pub lookup-right : (xs ys : List (K × V)) → lookup test xs ≡ None → lookup test (merged_two cmp xs ys) ≡ lookup test ys
    lookup-right [] ys none = refl
    lookup-right (x ∷ xs) ys none = right-first x xs ys (test x.0) refl none (λ rest zs. lookup-right xs zs rest)

  -- ---- a key that at most one list has: the merge has it as that list does
  pub lookup-none : (xss : List (List (K × V))) (k : K) → ((q : ℕ) (xs : List (K × V)) → slice_get xss q ≡ Some xs → lookup (is_at (cmp k)) xs ≡ None) → lookup (is_at (cmp k)) (merged cmp xss) ≡ None
  lookup-none [] k h = refl
  lookup-none (xs ∷ xss) k h = lookup-right (is_at (cmp k)) xs (merged cmp xss) (h 0 xs refl) ∙ lookup-none xss k (λ q ys. h (suc q) ys)

  pub lookup-merged : (xss : List (List (K × V))) (k : K) (p : ℕ) (xs : List (K × V)) → slice_get xss p ≡ Some xs
      → ((q : ℕ) (ys : List (K × V)) → slice_get xss q ≡ Some ys → (q ≡ p → ⊥) → lookup (is_at (cmp k)) ys ≡ None)
      → lookup (is_at (cmp k)) (merged cmp xss) ≡ lookup (is_at (cmp k)) xs
  lookup-merged [] k p xs here h = absurd (cc)
  lookup-merged (ys ∷ xss) k zero xs here h = (let same : ys ≡ xs = cc in
      lookup-left (is_at (cmp k)) ys (merged cmp xss) (lookup-none xss k (λ q zs there. h (suc q) zs there (λ e. absurd (cc)))) ∙ ap (lookup (is_at (cmp k))) same)
  lookup-merged (ys ∷ xss) k (suc p) xs here h =
      lookup-right (is_at (cmp k)) ys (merged cmp xss) (h 0 ys refl (λ e. absurd (cc)))
      ∙ lookup-merged xss k p xs here (λ q zs there n. h (suc q) zs there (λ e. n (cc)))

  -- ---- keys rise
  module _ (o : IsTotalOrder cmp) where
    pub all-from : (P : K → Type 0) (x : K × V) (xs : List (K × V)) (on : List (K × V) → List (K × V)) → P x.0 → AllByRecursion P (keys_of xs)
        → ((ys : List (K × V)) → AllByRecursion P (keys_of ys) → AllByRecursion P (keys_of (on ys)))
        → (ys : List (K × V)) → AllByRecursion P (keys_of ys) → AllByRecursion P (keys_of (merged_from cmp x xs on ys))
    all-from P x xs on one all h [] ys = (one, all)
    all-from P x xs on one all h (y ∷ ys) a = either (is_gt (cmp x.0 y.0)) (all-from P x xs on one all h ys a.1) (h (y ∷ ys) a)
      where
        either : (b : Bool) → AllByRecursion P (keys_of (merged_from cmp x xs on ys)) → AllByRecursion P (keys_of (on (y ∷ ys)))
            → AllByRecursion P (keys_of (cond b (y ∷ merged_from cmp x xs on ys) (x ∷ on (y ∷ ys))))
        either true here there = (a.0, here)
        either false here there = (one, there)

    pub all-merged : (P : K → Type 0) (xs ys : List (K × V)) → AllByRecursion P (keys_of xs) → AllByRecursion P (keys_of ys) → AllByRecursion P (keys_of (merged_two cmp xs ys))
    all-merged P [] ys a b = b
    all-merged P (x ∷ xs) ys a b = all-from P x xs (merged_two cmp xs) a.0 a.1 (λ zs. all-merged P xs zs a.1) ys b

module _ {K : Type 0} (cmp : K → K → Ordering) where
  -- places counted from k
  abbrev moved : ℕ → Option (ℕ × K) → Option (ℕ × K)
  moved k None = None
  moved k (Some p) = Some (k + p.0, p.1)

  moved-behind : (k : ℕ) (o : Option (ℕ × K)) → moved (suc k) o ≡ moved k (behind cmp o)
  moved-behind k None = refl
  moved-behind k (Some p) = ap (λ n. Some (n, p.1)) (omega arith)

  moved-sooner : (k : ℕ) (y : K) (o : Option (ℕ × K)) → chosen cmp k (Some y) (moved (suc k) o) ≡ moved k (sooner cmp y o)
  moved-sooner k y None = ap (λ n. Some (n, y)) (omega arith)
  moved-sooner k y (Some p) = by_order (is_gt (cmp y p.1))
    where
      by_order : (b : Bool) → cond b (Some (suc k + p.0, p.1)) (Some (k, y)) ≡ moved k (cond b (Some (suc p.0, p.1)) (Some (0, y)))
      by_order true = ap (λ n. Some (n, p.1)) (omega arith)
      by_order false = ap (λ n. Some (n, y)) (omega arith)

  first_moved : (ks : List (Option K)) (k : ℕ) → first_from cmp k ks ≡ moved k (first_of cmp ks)
  first_moved [] k = refl
  first_moved (None ∷ ks) k = first_moved ks (suc k) ∙ moved-behind k (first_of cmp ks)
  first_moved (Some y ∷ ks) k = ap (chosen cmp k (Some y)) (first_moved ks (suc k)) ∙ moved-sooner k y (first_of cmp ks)

  moved_none : (o : Option (ℕ × K)) → moved 0 o ≡ o
  moved_none None = refl
  moved_none (Some p) = ap (λ n. Some (n, p.1)) (omega arith)

  pub first_is_first : (ks : List (Option K)) → first_from cmp 0 ks ≡ first_of cmp ks
  first_is_first ks = first_moved ks 0 ∙ moved_none (first_of cmp ks)

-- ---- the first of the keys, found from the end
module _ {X K V : Type 0} (cmp : K → K → Ordering) (left : X → List (K × V)) where
  pub first_step : (rests : List X) (i : ℕ) (d : X) → i < length rests
      → first_from cmp i (map first_key (map left (drop i rests)))
      ≡ chosen cmp i (first_key (left (get_or rests i d))) (first_from cmp (i + 1) (map first_key (map left (drop (i + 1) rests))))
  first_step rests i d h =
      ap (λ zs. first_from cmp i (map first_key (map left zs))) (drop_more rests i d h)
      ∙ ap (λ m. chosen cmp i (first_key (left (get_or rests i d))) (first_from cmp m (map first_key (map left (drop (i + 1) rests))))) (suc_is i)
    where
      suc_is : (n : ℕ) → suc n ≡ n + 1
      suc_is n = omega arith

module _ {K V : Type 0} (cmp : K → K → Ordering) where
  abbrev pub Tells : List (List (K × V)) → Option (ℕ × K) → Type 0
  Tells xss None = merged cmp xss ≡ []
  Tells xss (Some p) = Gives cmp xss p.0 p.1

  pub tells : (xss : List (List (K × V))) (o : Option (ℕ × K)) → o ≡ first_from cmp 0 (map first_key xss) → Tells xss o
  tells xss o e = subst (Tells xss) (sym (e ∙ first_is_first cmp (map first_key xss))) (as_told (first_of cmp (map first_key xss)) (told cmp xss))
    where
      as_told : (o : Option (ℕ × K)) → Told cmp xss o → Tells xss o
      as_told None t = t
      as_told (Some p) t = t

-- ---- the merge of what several have left
module _ {X K V : Type 0} (cmp : K → K → Ordering) (left : X → List (K × V)) (rests : List X) where
  abbrev IsFirst : Option (ℕ × K) → Type 0
  IsFirst o = o ≡ first_from cmp 0 (map first_key (map left rests))

  pub none_left : IsFirst None → merged cmp (map left rests) ≡ []
  none_left e = tells cmp (map left rests) None e

  module _ (p : ℕ) (k : K) (e : IsFirst (Some (p, k))) where
    given : Gives cmp (map left rests) p k
    given = tells cmp (map left rests) (Some (p, k)) e

    pub next_key : Some k ≡ first_key (merged cmp (map left rests))
    next_key = ap (λ q. Some q) given.key ∙ ap first_key (sym given.next)

    pub next_within : p < length rests
    next_within = subst (λ n. p < n) (length-map rests left) (slice_get_within (map left rests) p (given.first ∷ given.rest) given.here)

    module _ (one : X) (at : one ≡ get_or rests p one) where
      has : left one ≡ given.first ∷ given.rest
      has = (let there : slice_get rests p ≡ Some one = slice_get-get_or rests p one next_within ∙ ap (λ x. Some x) (sym at) in
          let same : Some (left one) ≡ Some (given.first ∷ given.rest) = sym (slice_get-map left rests p ∙ ap (option_map left) there) ∙ given.here in cc)

      pub next_pair : first_pair (left one) ≡ first_pair (merged cmp (map left rests))
      next_pair = ap first_pair has ∙ ap first_pair (sym given.next)

      -- one that has all but its first pair left, in its place
      pub next_rest : (other : X) → left other ≡ drop 1 (left one) → merged cmp (map left (slice_set rests p other)) ≡ drop 1 (merged cmp (map left rests))
      next_rest other less =
          ap (merged cmp) (map-set left rests p other ∙ ap (slice_set (map left rests) p) (less ∙ ap (drop 1) has))
          ∙ ap (drop 1) (sym given.next)
