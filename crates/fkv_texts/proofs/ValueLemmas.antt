-- What keys have once entries stand: a fold over the entries of the key.
use Rattle.std.proofs.Common.{◌≡◌, Bool, true, false, cond, ◌&&◌, ℕ, ◌<◌, List, [], ◌∷◌, ◌++◌, filter, Option, Some, None, refl, sym, ◌∙◌, ap, arith, nat_le}
use Rattle.std.proofs.lemmas.Bool.Decides.{nat_tests}
use Rattle.std.specs.List.{fold}
use Rattle.std.specs.Option.{option_or}
use Rattle.std.specs.declared.cmp.Ordering.{Ordering}
use Rattle.std.specs.BTreeMap.{is_at}
use Rattle.fkv_functions.specs.Plain.{PlainMap, IsKeyOrder, with_at}
use Rattle.fkv_texts.specs.declared.entries.Entry.{Entry}
use Rattle.fkv_texts.specs.Text.{has_key, last_of, newest, value_of, live, AllAbove, IsRising}
use Rattle.fkv_texts.specs.Deltas.{combined, value_after, resolved_from, resolved}
use Rattle.fkv_texts.proofs.LastWhere.{last_where-filter}
use Rattle.fkv_texts.proofs.CutLemmas.{filter-one}

-- ---- filters
filter-step : {A : Type 0} (p : A → Bool) (b : Bool) (x : A) (xs ys : List A) → filter p xs ≡ ys → filter p (cond b (x ∷ xs) xs) ≡ cond (b && p x) (x ∷ ys) ys
filter-step p true x xs ys h = ap (λ zs. cond (p x) (x ∷ zs) zs) h
filter-step p false x xs ys h = h

pub filter-filter : {A : Type 0} (p g : A → Bool) (xs : List A) → filter p (filter g xs) ≡ filter (λ x. g x && p x) xs
filter-filter p g [] = refl
filter-filter p g (x ∷ xs) = filter-step p (g x) x (filter g xs) (filter (λ y. g y && p y) xs) (filter-filter p g xs)

-- nothing after a value leaves it
pub combined-none : {V : Type 0} (join : V → V → V) (v : Option V) → combined join v None ≡ v
combined-none join None = refl
combined-none join (Some v) = refl

module _ {K V : Type 0} (cmp : K → K → Ordering) (join : V → V → V) where
  -- what keys have after entries
  abbrev pub after : PlainMap K V → List (Entry K V) → PlainMap K V
  after m [] = m
  after m (e ∷ es) = after (with_at cmp m e.key (value_after join (m e.key) e)) es

  pub resolved_from-append : (m : PlainMap K V) (es : List (Entry K V)) (e : Entry K V) → resolved_from cmp join m (es ++ e ∷ []) ≡ resolved_from cmp join m es ++ record e { value = value_after join (after m es e.key) e } ∷ []
  resolved_from-append m [] e = refl
  resolved_from-append m (x ∷ xs) e = ap (λ l. record x { value = value_after join (m x.key) x } ∷ l) (resolved_from-append (with_at cmp m x.key (value_after join (m x.key) x)) xs e)

  -- ---- the last of a key has what the key has
  abbrev value_or : Option V → Option (Entry K V) → Option V
  value_or x None = x
  value_or x (Some e) = e.value

  last-step : (m : PlainMap K V) (e : Entry K V) (k : K) (v w : Option V) (b : Bool) (l : Option (Entry K V)) → is_at (cmp e.key) k ≡ b → value_or (cond b v (m k)) l ≡ w
      → value_or (m k) (option_or l (cond b (Some (record e { value = v })) None)) ≡ w
  last-step m e k v w b (Some d) is h = h
  last-step m e k v w true None is h = h
  last-step m e k v w false None is h = h

  last-after : (m : PlainMap K V) (es : List (Entry K V)) (k : K) → value_or (m k) (last_of cmp (resolved_from cmp join m es) k) ≡ after m es k
  last-after m [] k = refl
  last-after m (e ∷ es) k =
      let v = value_after join (m e.key) e in
      last-step m e k v (after (with_at cmp m e.key v) es k) (is_at (cmp e.key) k) (last_of cmp (resolved_from cmp join (with_at cmp m e.key v) es) k) refl (last-after (with_at cmp m e.key v) es k)

  none-value : (l : Option (Entry K V)) → value_of l ≡ value_or None l
  none-value None = refl
  none-value (Some e) = refl

  pub live-after : (es : List (Entry K V)) (k : K) → live cmp (resolved cmp join es) k ≡ after (λ q. None) es k
  live-after es k = none-value (last_of cmp (resolved cmp join es) k) ∙ last-after (λ q. None) es k

  pub resolved-append : (es : List (Entry K V)) (e : Entry K V) → resolved cmp join (es ++ e ∷ []) ≡ resolved cmp join es ++ record e { value = value_after join (live cmp (resolved cmp join es) e.key) e } ∷ []
  resolved-append es e =
      resolved_from-append (λ q. None) es e
      ∙ ap (λ v. resolved cmp join es ++ record e { value = value_after join v e } ∷ []) (sym (live-after es e.key))

  -- ---- and that is a fold
  fold-step : IsKeyOrder cmp → (m : PlainMap K V) (e : Entry K V) (es : List (Entry K V)) (k : K) (b : Bool) → is_at (cmp e.key) k ≡ b
      → fold (value_after join) (cond b (value_after join (m e.key) e) (m k)) (filter (has_key cmp k) es) ≡ fold (value_after join) (m k) (cond b (e ∷ filter (has_key cmp k) es) (filter (has_key cmp k) es))
  fold-step o m e es k true h = ap (λ q. fold (value_after join) (value_after join (m q) e) (filter (has_key cmp k) es)) (o.same e.key k h)
  fold-step o m e es k false h = refl

  after-fold : IsKeyOrder cmp → (m : PlainMap K V) (es : List (Entry K V)) (k : K) → after m es k ≡ fold (value_after join) (m k) (filter (has_key cmp k) es)
  after-fold o m [] k = refl
  after-fold o m (e ∷ es) k =
      after-fold o (with_at cmp m e.key (value_after join (m e.key) e)) es k ∙ fold-step o m e es k (is_at (cmp e.key) k) refl

  pub live-fold : IsKeyOrder cmp → (es : List (Entry K V)) (k : K) → live cmp (resolved cmp join es) k ≡ fold (value_after join) None (filter (has_key cmp k) es)
  live-fold o es k = live-after es k ∙ after-fold o (λ q. None) es k

  -- ---- the entries at or below an address
  abbrev up_to : ℕ → List (Entry K V) → List (Entry K V)
  up_to a es = filter (λ e. nat_le e.address a) es

  none-above : (b a : ℕ) (es : List (Entry K V)) → a < b → AllAbove b es → up_to a es ≡ []
  none-above b a [] lt h = refl
  none-above b a (e ∷ es) lt h =
      let high : b < e.address = h.0 in
      let out : nat_le e.address a ≡ false = grind (arith, nat_tests) in
      filter-one (λ x. nat_le x.address a) e es false out ∙ none-above b a es lt h.1

  up_to-resolved : (a : ℕ) (m : PlainMap K V) (es : List (Entry K V)) → IsRising es → up_to a (resolved_from cmp join m es) ≡ resolved_from cmp join m (up_to a es)
  up_to-resolved a m [] r = refl
  up_to-resolved a m (e ∷ es) r = by_test (nat_le e.address a) refl (up_to-resolved a (with_at cmp m e.key (value_after join (m e.key) e)) es r.1)
    where
      above-test : (b n : ℕ) → nat_le b n ≡ false → n < b
      above-test b n h = grind (arith, nat_tests, h)

      by_test : (b : Bool) → nat_le e.address a ≡ b
          → up_to a (resolved_from cmp join (with_at cmp m e.key (value_after join (m e.key) e)) es) ≡ resolved_from cmp join (with_at cmp m e.key (value_after join (m e.key) e)) (up_to a es)
          → up_to a (resolved_from cmp join m (e ∷ es)) ≡ resolved_from cmp join m (up_to a (e ∷ es))
      by_test true h rest =
          let v = value_after join (m e.key) e in
          filter-one (λ x. nat_le x.address a) (record e { value = v }) (resolved_from cmp join (with_at cmp m e.key v) es) true h
          ∙ ap (λ l. record e { value = v } ∷ l) rest
          ∙ ap (resolved_from cmp join m) (sym (filter-one (λ x. nat_le x.address a) e es true h))
      by_test false h rest =
          let v = value_after join (m e.key) e in
          let none = none-above e.address a es (above-test e.address a h) r.0 in
          filter-one (λ x. nat_le x.address a) (record e { value = v }) (resolved_from cmp join (with_at cmp m e.key v) es) false h
          ∙ rest
          ∙ ap (resolved_from cmp join (with_at cmp m e.key v)) none
          ∙ ap (resolved_from cmp join m) (sym none)
          ∙ ap (resolved_from cmp join m) (sym (filter-one (λ x. nat_le x.address a) e es false h))

  pub newest-fold : IsKeyOrder cmp → (es : List (Entry K V)) → IsRising es → (k : K) (a : ℕ)
      → value_of (newest cmp (resolved cmp join es) k a) ≡ fold (value_after join) None (filter (λ e. nat_le e.address a && has_key cmp k e) es)
  newest-fold o es r k a =
      ap value_of (sym (last_where-filter (has_key cmp k) (λ e. nat_le e.address a) (resolved cmp join es)))
      ∙ ap (λ l. live cmp l k) (up_to-resolved a (λ q. None) es r)
      ∙ live-fold o (up_to a es) k
      ∙ ap (fold (value_after join) None) (filter-filter (has_key cmp k) (λ e. nat_le e.address a) es)
