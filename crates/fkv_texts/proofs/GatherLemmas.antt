-- A reader that goes down a key's entries and joins their parts comes to what the key has.
use Rattle.std.proofs.Common.{◌≡◌, Bool, true, false, cond, ◌&&◌, ℕ, zero, suc, ◌<◌, ◌≤◌, inl, inr, List, [], ◌∷◌, ◌++◌, filter, reverse, Option, Some, None, slice_get, refl, sym, ◌∙◌, ap, subst, arith, nat_le, nat_lt}
use Rattle.std.proofs.lemmas.Bool.{cases_lt}
use Rattle.std.proofs.lemmas.Bool.Decides.{nat_tests}
use Rattle.std.proofs.lemmas.List.{reverse-append}
use Rattle.std.proofs.lemmas.List.Sums.{fold-append, fold_push}
use Rattle.std.specs.List.{fold}
use Rattle.std.specs.declared.cmp.Ordering.{Ordering}
use Rattle.fkv_functions.specs.Plain.{IsKeyOrder}
use Rattle.fkv_texts.specs.declared.entries.Entry.{Entry}
use Rattle.fkv_texts.specs.Text.{has_key, newest, value_of, AllAbove, IsRising}
use Rattle.fkv_texts.specs.Deltas.{combined, IsAssociative, value_after, resolved, gathered, newest_first_to, newest_first_between}
use Rattle.fkv_texts.proofs.TextLemmas.{above-in}
use Rattle.fkv_texts.proofs.CutLemmas.{filter-one}
use Rattle.fkv_texts.proofs.ChainLemmas.{by_appends}
use Rattle.fkv_texts.proofs.ValueLemmas.{newest-fold}

module _ {V : Type 0} (join : V → V → V) where
  pub combined-combined : IsAssociative join → (u v w : Option V) → combined join (combined join u v) w ≡ combined join u (combined join v w)
  combined-combined h None v w = refl
  combined-combined h (Some u) None w = refl
  combined-combined h (Some u) (Some v) None = refl
  combined-combined h (Some u) (Some v) (Some w) = ap Some (h u v w)

  module _ {K : Type 0} (h : IsAssociative join) (x : Option V) where
    -- the value of the entry at which the parts end, or what was before them
    abbrev pub from_end : Option (Entry K V) → Option V
    from_end None = x
    from_end (Some e) = e.value

    abbrev pub joined_end : Option V × Option (Entry K V) → Option V
    joined_end g = combined join (from_end g.1) g.0

    pub gather-step : (y : Option V) (e : Entry K V) (rs : List (Entry K V)) (c : Option V) → combined join y (combined join e.value c) ≡ joined_end (gathered join rs (combined join e.value c)) → (b : Bool)
        → combined join (cond b (combined join y e.value) e.value) c ≡ joined_end (cond b (gathered join rs (combined join e.value c)) (c, Some e))
    gather-step y e rs c rest true = combined-combined h y e.value c ∙ rest
    gather-step y e rs c rest false = refl

    pub gather-fold : (xs : List (Entry K V)) (c : Option V) → combined join (fold (value_after join) x xs) c ≡ joined_end (gathered join (reverse xs) c)
    gather-fold xs = by_appends (λ (ys : List (Entry K V)). (c : Option V) → combined join (fold (value_after join) x ys) c ≡ joined_end (gathered join (reverse ys) c))
        (λ ys e before c.
        ap (λ v. combined join v c) (fold_push (value_after join) x ys e)
        ∙ gather-step (fold (value_after join) x ys) e (reverse ys) c (before (combined join e.value c)) e.delta
        ∙ ap (λ l. joined_end (gathered join l c)) (sym (reverse-append ys (e ∷ []))))
        [] xs (λ c. refl)

-- ---- the entries up to an address, and those above it
pub filter-same : {A : Type 0} (p q : A → Bool) (xs : List A) → ((i : ℕ) (x : A) → slice_get xs i ≡ Some x → p x ≡ q x) → filter p xs ≡ filter q xs
filter-same p q [] h = refl
filter-same p q (x ∷ xs) h =
    ap (λ b. cond b (x ∷ filter p xs) (filter p xs)) (h zero x refl)
    ∙ ap (λ l. cond (q x) (x ∷ l) l) (filter-same p q xs (λ i. h (suc i)))

pub filter-nothing : {A : Type 0} (p : A → Bool) (xs : List A) → ((i : ℕ) (x : A) → slice_get xs i ≡ Some x → p x ≡ false) → filter p xs ≡ []
filter-nothing p [] h = refl
filter-nothing p (x ∷ xs) h = filter-one p x xs false (h zero x refl) ∙ filter-nothing p xs (λ i. h (suc i))

module _ {K V : Type 0} (t : Entry K V → Bool) (b : ℕ) where
  split-below : (e : Entry K V) (es ls hs : List (Entry K V)) → nat_le e.address b ≡ true → nat_lt b e.address ≡ false → filter t es ≡ ls ++ hs
      → filter t (e ∷ es) ≡ cond (nat_le e.address b && t e) (e ∷ ls) ls ++ cond (nat_lt b e.address && t e) (e ∷ hs) hs
  split-below e es ls hs le lt h = rw (le, lt) (by_test (t e) refl)
    where
      by_test : (c : Bool) → t e ≡ c → filter t (e ∷ es) ≡ cond (t e) (e ∷ ls) ls ++ hs
      by_test true k = filter-one t e es true k ∙ rw k (ap (λ l. e ∷ l) h)
      by_test false k = filter-one t e es false k ∙ rw k h

  -- where addresses rise, those that pass at or below an address come first
  pub filter-split_at : (es : List (Entry K V)) → IsRising es → filter t es ≡ filter (λ e. nat_le e.address b && t e) es ++ filter (λ e. nat_lt b e.address && t e) es
  filter-split_at [] r = refl
  filter-split_at (e ∷ es) r = elim (cases_lt b e.address) [
    | inr low ↦
        (let le : nat_le e.address b ≡ true = grind (arith, nat_tests) in
        let lt : nat_lt b e.address ≡ false = grind (arith, nat_tests) in
        split-below e es (filter (λ x. nat_le x.address b && t x) es) (filter (λ x. nat_lt b x.address && t x) es) le lt (filter-split_at es r.1))
    | inl high ↦
        (let above : (i : ℕ) (x : Entry K V) → slice_get (e ∷ es) i ≡ Some x → b < x.address = all-above e es r.0 high in
        let none = filter-nothing (λ x. nat_le x.address b && t x) (e ∷ es) (λ i x g. off (nat_le x.address b) (t x) (not-below x (above i x g))) in
        let all = filter-same t (λ x. nat_lt b x.address && t x) (e ∷ es) (λ i x g. on (nat_lt b x.address) (t x) (is-above x (above i x g))) in
        all ∙ ap (λ l. l ++ filter (λ x. nat_lt b x.address && t x) (e ∷ es)) (sym none))
  ]
    where
      all-above : (d : Entry K V) (ds : List (Entry K V)) → AllAbove d.address ds → b < d.address → (i : ℕ) (x : Entry K V) → slice_get (d ∷ ds) i ≡ Some x → b < x.address
      all-above d ds h lt zero x g = let same : d ≡ x = cc in subst (λ (y : Entry K V). b < y.address) same lt
      all-above d ds h lt (suc i) x g = let more : d.address < x.address = above-in d.address ds h i x g in omega arith

      not-below : (x : Entry K V) → b < x.address → nat_le x.address b ≡ false
      not-below x lt = grind (arith, nat_tests)

      is-above : (x : Entry K V) → b < x.address → nat_lt b x.address ≡ true
      is-above x lt = grind (arith, nat_tests)

      off : (u v : Bool) → u ≡ false → (u && v) ≡ false
      off u v h = rw h refl

      on : (u v : Bool) → u ≡ true → v ≡ (u && v)
      on u v h = rw h refl

module _ {K V : Type 0} (cmp : K → K → Ordering) (es : List (Entry K V)) (k : K) where
  -- the entries at or below a lower address
  pub up_to-lower : (b a : ℕ) → b ≤ a → filter (λ e. nat_le e.address b && (nat_le e.address a && has_key cmp k e)) es ≡ filter (λ e. nat_le e.address b && has_key cmp k e) es
  up_to-lower b a le = filter-same (λ e. nat_le e.address b && (nat_le e.address a && has_key cmp k e)) (λ e. nat_le e.address b && has_key cmp k e) es
      (λ i x g. inner (nat_le x.address b) (nat_le x.address a) (has_key cmp k x) (λ h. both x h))
    where
      inner : (u v w : Bool) → (u ≡ true → v ≡ true) → (u && (v && w)) ≡ (u && w)
      inner true v w h = rw (h refl) refl
      inner false v w h = refl

      both : (x : Entry K V) → nat_le x.address b ≡ true → nat_le x.address a ≡ true
      both x h = grind (arith, nat_tests, h)

module _ {K V : Type 0} (cmp : K → K → Ordering) (join : V → V → V) (o : IsKeyOrder cmp) (assoc : IsAssociative join) (es : List (Entry K V)) (r : IsRising es) (k : K) where
  -- down to the first entry that is no delta, or to the end
  none-end : (l : Option (Entry K V)) → from_end join {K = K} assoc None l ≡ value_of l
  none-end None = refl
  none-end (Some e) = refl

  pub gather-all : (a : ℕ) (c d : Option V) (end : Option (Entry K V)) → gathered join (newest_first_to cmp es k a) c ≡ (d, end)
      → combined join (value_of (newest cmp (resolved cmp join es) k a)) c ≡ combined join (value_of end) d
  gather-all a c d end g =
      ap (λ v. combined join v c) (newest-fold cmp join o es r k a)
      ∙ gather-fold join assoc None (filter (λ e. nat_le e.address a && has_key cmp k e) es) c
      ∙ ap (joined_end join assoc None) g
      ∙ ap (λ v. combined join v d) (none-end end)

  -- down to an address
  pub gather-to : (b a : ℕ) → b ≤ a → (c d : Option V) (end : Option (Entry K V)) → gathered join (newest_first_between cmp es k b a) c ≡ (d, end)
      → combined join (value_of (newest cmp (resolved cmp join es) k a)) c ≡ combined join (from_end join assoc (value_of (newest cmp (resolved cmp join es) k b)) end) d
  gather-to b a le c d end g =
      let t : Entry K V → Bool = λ e. nat_le e.address a && has_key cmp k e in
      let ls = filter (λ e. nat_le e.address b && t e) es in
      let hs = filter (λ e. nat_lt b e.address && t e) es in
      let below : fold (value_after join) None ls ≡ value_of (newest cmp (resolved cmp join es) k b) = ap (fold (value_after join) None) (up_to-lower cmp es k b a le) ∙ sym (newest-fold cmp join o es r k b) in
      ap (λ v. combined join v c)
      (newest-fold cmp join o es r k a ∙ ap (fold (value_after join) None) (filter-split_at t b es r) ∙ fold-append (value_after join) None ls hs ∙ ap (λ v. fold (value_after join) v hs) below)
      ∙ gather-fold join assoc (value_of (newest cmp (resolved cmp join es) k b)) hs c
      ∙ ap (joined_end join assoc (value_of (newest cmp (resolved cmp join es) k b))) g
