-- What a cleared text still says once its lower part goes.
use Rattle.std.proofs.Common.{◌≡◌, ◌==◌, ◌↔◌, Bool, true, false, cond, ◌&&◌, ℕ, zero, suc, ◌<◌, ◌≤◌, ◌⊎◌, inl, inr, List, [], ◌∷◌, ◌++◌, length, filter, Option, Some, None, option_map, slice_get, refl, sym, ◌∙◌, ap, subst, arith, nat_le}
use Rattle.std.proofs.lemmas.Bool.{cases_lt, and_parts, leb-true, le-leb}
use Rattle.std.proofs.lemmas.Bool.Decides.{nat_tests}
use Rattle.std.specs.List.{fold}
use Rattle.std.specs.BTreeMap.{is_at}
use Rattle.std.proofs.lemmas.Option.{slice_get-map}
use Rattle.std.specs.declared.cmp.Ordering.{Ordering}
use Rattle.fkv_functions.specs.Plain.{IsKeyOrder}
use Rattle.fkv_texts.specs.declared.entries.Entry.{Entry}
use Rattle.fkv_texts.specs.Text.{has_key, newest, value_of, live, AllAbove, IsRising, text_from, set_at, changed}
use Rattle.fkv_texts.specs.Chains.{IsIn}
use Rattle.fkv_texts.specs.Deltas.{value_after, resolved, HasWholeAbove, IsCovered, IsSuperseded, IsCleared}
use Rattle.fkv_texts.proofs.LastWhere.{last_where-filter, last_where-none, last_where-narrow, last_where-found, last_where-in, none-passes}
use Rattle.fkv_texts.proofs.TextLemmas.{entry_at-in, entry_at-old, above-in}
use Rattle.fkv_texts.proofs.CutLemmas.{filter-one, filter-all, filter-in, cut-entry, cut-rising, highest}
use Rattle.fkv_texts.proofs.ChangeLemmas.{by_test, set_at-address, set_at-key, entry_at-elsewhere}
use Rattle.fkv_texts.proofs.ChainLemmas.{shorter-get}
use Rattle.fkv_functions.proofs.ListLemmas.{get-append_last}
use Rattle.fkv_texts.proofs.ValueLemmas.{live-fold, newest-fold}

module _ {K V : Type 0} (join : V → V → V) (q : Entry K V → Bool) where
  -- an entry that passes and is no delta
  pub record HasWhole (xs : List (Entry K V)) : Type 0 where
    pub by : Entry K V
    pub stands : IsIn xs by
    pub passes : q by ≡ true
    pub whole : by.delta ≡ false

  -- and that stands above an address
  pub record WholeLater (xs : List (Entry K V)) (a : ℕ) : Type 0 where
    pub by : Entry K V
    pub stands : IsIn xs by
    pub passes : q by ≡ true
    pub whole : by.delta ≡ false
    pub later : a < by.address

  first-or : (e : Entry K V) (es : List (Entry K V)) (d : Entry K V) (i : ℕ) → slice_get (e ∷ es) i ≡ Some d → (e ≡ d) ⊎ IsIn es d
  first-or e es d zero h = inl cc
  first-or e es d (suc i) h = inr (record { place = i; here = h })

  uncons-whole : (e : Entry K V) (es : List (Entry K V)) → HasWhole (e ∷ es) → ((q e ≡ true) × (e.delta ≡ false)) ⊎ HasWhole es
  uncons-whole e es w = elim (first-or e es w.by w.stands.place w.stands.here) [
    | inl same ↦ inl (ap q same ∙ w.passes, ap (λ (x : Entry K V). x.delta) same ∙ w.whole)
    | inr m ↦ inr (record { by = w.by; stands = m; passes = w.passes; whole = w.whole })
  ]

  later-tail : (e : Entry K V) (es : List (Entry K V)) (a : ℕ) → e.address ≤ a → WholeLater (e ∷ es) a → WholeLater es a
  later-tail e es a le w = elim (first-or e es w.by w.stands.place w.stands.here) [
    | inl same ↦ (let at : e.address ≡ w.by.address = ap (λ (x : Entry K V). x.address) same in let lt : a < w.by.address = w.later in absurd (omega arith))
    | inr m ↦ record { by = w.by; stands = m; passes = w.passes; whole = w.whole; later = w.later }
  ]

  later-some : (es : List (Entry K V)) (a : ℕ) → WholeLater es a → HasWhole es
  later-some es a w = record { by = w.by; stands = w.stands; passes = w.passes; whole = w.whole }

  -- ---- behind a whole entry it no longer matters what was before
  value_after-whole : (x : Option V) (e : Entry K V) → e.delta ≡ false → value_after join x e ≡ e.value
  value_after-whole x e h = rw h refl

  filter-fold : (x : Option V) (e : Entry K V) (es : List (Entry K V)) (b : Bool) → q e ≡ b → fold (value_after join) x (filter q (e ∷ es)) ≡ fold (value_after join) (cond b (value_after join x e) x) (filter q es)
  filter-fold x e es true h = ap (fold (value_after join) x) (filter-one q e es true h)
  filter-fold x e es false h = ap (fold (value_after join) x) (filter-one q e es false h)

  fold-whole : (xs : List (Entry K V)) → HasWhole xs → (x y : Option V) → fold (value_after join) x (filter q xs) ≡ fold (value_after join) y (filter q xs)
  fold-whole [] w x y = let h = w.stands.here in absurd (cc)
  fold-whole (e ∷ es) w x y = elim (uncons-whole e es w) [
    | inl here ↦
        filter-fold x e es true here.0
        ∙ ap (λ v. fold (value_after join) v (filter q es)) (value_after-whole x e here.1 ∙ sym (value_after-whole y e here.1))
        ∙ sym (filter-fold y e es true here.0)
    | inr rest ↦
        filter-fold x e es (q e) refl
        ∙ fold-whole es rest (cond (q e) (value_after join x e) x) (cond (q e) (value_after join y e) y)
        ∙ sym (filter-fold y e es (q e) refl)
  ]

  -- ---- the lower part goes
  module _ (b : ℕ) where
    -- each lower entry that passes has no value, or a whole one stands later
    abbrev pub AreLowSuperseded : List (Entry K V) → Type 0
    AreLowSuperseded xs = (e : Entry K V) → IsIn xs e → e.address < b → q e ≡ true → (e.value ≡ None) ⊎ WholeLater xs e.address

    low-tail : (y : Entry K V) (ys : List (Entry K V)) → AllAbove y.address ys → AreLowSuperseded (y ∷ ys) → AreLowSuperseded ys
    low-tail y ys above h e m low passes = elim (h e (record { place = suc m.place; here = m.here }) low passes) [
      | inl none ↦ inl none
      | inr w ↦ (let lt : y.address < e.address = above-in y.address ys above m.place e m.here in inr (later-tail y ys e.address (omega arith) w))
    ]

    -- what an entry without a value leaves
    next-none : (x : Option V) (e : Entry K V) (es : List (Entry K V)) (d : Bool) → e.delta ≡ d → e.value ≡ None → (x ≡ None) ⊎ HasWhole (e ∷ es) → (value_after join x e ≡ None) ⊎ HasWhole es
    next-none x e es false h none start = inl (rw h none)
    next-none x e es true h none (inl start) = inl (rw (h, none, start) refl)
    next-none x e es true h none (inr w) = elim (uncons-whole e es w) [
      | inl here ↦ absurd (let no : true ≡ false = sym h ∙ here.1 in cc)
      | inr rest ↦ inr rest
    ]

    next : (x : Option V) (e : Entry K V) (es : List (Entry K V)) (t : Bool) → q e ≡ t → e.address < b → AreLowSuperseded (e ∷ es) → (x ≡ None) ⊎ HasWhole (e ∷ es)
        → (cond t (value_after join x e) x ≡ None) ⊎ HasWhole es
    next x e es true h low superseded start = elim (superseded e (record { place = zero; here = refl }) low h) [
      | inl none ↦ next-none x e es e.delta refl none start
      | inr w ↦ inr (later-some es e.address (later-tail e es e.address (omega arith) w))
    ]
    next x e es false h low superseded (inl start) = inl start
    next x e es false h low superseded (inr w) = elim (uncons-whole e es w) [
      | inl here ↦ absurd (let no : true ≡ false = sym here.0 ∙ h in cc)
      | inr rest ↦ inr rest
    ]

    same-start : (x : Option V) (xs : List (Entry K V)) → (x ≡ None) ⊎ HasWhole xs → fold (value_after join) x (filter q xs) ≡ fold (value_after join) None (filter q xs)
    same-start x xs (inl start) = ap (λ v. fold (value_after join) v (filter q xs)) start
    same-start x xs (inr w) = fold-whole xs w x None

    all-from : (e : Entry K V) (es : List (Entry K V)) → IsRising (e ∷ es) → b ≤ e.address → text_from b (e ∷ es) ≡ e ∷ es
    all-from e es r le = filter-all (λ x. nat_le b x.address) (e ∷ es) (λ i x g. elim (first-or e es x i g) [
      | inl same ↦ (let at : e.address ≡ x.address = ap (λ (y : Entry K V). y.address) same in le-leb b x.address (omega arith))
      | inr m ↦ (let lt : e.address < x.address = above-in e.address es r.0 m.place x m.here in le-leb b x.address (omega arith))
    ])

    pub cut-fold : (xs : List (Entry K V)) → IsRising xs → AreLowSuperseded xs → (x : Option V) → (x ≡ None) ⊎ HasWhole xs
        → fold (value_after join) x (filter q xs) ≡ fold (value_after join) None (filter q (text_from b xs))
    cut-fold [] r superseded x (inl start) = start
    cut-fold [] r superseded x (inr w) = let h = w.stands.here in absurd (cc)
    cut-fold (e ∷ es) r superseded x start = elim (cases_lt e.address b) [
      | inl low ↦
          (let out : nat_le b e.address ≡ false = grind (arith, nat_tests) in
          filter-fold x e es (q e) refl
          ∙ cut-fold es r.1 (low-tail e es r.0 superseded) (cond (q e) (value_after join x e) x) (next x e es (q e) refl low superseded start)
          ∙ ap (λ l. fold (value_after join) None (filter q l)) (sym (filter-one (λ d. nat_le b d.address) e es false out)))
      | inr high ↦ same-start x (e ∷ es) start ∙ ap (λ l. fold (value_after join) None (filter q l)) (sym (all-from e es r high))
    ]

-- ---- what stays of a cleared text
pub cleared-lower : {K V : Type 0} (cmp : K → K → Ordering) (es : List (Entry K V)) (low limit : ℕ) → low ≤ limit → IsCleared cmp es limit → IsCleared cmp es low
cleared-lower cmp es low limit le clear e here lt = clear e here (omega arith)

module _ {K V : Type 0} (cmp : K → K → Ordering) (join : V → V → V) (o : IsKeyOrder cmp) (es : List (Entry K V)) (r : IsRising es) (b : ℕ) (clear : IsCleared cmp es b) where
  same_key : (k : K) (e d : Entry K V) → has_key cmp k e ≡ true → has_key cmp e.key d ≡ true → has_key cmp k d ≡ true
  same_key k e d he hd = subst (λ (q : K). has_key cmp q d ≡ true) (o.same e.key k he) hd

  pub cut-lives : (k : K) → live cmp (resolved cmp join (text_from b es)) k ≡ live cmp (resolved cmp join es) k
  cut-lives k =
      live-fold cmp join o (text_from b es) k
      ∙ sym (cut-fold join (has_key cmp k) b es r low None (inl refl))
      ∙ sym (live-fold cmp join o es k)
    where
      low : AreLowSuperseded join (has_key cmp k) b es
      low e m lt passes = elim (clear e (entry_at-in es r e m e.address refl) lt) [
        | inl none ↦ inl none
        | inr w ↦ inr (record { by = w.by; stands = w.stands; passes = same_key k e w.by passes w.key; whole = w.whole; later = w.above })
      ]

  -- an entry that covers one at or below an address stands there too, where the newest is not covered
  within : (k : K) (a : ℕ) → ((e : Entry K V) → newest cmp es k a ≡ Some e → IsCovered cmp es e → ⊥) → (e d : Entry K V) → IsIn es e → (nat_le e.address a && has_key cmp k e) ≡ true
      → IsIn es d → has_key cmp k d ≡ true → d.delta ≡ false → d.address ≤ a
  within k a uncovered e d m passes n key whole = elim (cases_lt a d.address) [
    | inr le ↦ le
    | inl lt ↦ absurd (by_newest (newest cmp es k a) refl lt)
  ]
    where
      by_newest : (l : Option (Entry K V)) → newest cmp es k a ≡ l → a < d.address → ⊥
      by_newest None h lt = let no = none-passes (λ x. nat_le x.address a && has_key cmp k x) es h m.place e m.here in let bad : true ≡ false = sym passes ∙ no in cc
      by_newest (Some x) h lt =
          let found = and_parts (nat_le x.address a) (has_key cmp k x) (last_where-found (λ y. nat_le y.address a && has_key cmp k y) es x h) in
          let low : x.address ≤ a = leb-true x.address a found.0 in
          uncovered x h (record { by = d; stands = n; key = subst (λ (q : K). has_key cmp q d ≡ true) (sym (o.same x.key k found.1)) key; whole = whole; above = omega arith })

  pub cut-newest : (k : K) (a : ℕ) → ((e : Entry K V) → newest cmp es k a ≡ Some e → IsCovered cmp es e → ⊥)
      → value_of (newest cmp (resolved cmp join (text_from b es)) k a) ≡ value_of (newest cmp (resolved cmp join es) k a)
  cut-newest k a uncovered =
      newest-fold cmp join o (text_from b es) (cut-rising b es r) k a
      ∙ sym (cut-fold join (λ e. nat_le e.address a && has_key cmp k e) b es r low None (inl refl))
      ∙ sym (newest-fold cmp join o es r k a)
    where
      both : (s t : Bool) → s ≡ true → t ≡ true → (s && t) ≡ true
      both s t h k = rw h k

      low : AreLowSuperseded join (λ e. nat_le e.address a && has_key cmp k e) b es
      low e m lt passes = elim (clear e (entry_at-in es r e m e.address refl) lt) [
        | inl none ↦ inl none
        | inr w ↦
            (let own = and_parts (nat_le e.address a) (has_key cmp k e) passes in
            let key = same_key k e w.by own.1 w.key in
            let le = within k a uncovered e w.by m passes w.stands key w.whole in
            inr (record { by = w.by; stands = w.stands; passes = both (nat_le w.by.address a) (has_key cmp k w.by) (le-leb w.by.address a le) key; whole = w.whole; later = w.above }))
      ]

-- ---- the newest of a key, once the lower part goes
module _ {K V : Type 0} (cmp : K → K → Ordering) (es : List (Entry K V)) (b : ℕ) where
  pub cut-newest_gone : IsRising es → (k : K) (a : ℕ) (e : Entry K V) → newest cmp es k a ≡ Some e → e.address < b → newest cmp (text_from b es) k a ≡ None
  cut-newest_gone r k a e h low =
      last_where-filter (λ x. nat_le x.address a && has_key cmp k x) (λ x. nat_le b x.address) es
      ∙ last_where-none (λ x. nat_le b x.address && (nat_le x.address a && has_key cmp k x)) es (λ i x g. both (nat_le b x.address) (nat_le x.address a && has_key cmp k x)
      (λ t. (let high = highest (λ y. nat_le y.address a && has_key cmp k y) es e r h i x g t in let lt : x.address < b = omega arith in grind (arith, nat_tests))))
    where
      both : (u t : Bool) → (t ≡ true → u ≡ false) → (u && t) ≡ false
      both true true h = h refl
      both true false h = refl
      both false t h = refl

  pub cut-newest_stays : (k : K) (a : ℕ) (e : Entry K V) → newest cmp es k a ≡ Some e → b ≤ e.address → newest cmp (text_from b es) k a ≡ Some e
  cut-newest_stays k a e h le =
      last_where-filter (λ x. nat_le x.address a && has_key cmp k x) (λ x. nat_le b x.address) es
      ∙ last_where-narrow (λ x. nat_le x.address a && has_key cmp k x) (λ x. nat_le b x.address) es e h (le-leb b e.address le)

  -- ---- what covers an entry stands above it, and stays
  filter-has : (p : Entry K V → Bool) (xs : List (Entry K V)) (x : Entry K V) (i : ℕ) → slice_get xs i ≡ Some x → p x ≡ true → IsIn (filter p xs) x
  filter-has p [] x i g h = absurd (cc)
  filter-has p (y ∷ ys) x zero g h =
      let same : y ≡ x = cc in
      record { place = zero; here = ap (λ (l : List (Entry K V)). slice_get l zero) (filter-one p y ys true (ap p same ∙ h)) ∙ ap Some same }
  filter-has p (y ∷ ys) x (suc i) g h = by_test (p y) refl (filter-has p ys x i g h)
    where
      by_test : (t : Bool) → p y ≡ t → IsIn (filter p ys) x → IsIn (filter p (y ∷ ys)) x
      by_test true e m = record { place = suc m.place; here = ap (λ (l : List (Entry K V)). slice_get l (suc m.place)) (filter-one p y ys true e) ∙ m.here }
      by_test false e m = record { place = m.place; here = ap (λ (l : List (Entry K V)). slice_get l m.place) (filter-one p y ys false e) ∙ m.here }

  pub cut-covered : (k : K) (a : ℕ) → b ≤ a → HasWholeAbove cmp (text_from b es) k a ↔ HasWholeAbove cmp es k a
  cut-covered k a le = (
    (λ w. record { by = w.by; stands = (filter-in (λ x. nat_le b x.address) es w.stands.place w.by w.stands.here).0; key = w.key; whole = w.whole; above = w.above }),
    (λ w. let lt : a < w.by.address = w.above in
        record { by = w.by; stands = filter-has (λ x. nat_le b x.address) es w.by w.stands.place w.stands.here (le-leb b w.by.address (omega arith)); key = w.key; whole = w.whole; above = w.above }),
  )

  pub cut-superseded : (e : Entry K V) → b ≤ e.address → IsSuperseded cmp (text_from b es) e ↔ IsSuperseded cmp es e
  cut-superseded e le = let c = cut-covered e.key e.address le in (
    (λ s. elim s [ inl none ↦ inl none | inr w ↦ inr (c.0 w) ]),
    (λ s. elim s [ inl none ↦ inl none | inr w ↦ inr (c.1 w) ]),
  )

  pub cut-cleared : (limit : ℕ) → IsCleared cmp es limit → IsCleared cmp (text_from b es) limit
  cut-cleared limit clear e here low =
      let m = last_where-in (λ x. x.address == e.address) (text_from b es) e here in
      let was = filter-in (λ x. nat_le b x.address) es m.place e m.here in
      let le : b ≤ e.address = leb-true b e.address was.1 in
      (cut-superseded e le).1 (clear e (sym (cut-entry b e.address es le) ∙ here) low)

-- ---- an entry is appended
module _ {K V : Type 0} (cmp : K → K → Ordering) (es : List (Entry K V)) (d : Entry K V) where
  pub covered-append : (k : K) (a : ℕ) → HasWholeAbove cmp es k a → HasWholeAbove cmp (es ++ d ∷ []) k a
  covered-append k a w = record { by = w.by; stands = record { place = w.stands.place; here = shorter-get es d w.stands.place w.by w.stands.here }; key = w.key; whole = w.whole; above = w.above }

  pub covered-new : (e : Entry K V) → has_key cmp e.key d ≡ true → d.delta ≡ false → e.address < d.address → IsCovered cmp (es ++ d ∷ []) e
  covered-new e key whole above = record { by = d; stands = record { place = length es; here = get-append_last es d }; key = key; whole = whole; above = above }

  pub superseded-append : (e : Entry K V) → IsSuperseded cmp es e → IsSuperseded cmp (es ++ d ∷ []) e
  superseded-append e (inl none) = inl none
  superseded-append e (inr w) = inr (covered-append e.key e.address w)

  pub cleared-append : (limit : ℕ) → limit ≤ d.address → IsCleared cmp es limit → IsCleared cmp (es ++ d ∷ []) limit
  cleared-append limit le clear e here low =
      superseded-append e (clear e (sym (entry_at-old es d e.address (λ at. omega arith)) ∙ here) low)

-- ---- an entry gets another value
module _ {K V : Type 0} (cmp : K → K → Ordering) (es : List (Entry K V)) (a : ℕ) (v : Option V) where
  pub covered-changed : (k : K) (b : ℕ) → HasWholeAbove cmp es k b → HasWholeAbove cmp (changed es a v) k b
  covered-changed k b w = record {
    by = set_at a v w.by;
    stands = record { place = w.stands.place; here = slice_get-map (set_at a v) es w.stands.place ∙ ap (option_map (set_at a v)) w.stands.here };
    key = ap (λ (q : K). is_at (cmp q) k) (set_at-key a v w.by) ∙ w.key;
    whole = set_at-delta w.by ∙ w.whole;
    above = subst (λ (n : ℕ). b < n) (sym (set_at-address a v w.by)) w.above;
  }
    where
      set_at-delta : (e : Entry K V) → (set_at a v e).delta ≡ e.delta
      set_at-delta e = by_test a v (λ d. d.delta ≡ e.delta) (e.address == a) e refl refl

  pub cleared-changed : (limit : ℕ) → limit ≤ a → IsCleared cmp es limit → IsCleared cmp (changed es a v) limit
  cleared-changed limit le clear e here low =
      elim (clear e (sym (entry_at-elsewhere a v es e.address (λ at. omega arith)) ∙ here) low) [ inl none ↦ inl none | inr w ↦ inr (covered-changed e.key e.address w) ]
