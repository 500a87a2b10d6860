-- A reader of a chain joins the parts of a key on its way, and comes to what the key has.
use Rattle.std.proofs.Common.{◌≡◌, ◌≢◌, ◌==◌, Bool, true, false, ◌&&◌, ℕ, zero, suc, ◌<◌, ◌≤◌, ◌⊎◌, inl, inr, List, [], ◌∷◌, ◌++◌, filter, Option, Some, None, slice_get, refl, sym, ◌∙◌, ap, arith, nat_le, nat_lt}
use Rattle.std.proofs.lemmas.Bool.{cases_eq, and_parts, eq-eqb, ne_eqb, lt-ltb, ltb-true, leb-true, le-leb}
use Rattle.std.proofs.lemmas.List.Sums.{fold_push}
use Rattle.std.specs.List.{fold}
use Rattle.std.specs.declared.cmp.Ordering.{Ordering}
use Rattle.fkv_functions.specs.Plain.{IsKeyOrder}
use Rattle.fkv_functions.proofs.ListLemmas.{not-true}
use Rattle.fkv_texts.specs.declared.entries.Entry.{Entry}
use Rattle.fkv_texts.specs.Text.{has_key, newest, value_of, IsRising}
use Rattle.fkv_texts.specs.Chains.{IsIn, IsClassTest, has_class, last_below, Leads, IsChained, IsChainFrom, ends, goes, leads_to}
use Rattle.fkv_texts.specs.Deltas.{combined, IsAssociative, value_after, resolved, gathered}
use Rattle.fkv_texts.proofs.LastWhere.{last_where-found, last_where-in, none-passes}
use Rattle.fkv_texts.proofs.TextLemmas.{one_address, above-in}
use Rattle.fkv_texts.proofs.CutLemmas.{filter-one, highest}
use Rattle.fkv_texts.proofs.GatherLemmas.{from_end, joined_end, gather-step, filter-same, filter-nothing, filter-split_at, up_to-lower}
use Rattle.fkv_texts.proofs.ValueLemmas.{newest-fold}

module _ {K V : Type 0} where
  -- a test that the entry at one address passes, and no other, leaves that entry
  pub filter-only : (p : Entry K V → Bool) (es : List (Entry K V)) → IsRising es → (e : Entry K V) → IsIn es e → ((i : ℕ) (x : Entry K V) → slice_get es i ≡ Some x → p x ≡ (x.address == e.address)) → filter p es ≡ e ∷ []
  filter-only p [] r e m h = let g = m.here in absurd (cc)
  filter-only p (x ∷ xs) r e m h = by_place m.place m.here (λ n. filter-only p xs r.1 e n (λ i. h (suc i)))
    where
      by_place : (i : ℕ) → slice_get (x ∷ xs) i ≡ Some e → (IsIn xs e → filter p xs ≡ e ∷ []) → filter p (x ∷ xs) ≡ e ∷ []
      by_place zero g rest =
          let same : x ≡ e = cc in
          let at : x.address ≡ e.address = ap (λ (y : Entry K V). y.address) same in
          let none = filter-nothing p xs (λ i y k. (let up : x.address < y.address = above-in x.address xs r.0 i y k in h (suc i) y k ∙ ne_eqb y.address e.address (λ q. omega arith))) in
          let first : x ∷ [] ≡ e ∷ [] = ap (λ (y : Entry K V). y ∷ []) same in
          filter-one p x xs true (h zero x refl ∙ eq-eqb x.address e.address at) ∙ ap (λ l. x ∷ l) none ∙ first
      by_place (suc i) g rest =
          let up : x.address < e.address = above-in x.address xs r.0 i e g in
          filter-one p x xs false (h zero x refl ∙ ne_eqb x.address e.address (λ q. omega arith)) ∙ rest (record { place = i; here = g })

module _ {K V C : Type 0} (cmp : K → K → Ordering) (join : V → V → V) (o : IsKeyOrder cmp) (assoc : IsAssociative join) (class : K → C) (same : C → C → Bool) (test : IsClassTest same)
    (begin low : ℕ) (le : begin ≤ low) (es : List (Entry K V)) (r : IsRising es) (chained : IsChained class same begin es) (k : K) where
  abbrev to : ℕ → List (Entry K V)
  to a = filter (λ x. nat_le x.address a && has_key cmp k x) es

  -- what the key has at an address
  abbrev value : ℕ → Option V
  value a = value_of (newest cmp (resolved cmp join es) k a)

  -- an entry of the key's class leads to the one before: none of the key stands between
  record IsLink (e : Entry K V) : Type 0 where
    falls : e.previous < e.address
    near : (i : ℕ) (x : Entry K V) → slice_get es i ≡ Some x → has_key cmp k x ≡ true → x.address < e.address → x.address ≤ e.previous
    next : (x : Entry K V) → IsIn es x → x.address ≡ e.previous → low ≤ e.previous → class x.key ≡ class k

  link : (e : Entry K V) → IsIn es e → class e.key ≡ class k → low ≤ e.address → IsLink e
  link e m own high = by_last (last_below class same es (class e.key) e.address) refl (chained m.place e m.here)
    where
      lower : Entry K V → Bool
      lower x = nat_lt x.address e.address && has_class class same (class e.key) x

      in_class : (x : Entry K V) → has_key cmp k x ≡ true → x.address < e.address → lower x ≡ true
      in_class x h lt =
          let is : class x.key ≡ class e.key = ap class (o.same x.key k h) ∙ sym own in
          let yes : same (class x.key) (class e.key) ≡ true = ap (λ c. same c (class e.key)) is ∙ test.self (class e.key) in
          rw (lt-ltb x.address e.address lt) yes

      by_last : (l : Option (Entry K V)) → last_below class same es (class e.key) e.address ≡ l → Leads begin l e.previous → IsLink e
      by_last None h leads = record {
        falls = (let under : e.previous < begin = leads in omega arith);
        near = λ i x g t lt. absurd (let no = none-passes lower es h i x g in let bad : true ≡ false = sym (in_class x t lt) ∙ no in cc);
        next = λ x n at up. absurd (let under : e.previous < begin = leads in omega arith);
      }
      by_last (Some d) h leads =
          let found = and_parts (nat_lt d.address e.address) (has_class class same (class e.key) d) (last_where-found lower es d h) in
          let there : e.previous ≡ d.address = leads in
          let under : d.address < e.address = ltb-true d.address e.address found.0 in
          let n = last_where-in lower es d h in
          record {
            falls = omega arith;
            near = λ i x g t lt. (let up = highest lower es d r h i x g (in_class x t lt) in omega arith);
            next = λ x i at up. (let is : x ≡ d = one_address es r i.place n.place x d i.here n.here (at ∙ there) in ap (λ (y : Entry K V). class y.key) is ∙ test.only (class d.key) (class e.key) found.1 ∙ own);
          }

  -- the entries of the key up to one of its class, by those up to where that leads
  module _ (e : Entry K V) (m : IsIn es e) (l : IsLink e) where
    is_own : (i : ℕ) (x : Entry K V) → slice_get es i ≡ Some x → x.address ≡ e.address → x ≡ e
    is_own i x g at = one_address es r i m.place x e g m.here at

    to-other : has_key cmp k e ≡ false → to e.address ≡ to e.previous
    to-other other =
        filter-same (λ x. nat_le x.address e.address && has_key cmp k x) (λ x. nat_le x.address e.previous && has_key cmp k x) es
        (λ i x g. alike (nat_le x.address e.address) (nat_le x.address e.previous) (has_key cmp k x) (down i x g) (up x))
      where
        alike : (u v w : Bool) → (w ≡ true → u ≡ true → v ≡ true) → (v ≡ true → u ≡ true) → (u && w) ≡ (v && w)
        alike true true w f h = refl
        alike true false true f h = sym (f refl refl)
        alike true false false f h = refl
        alike false true w f h = absurd (let no : false ≡ true = h refl in cc)
        alike false false w f h = refl

        down : (i : ℕ) (x : Entry K V) → slice_get es i ≡ Some x → has_key cmp k x ≡ true → nat_le x.address e.address ≡ true → nat_le x.address e.previous ≡ true
        down i x g key t = elim (cases_eq x.address e.address) [
          | inl at ↦ absurd (let no : true ≡ false = sym key ∙ ap (has_key cmp k) (is_own i x g at) ∙ other in cc)
          | inr ne ↦ (let most = leb-true x.address e.address t in let lt : x.address < e.address = omega arith in le-leb x.address e.previous (l.near i x g key lt))
        ]

        up : (x : Entry K V) → nat_le x.address e.previous ≡ true → nat_le x.address e.address ≡ true
        up x t = let low_x = leb-true x.address e.previous t in let lt = l.falls in le-leb x.address e.address (omega arith)

    to-own : has_key cmp k e ≡ true → to e.address ≡ to e.previous ++ e ∷ []
    to-own key =
        let lt = l.falls in
        let parts = filter-split_at (λ x. nat_le x.address e.address && has_key cmp k x) e.previous es r in
        let upper = filter-only (λ x. nat_lt e.previous x.address && (nat_le x.address e.address && has_key cmp k x)) es r e m (λ i x g. here i x g (cases_eq x.address e.address)) in
        parts ∙ ap (λ u. u ++ filter (λ x. nat_lt e.previous x.address && (nat_le x.address e.address && has_key cmp k x)) es) (up_to-lower cmp es k e.previous e.address (omega arith)) ∙ ap (λ u. to e.previous ++ u) upper
      where
        all : (u v w : Bool) → u ≡ true → v ≡ true → w ≡ true → (u && (v && w)) ≡ true
        all u v w f g h = rw (f, g, h) refl

        here : (i : ℕ) (x : Entry K V) → slice_get es i ≡ Some x → (x.address ≡ e.address) ⊎ (x.address ≢ e.address) → (nat_lt e.previous x.address && (nat_le x.address e.address && has_key cmp k x)) ≡ (x.address == e.address)
        here i x g (inl at) =
            let lt = l.falls in
            all (nat_lt e.previous x.address) (nat_le x.address e.address) (has_key cmp k x)
            (lt-ltb e.previous x.address (omega arith)) (le-leb x.address e.address (omega arith)) (ap (has_key cmp k) (is_own i x g at) ∙ key)
            ∙ sym (eq-eqb x.address e.address at)
        here i x g (inr ne) = not-true (nat_lt e.previous x.address && (nat_le x.address e.address && has_key cmp k x)) (λ t.
            (let first = and_parts (nat_lt e.previous x.address) (nat_le x.address e.address && has_key cmp k x) t in
            let second = and_parts (nat_le x.address e.address) (has_key cmp k x) first.1 in
            let above = ltb-true e.previous x.address first.0 in
            let most = leb-true x.address e.address second.0 in
            let near = l.near i x g second.1 (omega arith) in
            omega arith))
            ∙ sym (ne_eqb x.address e.address ne)

    value-other : has_key cmp k e ≡ false → value e.address ≡ value e.previous
    value-other other = newest-fold cmp join o es r k e.address ∙ ap (fold (value_after join) None) (to-other other) ∙ sym (newest-fold cmp join o es r k e.previous)

    value-own : has_key cmp k e ≡ true → value e.address ≡ value_after join (value e.previous) e
    value-own key =
        newest-fold cmp join o es r k e.address
        ∙ ap (fold (value_after join) None) (to-own key)
        ∙ fold_push (value_after join) None (to e.previous) e
        ∙ ap (λ v. value_after join v e) (sym (newest-fold cmp join o es r k e.previous))

  pub read-chain : (a : ℕ) (upper : List (Entry K V)) → IsChainFrom low es a upper → ((x : Entry K V) → IsIn es x → x.address ≡ a → low ≤ a → class x.key ≡ class k) → (c : Option V)
      → combined join (value a) c ≡ joined_end join assoc (value (leads_to a upper)) (gathered join (filter (has_key cmp k) upper) c)
  read-chain a upper (ends below) own c = refl
  read-chain a upper (goes {e = e} {es = ds} high m at rest) own c =
      let l = link e m (own e m at high) (omega arith) in
      let on = read-chain e.previous ds rest l.next in
      ap (λ b. combined join (value b) c) (sym at) ∙ by_key e m l ds on (has_key cmp k e) refl
    where
      by_key : (e : Entry K V) → IsIn es e → IsLink e → (ds : List (Entry K V))
          → ((p : Option V) → combined join (value e.previous) p ≡ joined_end join assoc (value (leads_to e.previous ds)) (gathered join (filter (has_key cmp k) ds) p))
          → (b : Bool) → has_key cmp k e ≡ b
          → combined join (value e.address) c ≡ joined_end join assoc (value (leads_to e.previous ds)) (gathered join (filter (has_key cmp k) (e ∷ ds)) c)
      by_key e m l ds on true key =
          ap (λ v. combined join v c) (value-own e m l key)
          ∙ gather-step join assoc (value (leads_to e.previous ds)) (value e.previous) e (filter (has_key cmp k) ds) c (on (combined join e.value c)) e.delta
          ∙ ap (λ u. joined_end join assoc (value (leads_to e.previous ds)) (gathered join u c)) (sym (filter-one (has_key cmp k) e ds true key))
      by_key e m l ds on false key =
          ap (λ v. combined join v c) (value-other e m l key)
          ∙ on c
          ∙ ap (λ u. joined_end join assoc (value (leads_to e.previous ds)) (gathered join u c)) (sym (filter-one (has_key cmp k) e ds false key))

  pub read-from : (i : ℕ) (d : Entry K V) → slice_get es i ≡ Some d → class d.key ≡ class k → (upper : List (Entry K V)) → IsChainFrom low es d.address upper → (c j : Option V) (end : Option (Entry K V))
      → gathered join (filter (has_key cmp k) upper) c ≡ (j, end) → combined join (value d.address) c ≡ combined join (from_end join assoc (value (leads_to d.address upper)) end) j
  read-from i d g own upper chain c j end is =
      read-chain d.address upper chain (λ x m at up. ap (λ (y : Entry K V). class y.key) (one_address es r m.place i x d m.here g at) ∙ own) c
      ∙ ap (joined_end join assoc (value (leads_to d.address upper))) is
