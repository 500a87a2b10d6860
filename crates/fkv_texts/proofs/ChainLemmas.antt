-- A chain meets the entries of its class, the last one first.
use Rattle.std.proofs.Common.{◌≡◌, Bool, true, false, cond, ◌&&◌, ℕ, zero, suc, ◌<◌, ◌≤◌, ◌⊎◌, inl, inr, List, [], ◌∷◌, ◌++◌, length, filter, Option, Some, None, slice_get, refl, sym, ◌∙◌, ap, subst, arith, nat_lt, nat_le, append_assoc, append-nil}
use Rattle.std.proofs.lemmas.Bool.Decides.{nat_tests}
use Rattle.std.proofs.lemmas.Bool.{lt-ltb, ltb-true, le-leb, and_parts}
use Rattle.std.proofs.lemmas.Option.{slice_get_within}
use Rattle.std.proofs.lemmas.List.Elements.{filter-append}
use Rattle.std.proofs.lemmas.List.{reverse-append}
use Rattle.std.specs.List.{find}
use Rattle.std.specs.declared.cmp.Ordering.{Ordering}
use Rattle.fkv_functions.specs.Plain.{IsKeyOrder}
use Rattle.fkv_texts.specs.declared.entries.Entry.{Entry}
use Rattle.fkv_texts.specs.Text.{entry_at, has_key, last_of, newest, AllAbove, IsRising, IsFrom, IsBelow}
use Rattle.fkv_texts.specs.Chains.{IsClassTest, has_class, last_of_class, last_below, Leads, IsChained, IsChainFrom, ends, goes, StandsAt, falling}
use Rattle.fkv_functions.proofs.ListLemmas.{get-append_left, get-append_last, get-append_cases}
use Rattle.fkv_texts.proofs.LastWhere.{last_where-append, last_where-same, last_where-found}
use Rattle.fkv_texts.proofs.TextLemmas.{one_address, entry_at-in, newest-below}

-- what holds of no elements, and of one more wherever it holds, holds of any list
pub by_appends : {A : Type 0} (P : List A → Type 0) → ((xs : List A) (x : A) → P xs → P (xs ++ x ∷ [])) → (done rest : List A) → P done → P (done ++ rest)
by_appends P step done [] p = subst P (sym (append-nil done)) p
by_appends P step done (y ∷ ys) p = subst P (append_assoc done (y ∷ []) ys) (by_appends P step (done ++ y ∷ []) ys (step done y p))

-- ---- a chain of a text is one of a longer text
pub shorter-get : {A : Type 0} (text : List A) (e : A) (i : ℕ) (x : A) → slice_get text i ≡ Some x → slice_get (text ++ e ∷ []) i ≡ Some x
shorter-get text e i x h = get-append_left text (e ∷ []) i (slice_get_within text i x h) ∙ h

longer : {K V : Type 0} (begin : ℕ) (text : List (Entry K V)) (e : Entry K V) (a : ℕ) (es : List (Entry K V)) → IsChainFrom begin text a es → IsChainFrom begin (text ++ e ∷ []) a es
longer begin text e a es (ends low) = ends low
longer begin text e a es (goes {e = x} {es = xs} high m at rest) =
    goes high (record { place = m.place; here = shorter-get text e m.place x m.here }) at (longer begin text e x.previous xs rest)

-- and an entry appended behind it begins it
pub grown : {K V : Type 0} (begin : ℕ) (text : List (Entry K V)) (e : Entry K V) (es : List (Entry K V)) → IsChainFrom begin text e.previous es → begin ≤ e.address
    → IsChainFrom begin (text ++ e ∷ []) e.address (e ∷ es)
grown begin text e es chain high = goes high (record { place = length text; here = get-append_last text e }) refl (longer begin text e e.previous es chain)

-- ---- a chain has these entries and no others
pub one_chain : {K V : Type 0} (begin : ℕ) (text : List (Entry K V)) → IsRising text → (a : ℕ) (es ds : List (Entry K V)) → IsChainFrom begin text a es → IsChainFrom begin text a ds → es ≡ ds
one_chain begin text r a es ds (ends low) (ends low') = refl
one_chain begin text r a es ds (ends low) (goes high m at rest) = absurd (omega arith)
one_chain begin text r a es ds (goes high m at rest) (ends low) = absurd (omega arith)
one_chain {K} {V} begin text r a es ds (goes {e = x} {es = xs} high m at rest) (goes {e = y} {es = ys} high' n at' rest') =
    let is : x ≡ y = one_address text r m.place n.place x y m.here n.here (at ∙ sym at') in
    let others : xs ≡ ys = one_chain begin text r x.previous xs ys rest (subst (λ (z : Entry K V). IsChainFrom begin text z.previous ys) (sym is) rest') in
    λ i. is i ∷ others i

-- ---- where a chain stands
pub stands_at : {K V : Type 0} (begin : ℕ) (text : List (Entry K V)) (a : ℕ) (es : List (Entry K V)) → IsRising text → IsChainFrom begin text a es → begin ≤ a → StandsAt begin text a es
stands_at begin text a es r (ends low) high = absurd (omega arith)
stands_at begin text a es r (goes {e = e} {es = ds} high m at rest) high' =
    record { entry = e; rest = ds; here = entry_at-in text r e m a at; is = refl; on = rest }

pub ended : {K V : Type 0} (begin : ℕ) (text : List (Entry K V)) (a : ℕ) (es : List (Entry K V)) → IsChainFrom begin text a es → a < begin → es ≡ []
ended begin text a es (ends low) low' = refl
ended begin text a es (goes high m at rest) low = absurd (omega arith)

module _ {K V : Type 0} (cmp : K → K → Ordering) (k : K) (begin : ℕ) (text : List (Entry K V)) (a : ℕ) (es : List (Entry K V)) (s : StandsAt begin text a es)
    (e : Entry K V) (here : entry_at text a ≡ Some e) where
  own_entry : s.entry ≡ e
  own_entry = let both : Some s.entry ≡ Some e = sym s.here ∙ here in cc

  -- the entry is of the key, or the chain goes on
  pub met_here : has_key cmp k e ≡ true → find (has_key cmp k) es ≡ Some e
  met_here h = let own : has_key cmp k s.entry ≡ true = ap (has_key cmp k) own_entry ∙ h in ap (find (has_key cmp k)) s.is ∙ rw own (ap Some own_entry)

  pub passed_here : has_key cmp k e ≡ false → find (has_key cmp k) es ≡ find (has_key cmp k) s.rest
  passed_here h = let own : has_key cmp k s.entry ≡ false = ap (has_key cmp k) own_entry ∙ h in ap (find (has_key cmp k)) s.is ∙ rw own refl

  pub goes_on : IsChainFrom begin text e.previous s.rest
  goes_on = subst (λ (x : Entry K V). IsChainFrom begin text x.previous s.rest) own_entry s.on

module _ {K V C : Type 0} (class : K → C) (same : C → C → Bool) (begin : ℕ) where
  -- ---- an entry is appended behind the last of its class
  below_new : (text : List (Entry K V)) (e : Entry K V) (c : C) (bound : ℕ) → bound ≤ e.address → last_below class same (text ++ e ∷ []) c bound ≡ last_below class same text c bound
  below_new text e c bound h =
      let no : nat_lt e.address bound ≡ false = grind (arith, nat_tests) in
      last_where-append (λ x. nat_lt x.address bound && has_class class same c x) text e ∙ rw no refl

  below_all : (text : List (Entry K V)) (c : C) (bound : ℕ) → IsBelow bound text → last_below class same text c bound ≡ last_of_class class same text c
  below_all text c bound under =
      last_where-same (λ x. nat_lt x.address bound && has_class class same c x) (has_class class same c) text (λ i x h. rw (lt-ltb x.address bound (under i x h)) refl)

  pub chained-append : (text : List (Entry K V)) (e : Entry K V) → IsChained class same begin text → IsBelow e.address text → Leads begin (last_of_class class same text (class e.key)) e.previous
      → IsChained class same begin (text ++ e ∷ [])
  chained-append text e chained under leads = λ i x h. elim (get-append_cases text e i x h) [
    | inl old ↦
        (let lt = under i x old in
        subst (λ (l : Option (Entry K V)). Leads begin l x.previous) (sym (below_new text e (class x.key) x.address (omega arith))) (chained i x old))
    | inr new ↦ subst (λ (y : Entry K V). Leads begin (last_below class same (text ++ e ∷ []) (class y.key) y.address) y.previous) new.1
        (subst (λ (l : Option (Entry K V)). Leads begin l e.previous) (sym (below_new text e (class e.key) e.address (omega arith) ∙ below_all text (class e.key) e.address under)) leads)
  ]

  -- ---- what a text keeps without its last entry
  above-append : (a : ℕ) (text : List (Entry K V)) (e : Entry K V) → AllAbove a (text ++ e ∷ []) → AllAbove a text × (a < e.address)
  above-append a [] e h = (tt, h.0)
  above-append a (x ∷ xs) e h = let r = above-append a xs e h.1 in ((h.0, r.0), r.1)

  below-cons : (y : Entry K V) (ys : List (Entry K V)) (tail : ℕ) → y.address < tail → IsBelow tail ys → IsBelow tail (y ∷ ys)
  below-cons y ys tail lt under zero x h = let is : y ≡ x = cc in subst (λ (z : Entry K V). z.address < tail) is lt
  below-cons y ys tail lt under (suc i) x h = under i x h

  rising-append : (text : List (Entry K V)) (e : Entry K V) → IsRising (text ++ e ∷ []) → IsRising text × IsBelow e.address text
  rising-append [] e r = (tt, λ i x h. absurd (cc))
  rising-append (y ∷ ys) e r =
      let a = above-append y.address ys e r.0 in
      let s = rising-append ys e r.1 in
      ((a.0, s.0), below-cons y ys e.address a.1 s.1)

  chained-shorter : (text : List (Entry K V)) (e : Entry K V) → IsBelow e.address text → IsChained class same begin (text ++ e ∷ []) → IsChained class same begin text
  chained-shorter text e under chained = λ i x h.
      let lt = under i x h in
      subst (λ (l : Option (Entry K V)). Leads begin l x.previous) (below_new text e (class x.key) x.address (omega arith)) (chained i x (shorter-get text e i x h))

  -- ---- the chain of a class
  filter-one : (p : Entry K V → Bool) (e : Entry K V) (b : Bool) → p e ≡ b → filter p (e ∷ []) ≡ cond b (e ∷ []) []
  filter-one p e b h = rw h refl

  falling-append : (text : List (Entry K V)) (e : Entry K V) (c : C) → falling class same (text ++ e ∷ []) c ≡ cond (has_class class same c e) (e ∷ falling class same text c) (falling class same text c)
  falling-append text e c = by_class (has_class class same c e) refl
    where
      by_class : (b : Bool) → has_class class same c e ≡ b → falling class same (text ++ e ∷ []) c ≡ cond (has_class class same c e) (e ∷ falling class same text c) (falling class same text c)
      by_class true h =
          rw (filter-append (has_class class same c) text (e ∷ []), reverse-append (filter (has_class class same c) text) (filter (has_class class same c) (e ∷ [])), h) refl
      by_class false h =
          rw (filter-append (has_class class same c) text (e ∷ []), reverse-append (filter (has_class class same c) text) (filter (has_class class same c) (e ∷ [])), h) refl

  abbrev Meets : List (Entry K V) → Type 0
  Meets text = IsRising text → IsFrom begin text → IsChained class same begin text → (c : C) (a : ℕ) → Leads begin (last_of_class class same text c) a → IsChainFrom begin text a (falling class same text c)

  meets-append : IsClassTest same → (text : List (Entry K V)) (e : Entry K V) → Meets text → Meets (text ++ e ∷ [])
  meets-append test text e before r f chained c a leads = by_class (has_class class same c e) refl
    where
      by_class : (b : Bool) → has_class class same c e ≡ b → IsChainFrom begin (text ++ e ∷ []) a (falling class same (text ++ e ∷ []) c)
      by_class true h =
          let s = rising-append text e r in
          let short = chained-shorter text e s.1 chained in
          let last : last_of_class class same (text ++ e ∷ []) c ≡ Some e = last_where-append (has_class class same c) text e ∙ rw h refl in
          let at : a ≡ e.address = subst (λ (l : Option (Entry K V)). Leads begin l a) last leads in
          let link = chained (length text) e (get-append_last text e) in
          let own = subst (λ (l : Option (Entry K V)). Leads begin l e.previous) (below_new text e (class e.key) e.address (omega arith) ∙ below_all text (class e.key) e.address s.1) link in
          let mine = subst (λ (d : C). Leads begin (last_of_class class same text d) e.previous) (test.only (class e.key) c h) own in
          let rest = before s.0 (λ i x k. f i x (shorter-get text e i x k)) short c e.previous mine in
          let low : begin ≤ e.address = f (length text) e (get-append_last text e) in
          let is : falling class same (text ++ e ∷ []) c ≡ e ∷ falling class same text c = falling-append text e c ∙ rw h refl in
          let high : begin ≤ a = omega arith in
          rw is (goes high (record { place = length text; here = get-append_last text e }) (sym at) (longer begin text e e.previous (falling class same text c) rest))
      by_class false h =
          let s = rising-append text e r in
          let short = chained-shorter text e s.1 chained in
          let last : last_of_class class same (text ++ e ∷ []) c ≡ last_of_class class same text c = last_where-append (has_class class same c) text e ∙ rw h refl in
          let rest = before s.0 (λ i x k. f i x (shorter-get text e i x k)) short c a (subst (λ (l : Option (Entry K V)). Leads begin l a) last leads) in
          let is : falling class same (text ++ e ∷ []) c ≡ falling class same text c = falling-append text e c ∙ rw h refl in
          rw is (longer begin text e a (falling class same text c) rest)

  -- the chain from the last entry of a class has its entries, the last one first
  pub meets : IsClassTest same → (text : List (Entry K V)) → Meets text
  meets test text = by_appends Meets (meets-append test) [] text (λ r f chained c a leads. ends leads)

  -- ---- the first of a key in the chain of its class is the last of the key
  found-step : (p : Entry K V → Bool) (e : Entry K V) (fs : List (Entry K V)) (l : Option (Entry K V)) (b d : Bool) → p e ≡ d → (d ≡ true → b ≡ true) → find p fs ≡ l
      → find p (cond b (e ∷ fs) fs) ≡ cond d (Some e) l
  found-step p e fs l true true h k f = rw h refl
  found-step p e fs l false true h k f = absurd (let no : false ≡ true = k refl in cc)
  found-step p e fs l true false h k f = rw h f
  found-step p e fs l false false h k f = f

  pub finds : (cmp : K → K → Ordering) → IsKeyOrder cmp → IsClassTest same → (k : K) (text : List (Entry K V)) → find (has_key cmp k) (falling class same text (class k)) ≡ last_of cmp text k
  finds cmp order test k text = by_appends (λ (t : List (Entry K V)). find (has_key cmp k) (falling class same t (class k)) ≡ last_of cmp t k)
      (λ t e h. ap (find (has_key cmp k)) (falling-append t e (class k))
      ∙ found-step (has_key cmp k) e (falling class same t (class k)) (last_of cmp t k) (has_class class same (class k) e) (has_key cmp k e) refl
      (λ q. ap (λ x. same (class x) (class k)) (order.same e.key k q) ∙ test.self (class k)) h
      ∙ sym (last_where-append (has_key cmp k) t e))
      [] text refl

  -- ---- a chain from any entry
  -- what leads to an entry below an address leads below it, or below Begin
  leads-low : (text : List (Entry K V)) (c : C) (bound p : ℕ) → Leads begin (last_below class same text c bound) p → (p < begin) ⊎ (p < bound)
  leads-low text c bound p h = by_last (last_below class same text c bound) refl h
    where
      by_last : (l : Option (Entry K V)) → last_below class same text c bound ≡ l → Leads begin l p → (p < begin) ⊎ (p < bound)
      by_last None e q = inl q
      by_last (Some x) e q =
          let parts = and_parts (nat_lt x.address bound) (has_class class same c x) (last_where-found (λ y. nat_lt y.address bound && has_class class same c y) text x e) in
          let low : x.address < bound = ltb-true x.address bound parts.0 in
          inr (rw q low)

  -- a chain that begins below an appended entry is one of the text without it
  shorter : (text : List (Entry K V)) (e : Entry K V) → IsChained class same begin (text ++ e ∷ []) → (a : ℕ) (es : List (Entry K V)) → (a < begin) ⊎ (a < e.address)
      → IsChainFrom begin (text ++ e ∷ []) a es → IsChainFrom begin text a es
  shorter text e chained a es below (ends low) = ends low
  shorter text e chained a es below (goes {e = x} {es = xs} high m at rest) =
      let under : a < e.address = elim below [ inl low ↦ absurd (omega arith) | inr low ↦ low ] in
      let link = leads-low (text ++ e ∷ []) (class x.key) x.address x.previous (chained m.place x m.here) in
      let next : (x.previous < begin) ⊎ (x.previous < e.address) = elim link [ inl low ↦ inl low | inr low ↦ inr (omega (arith, at)) ] in
      elim (get-append_cases text e m.place x m.here) [
        | inl old ↦ goes high (record { place = m.place; here = old }) at (shorter text e chained x.previous xs next rest)
        | inr last ↦ absurd (let same_place : e.address ≡ x.address = ap (λ (y : Entry K V). y.address) last.1 in omega arith)
      ]

  -- the first of a key that it meets is the newest of the key from there
  abbrev MetFrom : (K → K → Ordering) → K → List (Entry K V) → Type 0
  MetFrom cmp k text =
      IsRising text → IsFrom begin text → IsChained class same begin text → (i : ℕ) (e : Entry K V) → slice_get text i ≡ Some e → class e.key ≡ class k
      → (es : List (Entry K V)) → IsChainFrom begin text e.address es → find (has_key cmp k) es ≡ newest cmp text k e.address

  newest-all : (cmp : K → K → Ordering) (k : K) (text : List (Entry K V)) (a : ℕ) → ((i : ℕ) (x : Entry K V) → slice_get text i ≡ Some x → x.address ≤ a) → newest cmp text k a ≡ last_of cmp text k
  newest-all cmp k text a low = last_where-same (λ x. nat_le x.address a && has_key cmp k x) (has_key cmp k) text (λ i x h. rw (le-leb x.address a (low i x h)) refl)

  met-append : (cmp : K → K → Ordering) → IsKeyOrder cmp → IsClassTest same → (k : K) (text : List (Entry K V)) (x : Entry K V) → MetFrom cmp k text → MetFrom cmp k (text ++ x ∷ [])
  met-append cmp order test k text x before r f chained i e g own es chain = elim (get-append_cases text x i e g) [
    | inl old ↦
        (let s = rising-append text x r in
        let lt : e.address < x.address = s.1 i e old in
        before s.0 (λ j y h. f j y (shorter-get text x j y h)) (chained-shorter text x s.1 chained) i e old own es (shorter text x chained e.address es (inr lt) chain)
        ∙ sym (newest-below cmp text x k e.address lt))
    | inr last ↦
        (let s = rising-append text x r in
        let own_x : class x.key ≡ class k = ap (λ (y : Entry K V). class y.key) last.1 ∙ own in
        let yes : has_class class same (class k) x ≡ true = ap (λ c. same c (class k)) own_x ∙ test.self (class k) in
        let is : last_of_class class same (text ++ x ∷ []) (class k) ≡ Some x = last_where-append (has_class class same (class k)) text x ∙ rw yes refl in
        let leads : Leads begin (last_of_class class same (text ++ x ∷ []) (class k)) e.address =
        subst (λ (l : Option (Entry K V)). Leads begin l e.address) (sym is) (sym (ap (λ (y : Entry K V). y.address) last.1)) in
        let whole = meets test (text ++ x ∷ []) r f chained (class k) e.address leads in
        ap (find (has_key cmp k)) (one_chain begin (text ++ x ∷ []) r e.address es (falling class same (text ++ x ∷ []) (class k)) chain whole)
        ∙ finds cmp order test k (text ++ x ∷ [])
        ∙ sym (newest-all cmp k (text ++ x ∷ []) e.address (λ j y h. elim (get-append_cases text x j y h) [
          | inl old ↦ (let lt : y.address < x.address = s.1 j y old in let here : x.address ≡ e.address = ap (λ (z : Entry K V). z.address) last.1 in omega arith)
          | inr new ↦ (let here : x.address ≡ e.address = ap (λ (z : Entry K V). z.address) last.1 in let there : x.address ≡ y.address = ap (λ (z : Entry K V). z.address) new.1 in omega arith)
        ])))
  ]

  pub met_from : (cmp : K → K → Ordering) → IsKeyOrder cmp → IsClassTest same → (k : K) (text : List (Entry K V)) → MetFrom cmp k text
  met_from cmp order test k text = by_appends (MetFrom cmp k) (met-append cmp order test k) [] text (λ r f chained i e g own es chain. absurd (cc))
