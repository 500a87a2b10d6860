-- A text that begins higher.
use Rattle.std.proofs.Common.{◌≡◌, ◌^◌, ◌<◌, ◌≤◌, ◌==◌, ◌&&◌, inl, inr, ℕ, zero, suc, Bool, true, false, cond, List, [], ◌∷◌, Option, Some, None, nat_lt, nat_le, filter, slice_get, refl, sym, ◌∙◌, ap, subst, arith}
use Rattle.std.specs.Option.{option_or}
use Rattle.std.proofs.lemmas.Bool.{cases_lt, eqb-true}
use Rattle.std.proofs.lemmas.Bool.Decides.{nat_tests}
use Rattle.fkv_records.specs.Places.{IsShape, IsRecordStart}
use Rattle.fkv_texts.specs.declared.entries.Entry.{Entry}
use Rattle.fkv_texts.specs.Text.{last_where, entry_at, AllAbove, IsRising, IsFrom, IsBelow, text_from}
use Rattle.fkv_texts.specs.Places.{tail_after, IsLaidOut}
use Rattle.fkv_texts.specs.Chains.{IsIn, has_class, last_of_class, last_below, Leads, IsChained}
use Rattle.fkv_texts.proofs.LastWhere.{last_where-filter, last_where-same, last_where-in, last_where-none, last_where-narrow, last_where-narrow_none, none-passes}
use Rattle.fkv_texts.proofs.PlaceLemmas.{after, after-nearest, stands}

-- ---- the entries from an address on
pub filter-one : {A : Type 0} (p : A → Bool) (x : A) (xs : List A) (b : Bool) → p x ≡ b → filter p (x ∷ xs) ≡ cond b (x ∷ filter p xs) (filter p xs)
filter-one p x xs b h = rw h refl

-- an element of a filtered list is one of the list, and passes
pub filter-in : {A : Type 0} (p : A → Bool) (xs : List A) (i : ℕ) (x : A) → slice_get (filter p xs) i ≡ Some x → IsIn xs x × (p x ≡ true)
filter-in p [] i x g = absurd (cc)
filter-in {A} p (y ∷ ys) i x g = by_test (λ j e. filter-in p ys j x e) (p y) refl i g
  where
    later : IsIn ys x × (p x ≡ true) → IsIn (y ∷ ys) x × (p x ≡ true)
    later r = (record { place = suc r.0.place; here = r.0.here }, r.1)

    by_test : ((j : ℕ) → slice_get (filter p ys) j ≡ Some x → IsIn ys x × (p x ≡ true)) → (b : Bool) → p y ≡ b → (j : ℕ) → slice_get (filter p (y ∷ ys)) j ≡ Some x
        → IsIn (y ∷ ys) x × (p x ≡ true)
    by_test rest false h j e = later (rest j (ap (λ (l : List A). slice_get l j) (sym (filter-one p y ys false h)) ∙ e))
    by_test rest true h zero e =
        let at : Some y ≡ Some x = ap (λ (l : List A). slice_get l zero) (sym (filter-one p y ys true h)) ∙ e in
        let same : y ≡ x = cc in
        (record { place = zero; here = ap Some same }, sym (ap p same) ∙ h)
    by_test rest true h (suc j) e = later (rest j (ap (λ (l : List A). slice_get l (suc j)) (sym (filter-one p y ys true h)) ∙ e))

-- what passes all stays
pub filter-all : {A : Type 0} (p : A → Bool) (xs : List A) → ((i : ℕ) (x : A) → slice_get xs i ≡ Some x → p x ≡ true) → filter p xs ≡ xs
filter-all p [] h = refl
filter-all p (x ∷ xs) h = filter-one p x xs true (h zero x refl) ∙ ap (λ l. x ∷ l) (filter-all p xs (λ i. h (suc i)))

module _ (bits size : ℕ) (s : IsShape bits size) {K V : Type 0} where
  -- a text from a place on is laid out from there
  pub laid_out-from : (begin tail a : ℕ) (text : List (Entry K V)) → (begin < 2 ^ 48 → IsRecordStart bits size begin) → tail ≤ 2 ^ 48 → (a < 2 ^ 48 → IsRecordStart bits size a)
      → begin ≤ a → a ≤ tail → IsLaidOut bits size begin tail text → IsLaidOut bits size a tail (text_from a text)
  laid_out-from begin tail a [] p most q low high h = let e : begin ≡ tail = h in omega arith
  laid_out-from begin tail a (x ∷ xs) p most q low high h = elim (cases_lt begin a) [
    | inr here ↦
        (let same : begin ≡ a = omega arith in
        let all : text_from a (x ∷ xs) ≡ x ∷ xs = filter-all (λ (e : Entry K V). nat_le a e.address) (x ∷ xs)
        (λ i e g. let st = stands bits size s begin tail (x ∷ xs) p most h i e g in let l = st.low in let le : a ≤ e.address = omega arith in grind (arith, nat_tests)) in
        rw all (subst (λ (b : ℕ). IsLaidOut bits size b tail (x ∷ xs)) same h))
    | inl less ↦
        (let on : begin < tail = h.1 in
        let place = p (omega arith) in
        let t = after bits size s begin place in
        let near : tail_after bits size begin ≤ a = elim (cases_lt a (2 ^ 48)) [
          | inl below ↦ after-nearest bits size s begin a place (q below) less
          | inr end ↦ (let m = t.most in omega arith)
        ] in
        let first : x.address ≡ begin = h.0 in
        let out : nat_le a x.address ≡ false = (let lt : x.address < a = omega arith in grind (arith, nat_tests)) in
        rw (filter-one (λ (e : Entry K V). nat_le a e.address) x xs false out) (laid_out-from (tail_after bits size begin) tail a xs t.place most q near high h.2))
  ]

module _ {K V : Type 0} where
  above-in : (a : ℕ) (xs : List (Entry K V)) → AllAbove a xs → (i : ℕ) (x : Entry K V) → slice_get xs i ≡ Some x → a < x.address
  above-in a [] h i x e = absurd (cc)
  above-in a (y ∷ ys) h zero x e = let same : y ≡ x = cc in let lt : a < y.address = h.0 in subst (λ (z : Entry K V). a < z.address) same lt
  above-in a (y ∷ ys) h (suc i) x e = above-in a ys h.1 i x e

  only-one : (b : Bool) (y e : Entry K V) → cond b (Some y) None ≡ Some e → y ≡ e
  only-one true y e h = cc
  only-one false y e h = absurd (cc)

  highest-step : (p : Entry K V → Bool) (y : Entry K V) (ys : List (Entry K V)) (o : Option (Entry K V)) (e : Entry K V) → last_where p ys ≡ o → IsRising (y ∷ ys)
      → option_or o (cond (p y) (Some y) None) ≡ Some e
      → ((d : Entry K V) → last_where p ys ≡ Some d → (j : ℕ) (x : Entry K V) → slice_get ys j ≡ Some x → p x ≡ true → x.address ≤ d.address)
      → (j : ℕ) (x : Entry K V) → slice_get (y ∷ ys) j ≡ Some x → p x ≡ true → x.address ≤ e.address
  highest-step p y ys (Some d) e l r h rest zero x g t =
      let is : d ≡ e = cc in
      let own : y ≡ x = cc in
      let m = last_where-in p ys d l in
      let lt : y.address < d.address = above-in y.address ys r.0 m.place d m.here in
      let at = ap (λ (z : Entry K V). z.address) is in
      let own_at = ap (λ (z : Entry K V). z.address) own in
      omega arith
  highest-step p y ys (Some d) e l r h rest (suc j) x g t =
      let is : d ≡ e = cc in
      let at = ap (λ (z : Entry K V). z.address) is in
      let le = rest d l j x g t in
      omega arith
  highest-step p y ys None e l r h rest zero x g t =
      let is : y ≡ e = only-one (p y) y e h in
      let own : y ≡ x = cc in
      let at = ap (λ (z : Entry K V). z.address) is in
      let own_at = ap (λ (z : Entry K V). z.address) own in
      omega arith
  highest-step p y ys None e l r h rest (suc j) x g t = absurd (let no : p x ≡ false = none-passes p ys l j x g in let bad : true ≡ false = sym t ∙ no in cc)

  -- what passes stands no higher than the last that does
  pub highest : (p : Entry K V → Bool) (xs : List (Entry K V)) (e : Entry K V) → IsRising xs → last_where p xs ≡ Some e → (i : ℕ) (x : Entry K V) → slice_get xs i ≡ Some x → p x ≡ true → x.address ≤ e.address
  highest p [] e r l i x g h = absurd (cc)
  highest p (y ∷ ys) e r l i x g h = highest-step p y ys (last_where p ys) e refl r l (λ d k. highest p ys d r.1 k) i x g h

  -- the last that passes, where the text begins higher
  cut-last : (p : Entry K V → Bool) (from a b : ℕ) (text : List (Entry K V)) → IsRising text → from ≤ a → (o : Option (Entry K V)) → last_where p text ≡ o → Leads from o b
      → Leads a (last_where p (text_from a text)) b
  cut-last p from a b text r le None l h =
      let none : last_where p (text_from a text) ≡ None = last_where-filter p (λ x. nat_le a x.address) text ∙ last_where-narrow_none p (λ x. nat_le a x.address) text l in
      let low : b < from = h in
      rw none (omega arith)
  cut-last p from a b text r le (Some e) l h = elim (cases_lt e.address a) [
    | inl below ↦
        (let none : last_where p (text_from a text) ≡ None = last_where-filter p (λ x. nat_le a x.address) text
        ∙ last_where-none (λ x. nat_le a x.address && p x) text (λ i x g. both (nat_le a x.address) (p x)
        (λ t. (let high = highest p text e r l i x g t in let lt : x.address < a = omega arith in grind (arith, nat_tests)))) in
        let at : b ≡ e.address = h in
        rw none (omega arith))
    | inr above ↦
        (let yes : nat_le a e.address ≡ true = grind (arith, nat_tests) in
        let some : last_where p (text_from a text) ≡ Some e = last_where-filter p (λ x. nat_le a x.address) text ∙ last_where-narrow p (λ x. nat_le a x.address) text e l yes in
        rw some h)
  ]
    where
      both : (u t : Bool) → (t ≡ true → u ≡ false) → (u && t) ≡ false
      both true true h = (let bad : true ≡ false = h refl in bad)
      both true false h = refl
      both false t h = refl

  -- the entry at an address from there on stays
  pub cut-entry : (a b : ℕ) (text : List (Entry K V)) → a ≤ b → entry_at (text_from a text) b ≡ entry_at text b
  cut-entry a b text le =
      last_where-filter (λ x. x.address == b) (λ x. nat_le a x.address) text
      ∙ last_where-same (λ x. nat_le a x.address && (x.address == b)) (λ x. x.address == b) text
      (λ i x g. same (nat_le a x.address) (x.address == b) (λ t. (let at = eqb-true x.address b t in let high : a ≤ x.address = omega arith in grind (arith, nat_tests))))
    where
      same : (u t : Bool) → (t ≡ true → u ≡ true) → (u && t) ≡ t
      same u true h = rw (h refl) refl
      same true false h = refl
      same false false h = refl

  above-filter : (p : Entry K V → Bool) (a : ℕ) (xs : List (Entry K V)) → AllAbove a xs → AllAbove a (filter p xs)
  above-filter p a [] h = tt
  above-filter p a (x ∷ xs) h = by_test (p x) refl (above-filter p a xs h.1)
    where
      by_test : (b : Bool) → p x ≡ b → AllAbove a (filter p xs) → AllAbove a (filter p (x ∷ xs))
      by_test true e rest = rw (filter-one p x xs true e) (h.0, rest)
      by_test false e rest = rw (filter-one p x xs false e) rest

  rising-filter : (p : Entry K V → Bool) (xs : List (Entry K V)) → IsRising xs → IsRising (filter p xs)
  rising-filter p [] r = tt
  rising-filter p (x ∷ xs) r = by_test (p x) refl (rising-filter p xs r.1)
    where
      by_test : (b : Bool) → p x ≡ b → IsRising (filter p xs) → IsRising (filter p (x ∷ xs))
      by_test true e rest = rw (filter-one p x xs true e) (above-filter p x.address xs r.0, rest)
      by_test false e rest = rw (filter-one p x xs false e) rest

  pub cut-rising : (a : ℕ) (text : List (Entry K V)) → IsRising text → IsRising (text_from a text)
  cut-rising a text r = rising-filter (λ x. nat_le a x.address) text r

  -- what is said of all of a text is said of one that begins higher
  pub cut-from : (a : ℕ) (text : List (Entry K V)) → IsFrom a (text_from a text)
  cut-from a text i e g =
      let was = filter-in (λ (d : Entry K V). nat_le a d.address) text i e g in
      le-true a e.address was.1
    where
      le-true : (m n : ℕ) → nat_le m n ≡ true → m ≤ n
      le-true m n h = grind (arith, nat_tests, h)

  pub cut-below : (tail a : ℕ) (text : List (Entry K V)) → IsBelow tail text → IsBelow tail (text_from a text)
  cut-below tail a text h i e g =
      let was = filter-in (λ (d : Entry K V). nat_le a d.address) text i e g in
      h was.0.place e was.0.here

  pub cut-whole : (a : ℕ) (text : List (Entry K V)) → IsFrom a text → text_from a text ≡ text
  cut-whole a text h = filter-all (λ (e : Entry K V). nat_le a e.address) text (λ i e g. (let le : a ≤ e.address = h i e g in grind (arith, nat_tests)))

  module _ {C : Type 0} (class : K → C) (is_same : C → C → Bool) (from a : ℕ) (text : List (Entry K V)) (r : IsRising text) (le : from ≤ a) where
    pub cut-leads : (c : C) (b : ℕ) → Leads from (last_of_class class is_same text c) b → Leads a (last_of_class class is_same (text_from a text) c) b
    cut-leads c b h = cut-last (has_class class is_same c) from a b text r le (last_of_class class is_same text c) refl h

    pub cut-chained : IsChained class is_same from text → IsChained class is_same a (text_from a text)
    cut-chained h = λ i e g.
        let was = filter-in (λ (d : Entry K V). nat_le a d.address) text i e g in
        cut-last (λ x. nat_lt x.address e.address && has_class class is_same (class e.key) x) from a e.previous text r le
        (last_below class is_same text (class e.key) e.address) refl (h was.0.place e was.0.here)
