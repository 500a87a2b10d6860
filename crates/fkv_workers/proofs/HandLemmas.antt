-- Items that are dealt out, one after the other.
use Rattle.std.proofs.Common.{◌≡◌, ◌+◌, ◌<◌, ◌==◌, ◌%◌, inl, inr, ℕ, zero, suc, List, [], ◌∷◌, ◌++◌, length, map, filter, take, drop, replicate, get_or, slice_get, slice_set, Some, refl, sym, ap, subst, ◌∙◌, arith}
use Rattle.std.specs.List.{enumerate_from}
use Rattle.std.proofs.lemmas.Bool.{eq-eqb, ne_eqb, cases_eq}
use Rattle.std.proofs.lemmas.List.{append-nil, map-append, length-set, length-drop, length-take, drop_more, take_more, take_all}
use Rattle.std.proofs.lemmas.List.Elements.{filter-append}
use Rattle.std.proofs.lemmas.Option.{slice_get-get_or}
use Rattle.std.proofs.Math.Nat.{mod-lt}
use Rattle.fkv_functions.proofs.ListLemmas.{get-set_same}
use Rattle.fkv_workers.specs.Shares.{dealt, AreDealt}

blank_behind : {X : Type 0} (x : X) (m : ℕ) → replicate m x ++ x ∷ [] ≡ replicate (suc m) x
blank_behind x zero = refl
blank_behind x (suc m) = ap (λ xs. x ∷ xs) (blank_behind x m)

length_blank : {X : Type 0} (x : X) (m : ℕ) → length (replicate m x) ≡ m
length_blank x zero = refl
length_blank x (suc m) = ap suc (length_blank x m)

get_blank : {X : Type 0} (x : X) (m w : ℕ) (y : X) → slice_get (replicate m x) w ≡ Some y → y ≡ x
get_blank x zero w y at = absurd (cc)
get_blank x (suc m) zero y at = cc
get_blank x (suc m) (suc w) y at = get_blank x m w y at

pub blanks_more : {A B : Type 0} (f : A → List B) (hs : List A) (h : A) (n : ℕ) → map f hs ≡ replicate n [] → f h ≡ [] → map f (hs ++ h ∷ []) ≡ replicate (n + 1) []
blanks_more f hs h n was none =
    let one : n + 1 ≡ suc n = omega arith in
    map-append f hs (h ∷ []) ∙ (rw (was, none, one) (blank_behind [] n))

-- before the first
pub none_dealt : {A : Type 0} (workers : ℕ) (items : List A) (hands : List (List (ℕ × A))) → hands ≡ replicate workers [] → AreDealt workers (take 0 items) hands
none_dealt workers items hands is = rw is (record { count = length_blank [] workers; each = get_blank [] workers })

module _ {A : Type 0} where
  enumerate_more : (n : ℕ) (xs : List A) (x : A) → enumerate_from n (xs ++ x ∷ []) ≡ enumerate_from n xs ++ (n + length xs, x) ∷ []
  enumerate_more n [] x = ap (λ m. (m, x) ∷ []) (omega arith)
  enumerate_more n (y ∷ xs) x =
      let same : n + 1 + length xs ≡ n + suc (length xs) = omega arith in
      ap (λ ps. (n, y) ∷ ps) (enumerate_more (n + 1) xs x ∙ ap (λ m. enumerate_from (n + 1) xs ++ (m, x) ∷ []) same)

  -- one item more is its worker's
  dealt_one : (workers w : ℕ) (xs : List A) (x : A) → length xs % workers ≡ w → dealt workers w (xs ++ x ∷ []) ≡ dealt workers w xs ++ (length xs, x) ∷ []
  dealt_one workers w xs x is =
      ap (filter (λ item. item.0 % workers == w)) (enumerate_more 0 xs x)
      ∙ (filter-append (λ item. item.0 % workers == w) (enumerate_from 0 xs) ((0 + length xs, x) ∷ [])
      ∙ (let n : 0 + length xs ≡ length xs = omega arith in rw (n, eq-eqb (length xs % workers) w is) refl))

  dealt_none : (workers w : ℕ) (xs : List A) (x : A) → (length xs % workers ≡ w → ⊥) → dealt workers w (xs ++ x ∷ []) ≡ dealt workers w xs
  dealt_none workers w xs x ne =
      ap (filter (λ item. item.0 % workers == w)) (enumerate_more 0 xs x)
      ∙ (filter-append (λ item. item.0 % workers == w) (enumerate_from 0 xs) ((0 + length xs, x) ∷ [])
      ∙ (let n : 0 + length xs ≡ length xs = omega arith in rw (n, ne_eqb (length xs % workers) w ne) (append-nil (dealt workers w xs))))

  get_other : (hands : List (List (ℕ × A))) (i w : ℕ) (new : List (ℕ × A)) → (w ≡ i → ⊥) → slice_get (slice_set hands i new) w ≡ slice_get hands w
  get_other [] i w new ne = refl
  get_other (h ∷ hands) zero zero new ne = absurd (ne refl)
  get_other (h ∷ hands) zero (suc w) new ne = refl
  get_other (h ∷ hands) (suc i) zero new ne = refl
  get_other (h ∷ hands) (suc i) (suc w) new ne = get_other hands i w new (λ e. ne (ap suc e))

  module _ (workers : ℕ) (some : 0 < workers) (items : List A) (n : ℕ) (x : A) (rest : List A) (next : drop n items ≡ x ∷ rest) where
    inside : n < length items
    inside = omega (arith, length-drop n items, ap length next)

    pub rest_is : rest ≡ drop (n + 1) items
    rest_is = (let cut = sym next ∙ drop_more items n x inside in cc)

    grown : take (n + 1) items ≡ take n items ++ x ∷ []
    grown = (let cut = sym next ∙ drop_more items n x inside in let same : get_or items n x ≡ x = cc in take_more items n x inside ∙ rw same refl)

    long : length (take n items) ≡ n
    long = omega (arith, length-take n items, inside)

    pub dealt_more : (hands : List (List (ℕ × A))) (hand : List (ℕ × A)) → AreDealt workers (take n items) hands
        → hand ≡ get_or hands (n % workers) [] ++ (n, x) ∷ []
        → AreDealt workers (take (n + 1) items) (slice_set hands (n % workers) hand)
    dealt_more hands hand d is = rw grown (record { count = length-set hands (n % workers) hand ∙ d.count; each = each })
      where
        within : n % workers < length hands
        within = omega (arith, d.count, mod-lt n some)

        before : slice_get hands (n % workers) ≡ Some (get_or hands (n % workers) [])
        before = slice_get-get_or hands (n % workers) [] within

        each : (w : ℕ) (new : List (ℕ × A)) → slice_get (slice_set hands (n % workers) hand) w ≡ Some new → new ≡ dealt workers w (take n items ++ x ∷ [])
        each w new at = elim (cases_eq w (n % workers)) [
          | inl e ↦ (
              let there = get-set_same hands (n % workers) (get_or hands (n % workers) []) hand before in
              let here : slice_get (slice_set hands (n % workers) hand) (n % workers) ≡ Some new = subst (λ v. slice_get (slice_set hands (n % workers) hand) v ≡ Some new) e at in
              let same : new ≡ hand = cc in
              let was : get_or hands (n % workers) [] ≡ dealt workers (n % workers) (take n items) = d.each (n % workers) (get_or hands (n % workers) []) before in
              let all : get_or hands (n % workers) [] ++ (n, x) ∷ [] ≡ dealt workers (n % workers) (take n items) ++ (length (take n items), x) ∷ [] = rw (was, long) refl in
              same ∙ (is ∙ (all ∙ (sym (dealt_one workers (n % workers) (take n items) x (ap (λ m. m % workers) long)) ∙ ap (λ v. dealt workers v (take n items ++ x ∷ [])) (sym e))))
              )
          | inr ne ↦ (
              let was = d.each w new (sym (get_other hands (n % workers) w hand ne) ∙ at) in
              was ∙ sym (dealt_none workers w (take n items) x (λ e. ne (sym e ∙ ap (λ m. m % workers) long)))
              )
        ]

-- behind the last
pub whole_dealt : {A : Type 0} (workers : ℕ) (items : List A) (n : ℕ) (hands : List (List (ℕ × A))) → drop n items ≡ [] → AreDealt workers (take n items) hands → AreDealt workers items hands
whole_dealt workers items n hands over d = subst (λ xs. AreDealt workers xs hands) (take_all n items (omega (arith, length-drop n items, ap length over))) d
