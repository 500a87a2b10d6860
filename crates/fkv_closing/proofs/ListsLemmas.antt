-- Own lists that are put to their partitions.
use Rattle.std.proofs.Common.{◌≡◌, inl, inr, ◌+◌, ◌<◌, ◌≤◌, ℕ, List, [], ◌∷◌, ◌++◌, length, map, get_or, slice_set, replicate, zero-add, refl, sym, ap, ◌∙◌, arith}
use Rattle.std.specs.List.{enumerate_from}
use Rattle.std.proofs.lemmas.Bool.{cases_eq}
use Rattle.std.proofs.lemmas.List.{length-map, length-set, length-replicate, map_push, map-set, get_or-map, get_or-set_same, get_or-set_other, get_or-replicate, replicate_more}
use Rattle.std.proofs.lemmas.List.FromFn.{length-enumerate_from, get_or-enumerate_from}
use Rattle.fkv_closing.specs.Lists.{lists_at, AddsLists, AreByPartition}

-- one partition more without a list
pub none_more : {X A : Type 0} (f : X → List A) (xs : List X) (n : ℕ) (x : X) → map f xs ≡ replicate n [] → f x ≡ []
    → map f (xs ++ x ∷ []) ≡ replicate (n + 1) []
none_more f xs n x was none = map_push f xs x ∙ (rw (was, none) (replicate_more n []))

module _ {A : Type 0} where
  -- the lists of a pass are put to the first partitions
  pub record AreAdded (old now : List (List (List A))) (own : List (List A)) (count : ℕ) : Type 0 where
    pub sized : length now ≡ length old
    pub done : (p : ℕ) → p < count → lists_at now p ≡ lists_at old p ++ get_or own p [] ∷ []
    pub rest : (p : ℕ) → count ≤ p → lists_at now p ≡ lists_at old p

  pub added_none : (all : List (List (List A))) (own : List (List A)) → AreAdded all all own 0
  added_none all own = record { sized = refl; done = λ p lt. absurd (omega (arith, lt)); rest = λ p le. refl }

  pub added_more : (old now : List (List (List A))) (own : List (List A)) (i : ℕ) → i < length now
      → AreAdded old now own i
      → AreAdded old (slice_set now i (lists_at now i ++ get_or own i [] ∷ [])) own (i + 1)
  added_more old now own i lt was = record {
    sized = length-set now i (lists_at now i ++ get_or own i [] ∷ []) ∙ was.sized;
    done = λ p low. elim (cases_eq p i) [
      | inl same ↦ rw same (get_or-set_same now i (lists_at now i ++ get_or own i [] ∷ []) [] lt
          ∙ ap (λ ls. ls ++ get_or own i [] ∷ []) (was.rest i (omega arith)))
      | inr ne ↦ get_or-set_other now i p (lists_at now i ++ get_or own i [] ∷ []) [] ne ∙ was.done p (omega (arith, low, ne))
    ];
    rest = λ p high. get_or-set_other now i p (lists_at now i ++ get_or own i [] ∷ []) [] (λ e. absurd (omega (arith, high, e))) ∙ was.rest p (omega (arith, high));
  }

  pub added_all : (old now : List (List (List A))) (own : List (List A)) (i : ℕ) → length own ≤ i → AreAdded old now own i → AddsLists old now own
  added_all old now own i end was = record { sized = was.sized; each = λ p lt. was.done p (omega (arith, lt, end)) }

  -- before the first pass, and after one more
  pub by_none : (count : ℕ) (all : List (List (List A))) → all ≡ replicate count [] → AreByPartition count all []
  by_none count all is = record {
    sized = ap length is ∙ length-replicate count [];
    each = λ p lt. ap (λ ls. get_or ls p []) is ∙ get_or-replicate count p [] [] lt;
  }

  pub by_more : (count : ℕ) (old new owns : List (List (List A))) (own : List (List A)) → length own ≡ count
      → AreByPartition count old owns
      → AddsLists old new own
      → AreByPartition count new (owns ++ own ∷ [])
  by_more count old new owns own long was adds = record {
    sized = adds.sized ∙ was.sized;
    each = λ p lt. adds.each p (omega (arith, lt, long)) ∙ (ap (λ ls. ls ++ get_or own p [] ∷ []) (was.each p lt) ∙ sym (map_push (λ (o : List (List A)). get_or o p []) owns own));
  }

-- the item of a turn is the one of its place
pub item_at : {X : Type 0} (xs : List X) (n i : ℕ) (x : X) → (n < length (enumerate_from 0 xs)) × ((i, x) ≡ get_or (enumerate_from 0 xs) n (i, x)) → (n < length xs) × (i ≡ n) × (x ≡ get_or xs n x)
item_at xs n i x t =
    let low : n < length xs = omega (arith, t.0, length-enumerate_from 0 xs) in
    let is : (i, x) ≡ (0 + n, get_or xs n x) = t.1 ∙ get_or-enumerate_from 0 xs n (i, x) low in
    (low, ap (λ p. p.0) is ∙ zero-add n, ap (λ p. p.1) is)

-- a list is put behind those of the next partition, as the program has them
pub put_more : {X A : Type 0} (view : X → List (List A)) (old : List (List (List A))) (all : List X) (own : List (List A)) (n i m : ℕ) (was now : X) (list : List A)
    → i < length all
    → was ≡ get_or all i was
    → view now ≡ view was ++ list ∷ []
    → list ≡ get_or own i []
    → i ≡ n
    → m ≡ n + 1
    → AreAdded old (map view all) own n
    → AreAdded old (map view (slice_set all i now)) own m
put_more view old all own n i m was now list lt was_is grown list_is at next added =
    let there : lists_at (map view all) i ≡ view was = get_or-map view all i was [] lt ∙ ap view (sym was_is) in
    let put : view now ≡ lists_at (map view all) i ++ get_or own i [] ∷ [] = grown ∙ rw (there, list_is) refl in
    rw (map-set view all i now, put, next, ← at) (added_more old (map view all) own i (omega (arith, lt, length-map all view)) (rw at added))
