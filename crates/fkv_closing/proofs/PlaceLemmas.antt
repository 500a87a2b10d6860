-- What holds of each item of a list that is read on.
use Rattle.std.proofs.Common.{◌≡◌, inl, inr, ◌+◌, ◌<◌, ◌≤◌, ℕ, List, length, map, get_or, slice_get, slice_set, Some, sym, ap, ◌∙◌, arith}
use Rattle.std.proofs.lemmas.Bool.{cases_eq}
use Rattle.std.proofs.lemmas.List.{length-map, get_or-map, map-set, set-get_or}
use Rattle.std.proofs.lemmas.Option.{slice_get-map, slice_get-get_or, slice_get_within}

module _ {X Y : Type 0} (f : X → Y) (xs : List X) (i : ℕ) (x : X) (lt : i < length xs) (x_is : x ≡ get_or xs i x) where
  pub here : slice_get (map f xs) i ≡ Some (f x)
  here = slice_get-map f xs i ∙ rw (slice_get-get_or xs i x lt) (ap (λ y. Some (f y)) (sym x_is))

  pub each_more : (P : ℕ → Y → Type 0)
      → ((p : ℕ) (y : Y) → p < i → slice_get (map f xs) p ≡ Some y → P p y)
      → P i (f x)
      → (p : ℕ) (y : Y) → p < i + 1 → slice_get (map f xs) p ≡ Some y → P p y
  each_more P all this p y lt at = elim (cases_eq p i) [
    | inl same ↦
        let e : Some (f x) ≡ Some y = sym here ∙ (ap (slice_get (map f xs)) (sym same) ∙ at) in
        let is : f x ≡ y = cc in
        rw (same, ← is) this
    | inr ne ↦ all p y (omega arith) at
  ]

-- at the end it holds of each
pub each_all : {X Y : Type 0} (f : X → Y) (xs : List X) (i : ℕ) (P : ℕ → Y → Type 0) → length xs ≤ i
    → ((p : ℕ) (y : Y) → p < i → slice_get (map f xs) p ≡ Some y → P p y)
    → (p : ℕ) (y : Y) → slice_get (map f xs) p ≡ Some y → P p y
each_all f xs i P end all p y at =
    let lt = slice_get_within (map f xs) p y at in
    all p y (omega (arith, lt, length-map xs f, end)) at

-- an item that is written
module _ {X Y : Type 0} (f : X → Y) (xs : List X) (i : ℕ) (x y : X) (lt : i < length xs) where
  pub at_place : (d : Y) → get_or (map f xs) i d ≡ f (get_or xs i x)
  at_place d = get_or-map f xs i x d lt

  pub written_same : f y ≡ f (get_or xs i x) → map f (slice_set xs i y) ≡ map f xs
  written_same same =
      map-set f xs i y ∙ (ap (slice_set (map f xs) i) (same ∙ sym (at_place (f x))) ∙ set-get_or (map f xs) i (f x))
