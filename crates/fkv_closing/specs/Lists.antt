-- The own lists of passes, by partitions.
use Rattle.std.specs.Prelude.{◌≡◌, ◌<◌, ◌++◌, ℕ, List, [], ◌∷◌, length, map, slice_index_or}

module _ {A : Type 0} where
  -- of each pass its own list of a partition, in order of passes
  abbrev pub lists_of : List (List (List A)) → ℕ → List (List A)
  lists_of owns p = map (λ own. slice_index_or own p []) owns

  -- the lists of a partition, by partitions
  abbrev pub lists_at : List (List (List A)) → ℕ → List (List A)
  lists_at all p = slice_index_or all p []

  -- each list of a pass is put behind the other lists of its partition
  pub record AddsLists (old new : List (List (List A))) (own : List (List A)) : Type 0 where
    pub sized : length new ≡ length old
    pub each : (p : ℕ) → p < length own → lists_at new p ≡ lists_at old p ++ slice_index_or own p [] ∷ []

  -- the lists of so many partitions: of each the own lists that the passes have of it
  pub record AreByPartition (count : ℕ) (all owns : List (List (List A))) : Type 0 where
    pub sized : length all ≡ count
    pub each : (p : ℕ) → p < count → lists_at all p ≡ lists_of owns p
