-- Lists with an item for each partition.
use Rattle.std.proofs.Common.{◌≡◌, ℕ, ◌+◌, ◌<◌, List, [], ◌∷◌, ◌++◌, length, map, get_or, set, refl, sym, ap, ◌∙◌, arith}
use Rattle.std.proofs.lemmas.List.{map-set, get_or-map}

-- where the item at i grows by one entry, so does its list
pub map_set_add : {X Y : Type 0} (f : X → List Y) (xs : List X) (i : ℕ) (y d : X) (e : Y) → i < length xs
    → d ≡ get_or xs i d
    → f y ≡ f d ++ e ∷ []
    → map f (set xs i y) ≡ set (map f xs) i (get_or (map f xs) i [] ++ e ∷ [])
map_set_add f xs i y d e lt d_is y_is =
    map-set f xs i y
    ∙ ap (λ l. set (map f xs) i l) (y_is ∙ ap (λ l. l ++ e ∷ []) (ap f d_is ∙ sym (get_or-map f xs i d [] lt)))
