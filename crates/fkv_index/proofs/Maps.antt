-- A map of a list in place, and of the lists that blocks hold.
use Rattle.std.proofs.Common.{◌≡◌, ◌+◌, ◌<◌, ◌≤◌, ◌++◌, ℕ, List, length, get_or, set, map, take, drop, sym, ap, ◌∙◌, arith, length-append, length-take, length-drop}
use Rattle.std.proofs.lemmas.List.{take_all, drop_all, append-nil, get_or-map, map-set, length-map, with_items_is}
use Rattle.std.proofs.lemmas.List.Edits.{map_over_more}
use Rattle.std.specs.Vec.{with_items}
use Rattle.std.specs.declared.alloc.Global.{Global}
use Rattle.std.specs.declared.vec.Vec.{Vec}

-- one element more is mapped
pub map_step : {X : Type 0} (f : X → X) (xs ys : List X) (i : ℕ) (x y : X) → i < length xs → ys ≡ map f (take i xs) ++ drop i xs → x ≡ get_or ys i x → y ≡ f x
    → set ys i y ≡ map f (take (i + 1) xs) ++ drop (i + 1) xs
map_step f xs ys i x y within so_far read new = rw new (map_over_more f xs ys i x within so_far read)

-- all are
pub map_done : {X : Type 0} (f : X → X) (xs ys : List X) (i : ℕ) → length xs ≤ i → ys ≡ map f (take i xs) ++ drop i xs → ys ≡ map f xs
map_done f xs ys i past so_far = so_far ∙ rw (take_all i xs past, drop_all i xs past) (append-nil (map f xs))

-- the same for what the elements of a list hold
module _ {X : Type 0} where
  pub held_step : (f : List X → List X) (xs : List (List X)) (vs : List (Vec X Global)) (i : ℕ) (v : Vec X Global) (ws : List X) → i < length xs
      → map (λ v. v.items) vs ≡ map f (take i xs) ++ drop i xs → v ≡ get_or vs i v → ws ≡ f v.items → length ws ≡ v.len
      → map (λ v. v.items) (set vs i (with_items v ws)) ≡ map f (take (i + 1) xs) ++ drop (i + 1) xs
  held_step f xs vs i v ws within so_far read new size =
      let place : i < length vs =
      omega (arith, length-map vs (λ (b : Vec X Global). b.items), ap length so_far, length-append (map f (take i xs)) (drop i xs), length-map (take i xs) f, length-take i xs, length-drop i xs) in
      let item : v.items ≡ get_or (map (λ (b : Vec X Global). b.items) vs) i v.items = ap (λ (b : Vec X Global). b.items) read ∙ sym (get_or-map (λ (b : Vec X Global). b.items) vs i v v.items place) in
      map-set (λ (b : Vec X Global). b.items) vs i (with_items v ws)
      ∙ map_step f xs (map (λ (b : Vec X Global). b.items) vs) i v.items (with_items v ws).items within so_far item (with_items_is v ws size ∙ new)
