-- Lists of pairs as one, by their keys.
use Rattle.std.specs.Prelude.{◌≡◌, ⊤, ℕ, suc, List, [], ◌∷◌, Option, Some, None, cond}
use Rattle.std.specs.Ordering.{is_gt}
use Rattle.std.specs.List.{AllByRecursion}
use Rattle.std.specs.Map.{keys_of}
use Rattle.std.specs.declared.cmp.Ordering.{Ordering}

module _ {K : Type 0} (cmp : K → K → Ordering) where
  -- the place of the list that gives the next pair, and its key
  abbrev pub behind : Option (ℕ × K) → Option (ℕ × K)
  behind None = None
  behind (Some p) = Some (suc p.0, p.1)

  -- the first key y before what the lists behind it give: it comes first unless it is greater
  abbrev pub sooner : K → Option (ℕ × K) → Option (ℕ × K)
  sooner y None = Some (0, y)
  sooner y (Some p) = cond (is_gt (cmp y p.1)) (Some (suc p.0, p.1)) (Some (0, y))

  -- the place of the list whose first key is the least, of equal ones the first, and that key
  abbrev pub first_of : List (Option K) → Option (ℕ × K)
  first_of [] = None
  first_of (None ∷ ks) = behind (first_of ks)
  first_of (Some y ∷ ks) = sooner y (first_of ks)

module _ {K : Type 0} (cmp : K → K → Ordering) where
  -- of a first key at a place, if there is one, and what the lists behind it give, the one that comes first
  abbrev pub chosen : ℕ → Option K → Option (ℕ × K) → Option (ℕ × K)
  chosen place None other = other
  chosen place (Some y) None = Some (place, y)
  chosen place (Some y) (Some p) = cond (is_gt (cmp y p.1)) (Some p) (Some (place, y))

  -- the same as `first_of`, with places counted from one
  abbrev pub first_from : ℕ → List (Option K) → Option (ℕ × K)
  first_from place [] = None
  first_from place (o ∷ ks) = chosen place o (first_from (suc place) ks)

module _ {K V : Type 0} (cmp : K → K → Ordering) where
  -- x and then xs, which `on` merges, with the last list: what comes after x waits for it
  abbrev pub merged_from : K × V → List (K × V) → (List (K × V) → List (K × V)) → List (K × V) → List (K × V)
  merged_from x xs on [] = x ∷ xs
  merged_from x xs on (y ∷ ys) = cond (is_gt (cmp x.0 y.0)) (y ∷ merged_from x xs on ys) (x ∷ on (y ∷ ys))

  -- two lists as one: of both first pairs the one with the lesser key comes first, of equal keys that of the first list
  abbrev pub merged_two : List (K × V) → List (K × V) → List (K × V)
  merged_two [] ys = ys
  merged_two (x ∷ xs) ys = merged_from x xs (merged_two xs) ys

  -- all lists as one
  abbrev pub merged : List (List (K × V)) → List (K × V)
  merged [] = []
  merged (xs ∷ xss) = merged_two xs (merged xss)

-- the key of the first pair
abbrev pub first_key : {K V : Type 0} → List (K × V) → Option K
first_key [] = None
first_key (x ∷ xs) = Some x.0

-- the first pair, if there is one
abbrev pub first_pair : {A : Type 0} → List A → Option A
first_pair [] = None
first_pair (x ∷ xs) = Some x

-- the keys of each list have its place for a home, counted from n
abbrev pub AreHomed : {K V : Type 0} → (K → ℕ) → ℕ → List (List (K × V)) → Type 0
AreHomed home n [] = ⊤
AreHomed home n (xs ∷ xss) = AllByRecursion (λ q. home q ≡ n) (keys_of xs) × AreHomed home (suc n) xss
