-- Lists: by their places, by a filter at the front of which everything passes, and lists of one.
use Rattle.std.proofs.Common.{◌≡◌, ◌≢◌, ◌<◌, ◌⊎◌, inl, inr, ℕ, zero, suc, Bool, true, false, not, List, [], ◌∷◌, ◌++◌, Some}
use Rattle.std.proofs.Common.{length, take, drop, get_or, slice_get, slice_set, refl, ap, arith, one-add}
use Rattle.std.proofs.lemmas.List.{take-append-drop}
use Rattle.std.proofs.lemmas.List.Elements.{All-head, All-tail}
use Rattle.std.specs.List.{filter, prefix_len, All, AllPairs, Contains}

-- ---- by places
pub get-append_left : {A : Type 0} (xs ys : List A) (i : ℕ) → i < length xs → slice_get (xs ++ ys) i ≡ slice_get xs i
get-append_left [] ys i h = absurd (omega arith)
get-append_left (x ∷ xs) ys zero h = refl
get-append_left (x ∷ xs) ys (suc i) h = get-append_left xs ys i (omega arith)

pub get-append_last : {A : Type 0} (xs : List A) (y : A) → slice_get (xs ++ y ∷ []) (length xs) ≡ Some y
get-append_last [] y = refl
get-append_last (x ∷ xs) y = get-append_last xs y

pub get-append_cases : {A : Type 0} (xs : List A) (y : A) (i : ℕ) (w : A) → slice_get (xs ++ y ∷ []) i ≡ Some w → (slice_get xs i ≡ Some w) ⊎ ((i ≡ length xs) × (y ≡ w))
get-append_cases [] y zero w h = let e : y ≡ w = cc in inr (refl, e)
get-append_cases [] y (suc i) w h = inl h
get-append_cases (x ∷ xs) y zero w h = inl h
get-append_cases (x ∷ xs) y (suc i) w h = elim (get-append_cases xs y i w h) [ inl a ↦ inl a | inr b ↦ inr (ap suc b.0, b.1) ]

pub get-set_cases : {A : Type 0} (xs : List A) (c d : ℕ) (v w : A) → slice_get (slice_set xs c v) d ≡ Some w → ((d ≡ c) × (v ≡ w)) ⊎ (slice_get xs d ≡ Some w)
get-set_cases [] c d v w h = inr h
get-set_cases (x ∷ xs) zero zero v w h = let e : v ≡ w = cc in inl (refl, e)
get-set_cases (x ∷ xs) zero (suc d) v w h = inr h
get-set_cases (x ∷ xs) (suc c) zero v w h = inr h
get-set_cases (x ∷ xs) (suc c) (suc d) v w h = elim (get-set_cases xs c d v w h) [ inl a ↦ inl (ap suc a.0, a.1) | inr b ↦ inr b ]

pub get-set_same : {A : Type 0} (xs : List A) (c : ℕ) (x v : A) → slice_get xs c ≡ Some x → slice_get (slice_set xs c v) c ≡ Some v
get-set_same [] c x v h = absurd (cc)
get-set_same (y ∷ ys) zero x v h = refl
get-set_same (y ∷ ys) (suc c) x v h = get-set_same ys c x v h

pub get-set_within : {A : Type 0} (xs : List A) (c : ℕ) (v : A) → c < length xs → slice_get (slice_set xs c v) c ≡ Some v
get-set_within [] c v h = absurd (omega arith)
get-set_within (y ∷ ys) zero v h = refl
get-set_within (y ∷ ys) (suc c) v h = get-set_within ys c v (omega arith)

pub get-set_other : {A : Type 0} (xs : List A) (c d : ℕ) (v : A) → d ≢ c → slice_get (slice_set xs c v) d ≡ slice_get xs d
get-set_other [] c d v h = refl
get-set_other (x ∷ xs) zero zero v h = absurd (h refl)
get-set_other (x ∷ xs) zero (suc d) v h = refl
get-set_other (x ∷ xs) (suc c) zero v h = refl
get-set_other (x ∷ xs) (suc c) (suc d) v h = get-set_other xs c d v (λ e. h (ap suc e))

-- ---- a filter at the front of which everything passes
pub not-true : (b : Bool) → (b ≡ true → ⊥) → b ≡ false
not-true true h = absurd (h refl)
not-true false h = refl

-- a filter that all pass, and one that none does
pub filter-all : {X : Type 0} (p : X → Bool) (xs : List X) → All (λ x. p x ≡ true) xs → filter p xs ≡ xs
filter-all p [] h = refl
filter-all p (x ∷ xs) h = let e = All-head (λ y. p y ≡ true) x xs h in rw e (ap (λ ys. x ∷ ys) (filter-all p xs (All-tail (λ y. p y ≡ true) x xs h)))

pub filter-none : {X : Type 0} (p : X → Bool) (xs : List X) → All (λ x. p x ≡ false) xs → filter p xs ≡ []
filter-none p [] h = refl
filter-none p (x ∷ xs) h = let e = All-head (λ y. p y ≡ false) x xs h in rw e (filter-none p xs (All-tail (λ y. p y ≡ false) x xs h))

-- the first of a list and each later one, and the others among themselves
pub pairs-head : {X : Type 0} (R : X → X → Type 0) (x : X) (xs : List X) → AllPairs R (x ∷ xs) → All (R x) xs
pairs-head R x xs h = λ k d l. h 0 (suc k) d (omega arith) (omega arith)

pub pairs-tail : {X : Type 0} (R : X → X → Type 0) (x : X) (xs : List X) → AllPairs R (x ∷ xs) → AllPairs R xs
pairs-tail R x xs h = λ i j d l m. h (suc i) (suc j) d (omega arith) (omega arith)

-- whatever stands before one that passes does too
abbrev pub PassesFirst : {X : Type 0} → (X → Bool) → List X → Type 0
PassesFirst p xs = AllPairs (λ x y. p y ≡ true → p x ≡ true) xs

none-after : {X : Type 0} (p : X → Bool) (x : X) (xs : List X) → PassesFirst p (x ∷ xs) → p x ≡ false → All (λ y. p y ≡ false) xs
none-after p x xs h e = λ k d l. not-true (p (get_or xs k d)) (λ q. let t = pairs-head (λ x y. p y ≡ true → p x ≡ true) x xs h k d l q in (cc))

-- so what passes is a front part, and the rest is what follows
front-step : {X : Type 0} (p : X → Bool) (x : X) (xs : List X) (b : Bool) → p x ≡ b → PassesFirst p (x ∷ xs) → filter p xs ≡ take (prefix_len p xs) xs
    → filter p (x ∷ xs) ≡ take (prefix_len p (x ∷ xs)) (x ∷ xs)
front-step p x xs true e h ih = rw (e, one-add, ih) refl
front-step p x xs false e h ih = rw e (filter-none p xs (none-after p x xs h e))

pub filter-front : {X : Type 0} (p : X → Bool) (xs : List X) → PassesFirst p xs → filter p xs ≡ take (prefix_len p xs) xs
filter-front p [] h = refl
filter-front p (x ∷ xs) h = front-step p x xs (p x) refl h (filter-front p xs (pairs-tail (λ y z. p z ≡ true → p y ≡ true) x xs h))

behind-step : {X : Type 0} (p : X → Bool) (x : X) (xs : List X) (b : Bool) → p x ≡ b → PassesFirst p (x ∷ xs) → filter (λ y. not (p y)) xs ≡ drop (prefix_len p xs) xs
    → filter (λ y. not (p y)) (x ∷ xs) ≡ drop (prefix_len p (x ∷ xs)) (x ∷ xs)
behind-step p x xs true e h ih = rw (e, one-add, ih) refl
behind-step p x xs false e h ih =
    rw e (ap (λ ys. x ∷ ys) (filter-all (λ y. not (p y)) xs (λ k d l. ap not (none-after p x xs h e k d l))))

pub filter-behind : {X : Type 0} (p : X → Bool) (xs : List X) → PassesFirst p xs → filter (λ y. not (p y)) xs ≡ drop (prefix_len p xs) xs
filter-behind p [] h = refl
filter-behind p (x ∷ xs) h = behind-step p x xs (p x) refl h (filter-behind p xs (pairs-tail (λ y z. p z ≡ true → p y ≡ true) x xs h))

-- what passes, and then what does not, is the whole list
pub filter-split : {X : Type 0} (p : X → Bool) (xs : List X) → PassesFirst p xs → filter p xs ++ filter (λ y. not (p y)) xs ≡ xs
filter-split p xs h = rw (filter-front p xs h, filter-behind p xs h) (take-append-drop (prefix_len p xs) xs)

-- nothing is in an empty list
pub none-inside : {X : Type 0} (x : X) → Contains [] x → ⊥
none-inside x h = omega (arith, h.1)

-- the one in a list of one
pub one-inside : {X : Type 0} (x y : X) → Contains (x ∷ []) y → x ≡ y
one-inside x y h = at h.0 h.1 h.2
  where
    at : (k : ℕ) → k < length (x ∷ []) → get_or (x ∷ []) k y ≡ y → x ≡ y
    at zero l e = e
    at (suc k) l e = absurd (omega arith)
