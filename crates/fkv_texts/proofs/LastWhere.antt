-- Lemmas on the last element that passes a test.
use Rattle.std.proofs.Common.{◌≡◌, Bool, true, false, cond, ◌&&◌, ℕ, zero, suc, ◌⊎◌, inl, inr, List, [], ◌∷◌, ◌++◌, map, filter, Option, Some, None, option_map, slice_get, refl, sym, ◌∙◌, ap}
use Rattle.std.specs.Option.{option_or}
use Rattle.fkv_texts.specs.Text.{last_where}
use Rattle.fkv_texts.specs.Chains.{IsIn}

pub option_or-cond : {A : Type 0} (b : Bool) (v : A) (l y : Option A) → option_or (cond b (Some v) l) y ≡ cond b (Some v) (option_or l y)
option_or-cond true v l y = refl
option_or-cond false v l y = refl

pub last_where-append : {A : Type 0} (p : A → Bool) (xs : List A) (y : A) → last_where p (xs ++ y ∷ []) ≡ cond (p y) (Some y) (last_where p xs)
last_where-append p [] y = refl
last_where-append p (x ∷ xs) y =
    ap (λ l. option_or l (cond (p x) (Some x) None)) (last_where-append p xs y)
    ∙ option_or-cond (p y) y (last_where p xs) (cond (p x) (Some x) None)

map-option_or : {A : Type 0} (g : A → A) (l : Option A) (b c : Bool) (x : A) → c ≡ b → option_or (option_map g l) (cond c (Some (g x)) None) ≡ option_map g (option_or l (cond b (Some x) None))
map-option_or g (Some y) b c x e = refl
map-option_or g None true c x e = rw e refl
map-option_or g None false c x e = rw e refl

pub last_where-map : {A : Type 0} (p : A → Bool) (g : A → A) → ((x : A) → p (g x) ≡ p x) → (xs : List A) → last_where p (map g xs) ≡ option_map g (last_where p xs)
last_where-map p g h [] = refl
last_where-map p g h (x ∷ xs) =
    ap (λ l. option_or l (cond (p (g x)) (Some (g x)) None)) (last_where-map p g h xs)
    ∙ map-option_or g (last_where p xs) (p x) (p (g x)) x (h x)

pub last_where-same : {A : Type 0} (p q : A → Bool) (xs : List A) → ((i : ℕ) (x : A) → slice_get xs i ≡ Some x → p x ≡ q x) → last_where p xs ≡ last_where q xs
last_where-same p q [] h = refl
last_where-same p q (x ∷ xs) h =
    ap (λ l. option_or l (cond (p x) (Some x) None)) (last_where-same p q xs (λ i. h (suc i)))
    ∙ ap (λ b. option_or (last_where q xs) (cond b (Some x) None)) (h zero x refl)

filter-step : {A : Type 0} (p : A → Bool) (b : Bool) (x : A) (xs : List A) (l : Option A) → last_where p xs ≡ l → last_where p (cond b (x ∷ xs) xs) ≡ option_or l (cond (b && p x) (Some x) None)
filter-step p true x xs l e = rw e refl
filter-step p false x xs None e = e
filter-step p false x xs (Some y) e = e

pub last_where-filter : {A : Type 0} (p g : A → Bool) (xs : List A) → last_where p (filter g xs) ≡ last_where (λ x. g x && p x) xs
last_where-filter p g [] = refl
last_where-filter p g (x ∷ xs) = filter-step p (g x) x (filter g xs) (last_where (λ y. g y && p y) xs) (last_where-filter p g xs)

-- ---- what was found
found-step : {A : Type 0} (p : A → Bool) (b : Bool) (l : Option A) (x y : A) → option_or l (cond b (Some x) None) ≡ Some y → (l ≡ Some y) ⊎ ((b ≡ true) × (x ≡ y))
found-step p b (Some z) x y h = inl h
found-step p true None x y h = let e : x ≡ y = cc in inr (refl, e)
found-step p false None x y h = absurd (cc)

pub last_where-found : {A : Type 0} (p : A → Bool) (xs : List A) (y : A) → last_where p xs ≡ Some y → p y ≡ true
last_where-found p [] y h = absurd (cc)
last_where-found p (x ∷ xs) y h = elim (found-step p (p x) (last_where p xs) x y h) [ inl k ↦ last_where-found p xs y k | inr k ↦ sym (ap p k.1) ∙ k.0 ]

pub last_where-in : {A : Type 0} (p : A → Bool) (xs : List A) (y : A) → last_where p xs ≡ Some y → IsIn xs y
last_where-in p [] y h = absurd (cc)
last_where-in p (x ∷ xs) y h = elim (found-step p (p x) (last_where p xs) x y h) [
  | inl k ↦ (let i = last_where-in p xs y k in record { place = suc i.place; here = i.here })
  | inr k ↦ record { place = zero; here = ap Some k.1 }
]

none-step : {A : Type 0} (b : Bool) (l : Option A) (x : A) → option_or l (cond b (Some x) None) ≡ None → (l ≡ None) × (b ≡ false)
none-step b (Some z) x h = absurd (cc)
none-step true None x h = absurd (cc)
none-step false None x h = (refl, refl)

-- where nothing was found, nothing passes
pub none-passes : {A : Type 0} (p : A → Bool) (xs : List A) → last_where p xs ≡ None → (i : ℕ) (x : A) → slice_get xs i ≡ Some x → p x ≡ false
none-passes p [] h i x e = absurd (cc)
none-passes p (y ∷ ys) h zero x e = let same : y ≡ x = cc in sym (ap p same) ∙ (none-step (p y) (last_where p ys) y h).1
none-passes p (y ∷ ys) h (suc i) x e = none-passes p ys (none-step (p y) (last_where p ys) y h).0 i x e

-- and where nothing passes, nothing is found
pub last_where-none : {A : Type 0} (p : A → Bool) (xs : List A) → ((i : ℕ) (x : A) → slice_get xs i ≡ Some x → p x ≡ false) → last_where p xs ≡ None
last_where-none p [] h = refl
last_where-none p (x ∷ xs) h = rw (last_where-none p xs (λ i. h (suc i)), h zero x refl) refl

-- a narrower test that the last one passes finds it too
narrow-step : {A : Type 0} (p q : A → Bool) (xs : List A) (x y : A) → (last_where p xs ≡ Some y → last_where (λ z. q z && p z) xs ≡ Some y) → (last_where p xs ≡ None → last_where (λ z. q z && p z) xs ≡ None) → q y ≡ true → (l : Option A) → last_where p xs ≡ l → option_or l (cond (p x) (Some x) None) ≡ Some y → option_or (last_where (λ z. q z && p z) xs) (cond (q x && p x) (Some x) None) ≡ Some y
narrow-step p q xs x y same none qy (Some z) e h = rw (same (e ∙ h)) refl
narrow-step p q xs x y same none qy None e h =
    elim (found-step p (p x) None x y h) [
      | inl k ↦ absurd (cc)
      | inr k ↦ (let qx : q x ≡ true = ap q k.1 ∙ qy in rw (none e, qx, k.0) (ap Some k.1))
    ]

pub last_where-narrow_none : {A : Type 0} (p q : A → Bool) (xs : List A) → last_where p xs ≡ None → last_where (λ z. q z && p z) xs ≡ None
last_where-narrow_none p q xs h = last_where-none (λ z. q z && p z) xs (λ i x e. both-false (q x) (p x) (none-passes p xs h i x e))
  where
    both-false : (a b : Bool) → b ≡ false → (a && b) ≡ false
    both-false true b h = h
    both-false false b h = refl

pub last_where-narrow : {A : Type 0} (p q : A → Bool) (xs : List A) (y : A) → last_where p xs ≡ Some y → q y ≡ true → last_where (λ z. q z && p z) xs ≡ Some y
last_where-narrow p q [] y h qy = absurd (cc)
last_where-narrow p q (x ∷ xs) y h qy = narrow-step p q xs x y (λ k. last_where-narrow p q xs y k qy) (last_where-narrow_none p q xs) qy (last_where p xs) refl h
