-- Receipts that are held, and receipts that were let go.
use Rattle.std.proofs.Common.{◌≡◌, ◌+◌, ◌-◌, ◌<◌, ◌≤◌, inl, inr, ℕ, zero, suc, List, [], ◌∷◌, ◌++◌, ◌⊎◌, length, drop, replicate, Option, Some, None, map, IsSome, slice_get, length-append, refl, sym, ◌∙◌, ap, arith}
use Rattle.std.specs.Prelude.{unwrap_or, slice_index_or}
use Rattle.std.proofs.lemmas.List.{length-map, length-replicate, map-append, drop-map}
use Rattle.fkv_device.specs.Standing.{Standing}
use Rattle.fkv_functions.proofs.ListLemmas.{get-append_left}
use Rattle.fkv_hybrid.specs.Views.{receipt_at, let_go}
use Rattle.fkv_hybrid.specs.Pages.{receipts_from}

-- ---- the first of them are let go
pub let_go-length : (n : ℕ) (rs : List (Option Standing)) → length (let_go n rs) ≡ length rs
let_go-length zero rs = refl
let_go-length (suc n) [] = refl
let_go-length (suc n) (r ∷ rs) = ap suc (let_go-length n rs)

pub let_go-low : (n k : ℕ) (rs : List (Option Standing)) → k < n → receipt_at (let_go n rs) k ≡ None
let_go-low zero k rs h = absurd (omega arith)
let_go-low (suc n) k [] h = refl
let_go-low (suc n) zero (r ∷ rs) h = refl
let_go-low (suc n) (suc k) (r ∷ rs) h = let_go-low n k rs (omega arith)

pub let_go-high : (n k : ℕ) (rs : List (Option Standing)) → n ≤ k → receipt_at (let_go n rs) k ≡ receipt_at rs k
let_go-high zero k rs h = refl
let_go-high (suc n) k [] h = refl
let_go-high (suc n) zero (r ∷ rs) h = absurd (omega arith)
let_go-high (suc n) (suc k) (r ∷ rs) h = let_go-high n k rs (omega arith)

-- and stay so
pub let_go-same : (n : ℕ) (rs : List (Option Standing)) → ((k : ℕ) → k < n → receipt_at rs k ≡ None) → let_go n rs ≡ rs
let_go-same zero rs h = refl
let_go-same (suc n) [] h = refl
let_go-same (suc n) (r ∷ rs) h =
    let first : r ≡ None = h zero (omega arith) in
    let rest : let_go n rs ≡ rs = let_go-same n rs (λ k low. h (suc k) (omega arith)) in
    λ j. sym first j ∷ rest j

-- ---- a page that has one is flushed
pub receipt-within : (rs : List (Option Standing)) (k : ℕ) → IsSome (receipt_at rs k) → k < length rs
receipt-within [] k h = absurd (cc)
receipt-within (r ∷ rs) zero h = omega arith
receipt-within (r ∷ rs) (suc k) h = let low = receipt-within rs k h in omega arith

-- ---- one more
pub more-left : (rs : List (Option Standing)) (o : Option Standing) (k : ℕ) → k < length rs → receipt_at (rs ++ o ∷ []) k ≡ receipt_at rs k
more-left rs o k h = ap (λ (x : Option (Option Standing)). unwrap_or x None) (get-append_left rs (o ∷ []) k h)

pub more-last : (rs : List (Option Standing)) (o : Option Standing) → receipt_at (rs ++ o ∷ []) (length rs) ≡ o
more-last [] o = refl
more-last (r ∷ rs) o = more-last rs o

pub more-cases : (rs : List (Option Standing)) (s r : Standing) (k : ℕ) → receipt_at (rs ++ Some s ∷ []) k ≡ Some r
    → (receipt_at rs k ≡ Some r) ⊎ ((k ≡ length rs) × (s ≡ r))
more-cases [] s r zero h = let e : s ≡ r = cc in inr (refl, e)
more-cases [] s r (suc k) h = inl h
more-cases (x ∷ rs) s r zero h = inl h
more-cases (x ∷ rs) s r (suc k) h = elim (more-cases rs s r k h) [ inl a ↦ inl a | inr b ↦ inr (ap suc b.0, b.1) ]

-- ---- those that are held, behind those that are not
pub from-length : (n : ℕ) (xs : List Standing) → length (receipts_from n xs) ≡ n + length xs
from-length n xs =
    let none : Option Standing = None in
    let gone : length (replicate n none) ≡ n = length-replicate n none in
    let kept : length (map Some xs) ≡ length xs = length-map xs Some in
    length-append (replicate n none) (map Some xs) ∙ (omega arith)

kept-get : (xs : List Standing) (k : ℕ) → receipt_at (map Some xs) k ≡ slice_get xs k
kept-get [] k = refl
kept-get (x ∷ xs) zero = refl
kept-get (x ∷ xs) (suc k) = kept-get xs k

pub from-high : (n k : ℕ) (xs : List Standing) → n ≤ k → receipt_at (receipts_from n xs) k ≡ slice_get xs (k - n)
from-high zero k xs h = let e : k ≡ k - 0 = omega arith in kept-get xs k ∙ ap (λ (i : ℕ). slice_get xs i) e
from-high (suc n) zero xs h = absurd (omega arith)
from-high (suc n) (suc k) xs h = let e : k - n ≡ suc k - suc n = omega arith in from-high n k xs (omega arith) ∙ ap (λ (i : ℕ). slice_get xs i) e

-- one that is held is of a page behind those that were let go
pub from-held : (n k : ℕ) (xs : List Standing) → IsSome (receipt_at (receipts_from n xs) k) → (n ≤ k) × (k - n < length xs)
from-held zero k xs h =
    let low = receipt-within (map Some xs) k h in
    let kept : length (map Some xs) ≡ length xs = length-map xs Some in
    (omega arith, omega arith)
from-held (suc n) zero xs h = absurd (cc)
from-held (suc n) (suc k) xs h = let rest = from-held n k xs h in let low = rest.0 in let high = rest.1 in (omega arith, omega arith)

pub from-more : (n : ℕ) (xs : List Standing) (x : Standing) → receipts_from n (xs ++ x ∷ []) ≡ receipts_from n xs ++ Some x ∷ []
from-more zero xs x = map-append Some xs (x ∷ [])
from-more (suc n) xs x = ap (λ (l : List (Option Standing)). None ∷ l) (from-more n xs x)

all-let_go : (n : ℕ) (xs : List Standing) → n ≤ length xs → receipts_from n (drop n xs) ≡ let_go n (map Some xs)
all-let_go zero xs h = refl
all-let_go (suc n) [] h = absurd (omega arith)
all-let_go (suc n) (x ∷ xs) h = ap (λ (l : List (Option Standing)). None ∷ l) (all-let_go n xs (omega arith))

-- the first of those that are held are let go
pub from-let_go : (m n : ℕ) (xs : List Standing) → m ≤ n → n ≤ m + length xs → receipts_from n (drop (n - m) xs) ≡ let_go n (receipts_from m xs)
from-let_go zero n xs low high =
    let e : n - 0 ≡ n = omega arith in
    ap (λ (i : ℕ). receipts_from n (drop i xs)) e ∙ all-let_go n xs (omega arith)
from-let_go (suc m) zero xs low high = absurd (omega arith)
from-let_go (suc m) (suc n) xs low high =
    let e : suc n - suc m ≡ n - m = omega arith in
    ap (λ (i : ℕ). None ∷ receipts_from n (drop i xs)) e ∙ ap (λ (l : List (Option Standing)). None ∷ l) (from-let_go m n xs (omega arith) (omega arith))

-- one that is read where it is held
item-is : {R S : Type 0} (f : R → S) (xs : List R) (i : ℕ) (r : R) → i < length xs → r ≡ slice_index_or xs i r → slice_get (map f xs) i ≡ Some (f r)
item-is f [] i r h e = absurd (omega arith)
item-is f (x ∷ xs) zero r h e = let is : r ≡ x = e in ap (λ y. Some (f y)) (sym is)
item-is f (x ∷ xs) (suc i) r h e = item-is f xs i r (omega arith) e

pub kept-is : {R : Type 0} (stands : R → Standing) (n k : ℕ) (xs : List R) (r : R) → IsSome (receipt_at (receipts_from n (map stands xs)) k)
    → r ≡ slice_index_or xs (k - n) r → receipt_at (receipts_from n (map stands xs)) k ≡ Some (stands r)
kept-is stands n k xs r h e =
    let within = from-held n k (map stands xs) h in
    let count : length (map stands xs) ≡ length xs = length-map xs stands in
    let high = within.1 in
    from-high n k (map stands xs) within.0 ∙ item-is stands xs (k - n) r (omega arith) e

-- the first of those in hand are let go
pub held-let_go : {R : Type 0} (stands : R → Standing) (m n more : ℕ) (xs ys : List R) → m ≤ n → n ≤ m + length xs → more ≡ n - m → ys ≡ drop more xs
    → receipts_from n (map stands ys) ≡ let_go n (receipts_from m (map stands xs))
held-let_go stands m n more xs ys low high count rest =
    let kept : length (map stands xs) ≡ length xs = length-map xs stands in
    ap (λ (l : List _). receipts_from n (map stands l)) (rest ∙ ap (λ (i : ℕ). drop i xs) count)
    ∙ ap (receipts_from n) (sym (drop-map stands (n - m) xs))
    ∙ from-let_go m n (map stands xs) low (omega arith)
