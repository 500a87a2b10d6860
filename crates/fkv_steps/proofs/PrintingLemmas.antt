-- Texts that grow by a line in each turn.
use Rattle.std.proofs.Common.{◌≡◌, ℕ, List, [], ◌∷◌, ◌++◌, ◌+◌, ◌<◌, ◌≤◌, length, take, get_or, sym, ◌∙◌, ap, add-one, append_assoc}
use Rattle.std.proofs.Math.Seq.{take-suc}
use Rattle.std.proofs.lemmas.Grind.{flat_map-append}
use Rattle.std.proofs.lemmas.List.{take_all, append-nil}
use Rattle.std.specs.List.{flat_map}

pub next-piece : {X A : Type 0} (f : X → List A) (xs : List X) (n : ℕ) (x : X) (old mid new : List A) → n < length xs → x ≡ get_or xs n x → mid ≡ old ++ flat_map f (take n xs) → new ≡ mid ++ f x → new ≡ old ++ flat_map f (take (n + 1) xs)
next-piece f xs n x old mid new l here so_far more =
    let grown : take (n + 1) xs ≡ take n xs ++ (x ∷ []) = rw add-one (take-suc xs n x l ∙ ap (λ y. take n xs ++ (y ∷ [])) (sym here)) in
    let both : flat_map f (take (n + 1) xs) ≡ flat_map f (take n xs) ++ f x = rw grown (flat_map-append f (take n xs) (x ∷ []) ∙ ap (λ ys. flat_map f (take n xs) ++ ys) (append-nil (f x))) in
    rw (more, so_far, both) (append_assoc old (flat_map f (take n xs)) (f x))

pub first-piece : {X A : Type 0} (f : X → List A) (xs : List X) (n : ℕ) (x : X) (mid new : List A) → n < length xs → x ≡ get_or xs n x → mid ≡ flat_map f (take n xs) → new ≡ mid ++ f x → new ≡ flat_map f (take (n + 1) xs)
first-piece f xs n x mid new l here so_far more = next-piece f xs n x [] mid new l here so_far more

pub all-pieces : {X A : Type 0} (f : X → List A) (xs : List X) (n : ℕ) (text : List A) → length xs ≤ n → text ≡ flat_map f (take n xs) → text ≡ flat_map f xs
all-pieces f xs n text l so_far = so_far ∙ ap (flat_map f) (take_all n xs l)

pub after-front : {X A : Type 0} (f : X → List A) (xs : List X) (n : ℕ) (old front begun text : List A) → length xs ≤ n → begun ≡ old ++ front → text ≡ begun ++ flat_map f (take n xs) → text ≡ old ++ (front ++ flat_map f xs)
after-front f xs n old front begun text l b so_far = rw (so_far, b, take_all n xs l) (append_assoc old front (flat_map f xs))

-- the whole of two parts
pub both-parts : {A : Type 0} (one two mid new : List A) → mid ≡ one → new ≡ mid ++ two → new ≡ one ++ two
both-parts one two mid new e f = f ∙ ap (λ xs. xs ++ two) e
