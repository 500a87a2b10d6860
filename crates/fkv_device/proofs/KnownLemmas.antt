-- Pages that are told by their digests.
use Rattle.std.proofs.Common.{◌≡◌, ◌≢◌, ◌⊎◌, ℕ, Bool, true, false, not, ◌||◌, List, [], ◌∷◌, ◌++◌, Option, None, Some, Contains, bytes_eq, find, unwrap_or, refl, sym, ◌∙◌, ap, inl, inr}
use Rattle.std.proofs.lemmas.Bool.{cases_Bool, false≢true}
use Rattle.std.proofs.lemmas.Bool.Decides.{Decides-or, Decides-not, Decides-by_and, not_from_Decides}
use Rattle.std.proofs.lemmas.Slice.Eq.{bytes_eq-Decides}
use Rattle.std.proofs.lemmas.List.Elements.{All-contains, Contains-push, Contains-append_left, Contains-append_right}
use Rattle.std.proofs.lemmas.List.Folds.{list_any_at}
use Rattle.std.specs.Bool.{Decides}
use Rattle.std.specs.List.{All, list_all, list_any}
use Rattle.sha2.specs.Sha256.{sha256}
use Rattle.fkv_device.specs.Known.{Pages, HasCollision, is_apart, are_kept, page_of, is_digest, IsTaken, IsGiven}

-- these are one page, or SHA-256 tells them apart
abbrev AreTold : List ℕ → List ℕ → Type 0
AreTold a b = (a ≡ b) ⊎ (¬ (sha256 a ≡ sha256 b))

told : (a b : List ℕ) → Decides (bytes_eq a b || not (bytes_eq (sha256 a) (sha256 b))) (AreTold a b)
told a b = Decides-or _ _ (bytes_eq-Decides a b) (Decides-not _ (bytes_eq-Decides (sha256 a) (sha256 b)))

apart : (pages : Pages) → Decides (is_apart pages) (All (λ a. All (AreTold a) (pages.taken ++ pages.given)) pages.taken)
unfolding is_apart
apart pages =
    Decides-by_and
    (λ a. list_all (λ b. bytes_eq a b || not (bytes_eq (sha256 a) (sha256 b))) (pages.taken ++ pages.given))
    (λ a. All (AreTold a) (pages.taken ++ pages.given))
    (list_all (λ a. list_all (λ b. bytes_eq a b || not (bytes_eq (sha256 a) (sha256 b))) (pages.taken ++ pages.given)))
    (λ a. Decides-by_and (λ b. bytes_eq a b || not (bytes_eq (sha256 a) (sha256 b))) (AreTold a)
    (list_all (λ b. bytes_eq a b || not (bytes_eq (sha256 a) (sha256 b)))) (told a) refl (λ _ _. refl) (pages.taken ++ pages.given))
    refl
    (λ _ _. refl)
    pages.taken

one_page : (a b : List ℕ) → AreTold a b → sha256 a ≡ sha256 b → a ≡ b
one_page a b (inl one) digests = one
one_page a b (inr differ) digests = absurd (differ digests)

-- a page that was taken is the only one of its digest that was taken or came back
same : (pages : Pages) (a b : List ℕ) → is_apart pages ≡ true → Contains pages.taken a → Contains (pages.taken ++ pages.given) b → sha256 a ≡ sha256 b → a ≡ b
same pages a b is there here digests =
    let row : All (AreTold a) (pages.taken ++ pages.given) =
    All-contains (λ a. All (AreTold a) (pages.taken ++ pages.given)) pages.taken a ((apart pages).0 is) there in
    one_page a b (All-contains (AreTold a) (pages.taken ++ pages.given) b row here) digests

-- an element that passes a test is found
found : {X : Type 0} (p : X → Bool) (xs : List X) → list_any p xs ≡ true → (q : X) × (find p xs ≡ Some q) × Contains xs q × (p q ≡ true)
found p [] h = absurd (false≢true h)
found p (x ∷ xs) h =
    elim (cases_Bool (p x)) [
      | inl passes ↦ (x, rw passes refl, Contains-append_left (x ∷ []) xs x (Contains-push [] x), passes)
      | inr fails ↦
          let rest = found p xs (rw fails at h) in
          (rest.0, rw fails rest.1, Contains-append_right (x ∷ []) xs rest.0 rest.2, rest.3)
    ]

-- of pages that none collide with, the one that is found by a digest is the one that has it
known : (pages : Pages) (digest page : List ℕ) → is_apart pages ≡ true → list_any (λ a. bytes_eq (sha256 a) digest) pages.taken ≡ true
    → Contains (pages.taken ++ pages.given) page → sha256 page ≡ digest → page ≡ unwrap_or (find (λ a. bytes_eq (sha256 a) digest) pages.taken) []
known pages digest page is has here e =
    let q = found (λ a. bytes_eq (sha256 a) digest) pages.taken has in
    let one : q.0 ≡ page = same pages q.0 page is q.2 here ((bytes_eq-Decides (sha256 q.0) digest).0 q.3 ∙ sym e) in
    sym (ap (λ o. unwrap_or o []) q.1 ∙ one)

-- a page that was taken has the digest of one that was
pub taken_digest : (pages : Option Pages) (page : List ℕ) → IsTaken pages page → is_digest pages (sha256 page) ≡ true
unfolding is_digest
taken_digest None page there = refl
taken_digest (Some pages) page there =
    list_any_at (λ a. bytes_eq (sha256 a) (sha256 page)) pages.taken there.0 page there.1
    (ap (λ a. bytes_eq (sha256 a) (sha256 page)) there.2 ∙ (bytes_eq-Decides (sha256 page) (sha256 page)).1 refl)

-- where pages are kept, a page that was taken is found by its digest
pub taken_is : (pages : Option Pages) (page : List ℕ) → IsTaken pages page → are_kept pages ≡ true → page_of pages (sha256 page) ≡ page
unfolding is_digest are_kept page_of
taken_is None page there kept = absurd (false≢true kept)
taken_is (Some pages) page there kept =
    sym (known pages (sha256 page) page kept (taken_digest (Some pages) page there) (Contains-append_left pages.taken pages.given page there) refl)

-- and a page that came back with the digest of one that was taken is that one
pub given_is : (pages : Option Pages) (digest page : List ℕ) → is_digest pages digest ≡ true → IsGiven pages page → sha256 page ≡ digest
    → are_kept pages ≡ true → page ≡ page_of pages digest
unfolding is_digest are_kept page_of
given_is None digest page has there e kept = absurd (false≢true kept)
given_is (Some pages) digest page has there e kept =
    known pages digest page kept has (Contains-append_right pages.taken pages.given page there) e

-- an element that fails a test, where not all pass
failing : {X : Type 0} (p : X → Bool) (xs : List X) → list_all p xs ≡ false → (q : X) × Contains xs q × (p q ≡ false)
failing p [] h = absurd (false≢true (sym h))
failing p (x ∷ xs) h =
    elim (cases_Bool (p x)) [
      | inl passes ↦
          let rest = failing p xs (rw passes at h) in
          (rest.0, Contains-append_right (x ∷ []) xs rest.0 rest.1, rest.2)
      | inr fails ↦ (x, Contains-append_left (x ∷ []) xs x (Contains-push [] x), fails)
    ]

-- pages that SHA-256 does not tell apart
not_told : (a b : List ℕ) → (bytes_eq a b || not (bytes_eq (sha256 a) (sha256 b))) ≡ false → (a ≢ b) × (sha256 a ≡ sha256 b)
not_told a b h =
    let untold : ¬ (AreTold a b) = not_from_Decides _ (told a b) h in (
      (λ one. untold (inl one)),
      elim (cases_Bool (bytes_eq (sha256 a) (sha256 b))) [
        | inl same ↦ (bytes_eq-Decides (sha256 a) (sha256 b)).0 same
        | inr differ ↦ absurd (untold (inr (not_from_Decides _ (bytes_eq-Decides (sha256 a) (sha256 b)) differ)))
      ],
    )

-- pages that are not kept have a collision
pub collision : (pages : Pages) → are_kept (Some pages) ≡ false → HasCollision pages
unfolding is_apart are_kept
collision pages h =
    let a = failing (λ a. list_all (λ b. bytes_eq a b || not (bytes_eq (sha256 a) (sha256 b))) (pages.taken ++ pages.given)) pages.taken h in
    let b = failing (λ b. bytes_eq a.0 b || not (bytes_eq (sha256 a.0) (sha256 b))) (pages.taken ++ pages.given) a.2 in
    let both = not_told a.0 b.0 b.2 in
    (a.0, b.0, a.1, b.1, both.0, both.1)

-- and those that are kept have none
pub no_collision : (pages : Pages) → are_kept (Some pages) ≡ true → ¬ (HasCollision pages)
unfolding are_kept
no_collision pages kept c = c.4 (same pages c.0 c.1 kept c.2 c.3 c.5)
