-- A fold whose steps commute, over a list and over its parts, one part after the other.
use Rattle.std.proofs.Common.{◌≡◌, ℕ, ◌<◌, ◌==◌, Bool, zero, suc, true, false, ◌⊎◌, inl, inr, List, [], ◌∷◌, ◌++◌, length, filter, fold, refl, sym, ap, subst, ◌∙◌, arith}
use Rattle.std.specs.List.{All}
use Rattle.std.proofs.lemmas.Bool.{cases_lt, cases_eq, lt-ltb, le-ltb, ltb-true, eq-eqb, ne_eqb}
use Rattle.std.proofs.lemmas.List.Elements.{All-head, All-tail}
use Rattle.std.proofs.lemmas.List.Sums.{fold-append, length-filter, count_by-le-length}
use Rattle.std.proofs.Math.Dec.{ltb}

-- a fact of each element
abbrev pub AllR : {X : Type 0} → (X → Type 0) → List X → Type 0
AllR P [] = Unit {0}
AllR P (x ∷ xs) = P x × AllR P xs

pub AllR-filter : {X : Type 0} (P : X → Type 0) (p : X → Bool) (xs : List X) → AllR P xs → AllR P (filter p xs)
AllR-filter P p [] all = tt
AllR-filter {X = X} P p (x ∷ xs) all =
    let rest = AllR-filter P p xs all.1 in
    let by : (b : Bool) → p x ≡ b → AllR P (filter p (x ∷ xs)) = elim [ true ↦ λ h. rw h (all.0, rest) | false ↦ λ h. rw h rest ] in
    by (p x) refl

pub AllR-weaker : {X : Type 0} (P Q : X → Type 0) → ((x : X) → P x → Q x) → (xs : List X) → AllR P xs → AllR Q xs
AllR-weaker P Q says [] all = tt
AllR-weaker P Q says (x ∷ xs) all = (says x all.0, AllR-weaker P Q says xs all.1)

pub AllR-each : {X : Type 0} (P : X → Type 0) (xs : List X) → All P xs → AllR P xs
AllR-each P [] all = tt
AllR-each P (x ∷ xs) all = (All-head P x xs all, AllR-each P xs (All-tail P x xs all))

pub AllR-append : {X : Type 0} (P : X → Type 0) (xs ys : List X) → AllR P xs → AllR P ys → AllR P (xs ++ ys)
AllR-append P [] ys a b = b
AllR-append P (x ∷ xs) ys a b = (a.0, AllR-append P xs ys a.1 b)

pub AllR-back : {X : Type 0} (P : X → Type 0) (xs ys : List X) → AllR P (xs ++ ys) → AllR P xs × AllR P ys
AllR-back P [] ys all = (tt, all)
AllR-back P (x ∷ xs) ys all = let rest = AllR-back P xs ys all.1 in ((all.0, rest.0), rest.1)

-- what all elements pass leaves none out
pub filter-all : {X : Type 0} (p : X → Bool) (xs : List X) → AllR (λ x. p x ≡ true) xs → filter p xs ≡ xs
filter-all p [] all = refl
filter-all p (x ∷ xs) all = rw all.0 (ap (λ ys. x ∷ ys) (filter-all p xs all.1))

pub all-counted : {X : Type 0} (p : X → Bool) (xs : List X) → length (filter p xs) ≡ length xs → AllR (λ x. p x ≡ true) xs
all-counted p [] h = tt
all-counted {X = X} p (x ∷ xs) h = by (p x) refl (all-counted p xs)
  where
    by : (b : Bool) → p x ≡ b → (length (filter p xs) ≡ length xs → AllR (λ y. p y ≡ true) xs) → AllR (λ y. p y ≡ true) (x ∷ xs)
    by true e rest = (let same : length (filter p (x ∷ xs)) ≡ suc (length (filter p xs)) = rw e refl in (e, rest (omega (arith, h, same))))
    by false e rest =
        let same : length (filter p (x ∷ xs)) ≡ length (filter p xs) = rw e refl in
        absurd (omega (arith, h, same, length-filter p xs, count_by-le-length p xs))

-- those of an owner
abbrev pub owned : {X : Type 0} → (X → ℕ) → List X → ℕ → List X
owned who xs i = filter (λ x. who x == i) xs

pub owned_here : {X : Type 0} (who : X → ℕ) (x : X) (xs : List X) → owned who (x ∷ xs) (who x) ≡ x ∷ owned who xs (who x)
owned_here who x xs = rw (eq-eqb (who x) (who x) refl) refl

pub owned_other : {X : Type 0} (who : X → ℕ) (x : X) (xs : List X) (i : ℕ) → (i ≡ who x → ⊥) → owned who (x ∷ xs) i ≡ owned who xs i
owned_other who x xs i ne = rw (ne_eqb (who x) i (λ e. ne (sym e))) refl

-- a fact of the elements of each owner, where each has one
pub all_of : {X : Type 0} (who : X → ℕ) (P : X → Type 0) (xs : List X) (n : ℕ) → AllR (λ x. ltb (who x) n ≡ true) xs
    → ((i : ℕ) → i < n → AllR P (owned who xs i))
    → AllR P xs
all_of who P [] n has each = tt
all_of {X = X} who P (x ∷ xs) n has each = (here.0, all_of who P xs n has.1 others)
  where
    here : AllR P (x ∷ owned who xs (who x))
    here =
        let all = each (who x) (ltb-true (who x) n has.0) in
        subst (AllR P) (owned_here who x xs) all

    others : (i : ℕ) → i < n → AllR P (owned who xs i)
    others i lt = by (cases_eq i (who x))
      where
        by : (i ≡ who x) ⊎ (i ≡ who x → ⊥) → AllR P (owned who xs i)
        by (inl e) = rw e here.1
        by (inr ne) = subst (AllR P) (owned_other who x xs i ne) (each i lt)

-- the parts below n, one after the other
abbrev pub joined : {C X : Type 0} → (C → X → C) → C → (ℕ → List X) → ℕ → C
joined f c parts zero = c
joined f c parts (suc n) = fold f (joined f c parts n) (parts n)

module _ {C X : Type 0} (f : C → X → C) where
  pub joined_same : (c : C) (ps qs : ℕ → List X) (n : ℕ) → ((i : ℕ) → i < n → ps i ≡ qs i) → joined f c ps n ≡ joined f c qs n
  joined_same c ps qs zero h = refl
  joined_same c ps qs (suc n) h = rw (joined_same c ps qs n (λ i lt. h i (omega (arith, lt))), h n (omega arith)) refl

  -- parts that come to the same, whatever was before
  pub joined_alike : {Y : Type 0} (g : C → Y → C) (c : C) (ps : ℕ → List X) (qs : ℕ → List Y) (n : ℕ)
      → ((i : ℕ) → i < n → (d : C) → fold f d (ps i) ≡ fold g d (qs i))
      → joined f c ps n ≡ joined g c qs n
  joined_alike g c ps qs zero h = refl
  joined_alike g c ps qs (suc n) h =
      h n (omega arith) (joined f c ps n) ∙ ap (λ d. fold g d (qs n)) (joined_alike g c ps qs n (λ i lt. h i (omega (arith, lt))))

  pub joined_none : (c : C) (n : ℕ) → joined f c (λ i. []) n ≡ c
  joined_none c zero = refl
  joined_none c (suc n) = joined_none c n

module _ {C X : Type 0} (f : C → X → C) (Q : C → Type 0) (P : X → Type 0) (stays : (c : C) (x : X) → Q c → P x → Q (f c x))
    (comm : (c : C) (x y : X) → Q c → P x → P y → f (f c x) y ≡ f (f c y) x) where
  pub folds_stay : (c : C) (xs : List X) → Q c → AllR P xs → Q (fold f c xs)
  folds_stay c [] q all = q
  folds_stay c (x ∷ xs) q all = folds_stay (f c x) xs (stays c x q all.0) all.1

  fold_move : (c : C) (x : X) (ys : List X) → Q c → P x → AllR P ys → fold f (f c x) ys ≡ f (fold f c ys) x
  fold_move c x [] q px all = refl
  fold_move c x (y ∷ ys) q px all = ap (λ d. fold f d ys) (comm c x y q px all.0) ∙ fold_move (f c y) x ys (stays c y q all.0) px all.1

  -- two lists in either order
  pub fold_swap : (c : C) (xs ys : List X) → Q c → AllR P xs → AllR P ys → fold f (fold f c xs) ys ≡ fold f (fold f c ys) xs
  fold_swap c [] ys q px py = refl
  fold_swap c (x ∷ xs) ys q px py =
      fold_swap (f c x) xs ys (stays c x q px.0) px.1 py ∙ ap (λ d. fold f d xs) (fold_move c x ys q px.0 py)

  pub joined_stays : (c : C) (parts : ℕ → List X) (n : ℕ) → Q c → ((i : ℕ) → i < n → AllR P (parts i)) → Q (joined f c parts n)
  joined_stays c parts zero q all = q
  joined_stays c parts (suc n) q all =
      folds_stay (joined f c parts n) (parts n) (joined_stays c parts n q (λ i lt. all i (omega (arith, lt)))) (all n (omega arith))

  -- a list before all parts or behind them
  pub joined_swap : (c : C) (one : List X) (parts : ℕ → List X) (n : ℕ) → Q c → AllR P one → ((i : ℕ) → i < n → AllR P (parts i))
      → fold f (joined f c parts n) one ≡ joined f (fold f c one) parts n
  joined_swap c one parts zero q known all = refl
  joined_swap c one parts (suc n) q known all =
      let before : (i : ℕ) → i < n → AllR P (parts i) = λ i lt. all i (omega (arith, lt)) in
      fold_swap (joined f c parts n) (parts n) one (joined_stays c parts n q before) (all n (omega arith)) known
      ∙ ap (λ d. fold f d (parts n)) (joined_swap c one parts n q known before)

  -- the front of part o comes before all parts
  pub moved : (c : C) (one : List X) (ps qs : ℕ → List X) (o n : ℕ) → Q c → o < n → ps o ≡ one ++ qs o
      → ((i : ℕ) → (i ≡ o → ⊥) → ps i ≡ qs i)
      → AllR P one
      → ((i : ℕ) → i < n → AllR P (qs i))
      → joined f c ps n ≡ joined f (fold f c one) qs n
  moved c one ps qs o zero q lt here there known all = absurd (omega (arith, lt))
  moved c one ps qs o (suc n) q lt here there known all = elim (cases_eq n o) [
    | inl e ↦ (
        let same = joined_same f c ps qs n (λ i below. there i (λ is. omega (arith, e, is, below))) in
        let last : ps n ≡ one ++ qs n = rw e here in
        rw (same, last) (fold-append f (joined f c qs n) one (qs n) ∙ ap (λ d. fold f d (qs n)) (joined_swap c one qs n q known before))
        )
    | inr ne ↦ rw (moved c one ps qs o n q (omega (arith, lt, ne)) here there known before, there n ne) refl
  ]
    where
      before : (i : ℕ) → i < n → AllR P (qs i)
      before i below = all i (omega (arith, below))

  module _ (who : X → ℕ) where
    -- those with an owner below n are the parts by owner
    pub by_owner : (c : C) (xs : List X) (n : ℕ) → Q c → AllR P xs → fold f c (filter (λ x. ltb (who x) n) xs) ≡ joined f c (owned who xs) n
    by_owner c [] n q all = sym (joined_none f c n)
    by_owner c (x ∷ xs) n q all = elim (cases_lt (who x) n) [
      | inl lt ↦ rw (lt-ltb (who x) n lt) (by_owner (f c x) xs n (stays c x q all.0) all.1
          ∙ sym (moved c (x ∷ []) (owned who (x ∷ xs)) (owned who xs) (who x) n q lt (owned_here who x xs) (owned_other who x xs) (all.0, tt)
          (λ i below. AllR-filter P (λ y. who y == i) xs all.1)))
      | inr ge ↦ rw (le-ltb (who x) n ge) (by_owner c xs n q all.1
          ∙ sym (joined_same f c (owned who (x ∷ xs)) (owned who xs) n (λ i below. owned_other who x xs i (λ is. omega (arith, ge, below, is)))))
    ]
