-- Pieces of several texts, shared out among workers: a fold whose steps commute, over the texts and over the workers.
use Rattle.std.proofs.Common.{◌≡◌, ◌<◌, ◌⊎◌, inl, inr, ℕ, zero, suc, true, List, [], ◌++◌, fold, refl, sym, ap, subst, ◌∙◌, arith}
use Rattle.std.proofs.lemmas.List.Sums.{fold-append}
use Rattle.std.proofs.Math.Dec.{ltb}
use Rattle.fkv_workers.proofs.FoldLemmas.{AllR, AllR-append, by_owner, filter-all, folds_stay, joined, joined_same, joined_stays, joined_swap, owned}

-- the lists below n, one behind another
abbrev pub behind : {X : Type 0} → (ℕ → List X) → ℕ → List X
behind parts zero = []
behind parts (suc n) = behind parts n ++ parts n

fold_behind : {C X : Type 0} (f : C → X → C) (c : C) (parts : ℕ → List X) (n : ℕ) → fold f c (behind parts n) ≡ joined f c parts n
fold_behind f c parts zero = refl
fold_behind f c parts (suc n) = fold-append f c (behind parts n) (parts n) ∙ ap (λ d. fold f d (parts n)) (fold_behind f c parts n)

behind_all : {X : Type 0} (P : X → Type 0) (parts : ℕ → List X) (n : ℕ) → ((i : ℕ) → i < n → AllR P (parts i)) → AllR P (behind parts n)
behind_all P parts zero all = tt
behind_all P parts (suc n) all = AllR-append P (behind parts n) (parts n) (behind_all P parts n (λ i lt. all i (omega (arith, lt)))) (all n (omega arith))

module _ {C X : Type 0} (f : C → X → C) (Q : C → Type 0) (P : X → Type 0) (stays : (c : C) (x : X) → Q c → P x → Q (f c x))
    (comm : (c : C) (x y : X) → Q c → P x → P y → f (f c x) y ≡ f (f c y) x) where
  -- two lists of lists, place by place
  joined_zip : (c : C) (ps qs : ℕ → List X) (n : ℕ) → Q c → ((i : ℕ) → i < n → AllR P (ps i)) → ((i : ℕ) → i < n → AllR P (qs i))
      → joined f (joined f c ps n) qs n ≡ joined f c (λ i. ps i ++ qs i) n
  joined_zip c ps qs zero q a b = refl
  joined_zip c ps qs (suc n) q a b =
      let a_before : (i : ℕ) → i < n → AllR P (ps i) = λ i lt. a i (omega (arith, lt)) in
      let b_before : (i : ℕ) → i < n → AllR P (qs i) = λ i lt. b i (omega (arith, lt)) in
      let here = joined_stays f Q P stays comm c ps n q a_before in
      ap (λ d. fold f d (qs n)) (sym (joined_swap f Q P stays comm (joined f c ps n) (ps n) qs n here (a n (omega arith)) b_before))
      ∙ (ap (λ d. fold f (fold f d (ps n)) (qs n)) (joined_zip c ps qs n q a_before b_before)
      ∙ sym (fold-append f (joined f c (λ i. ps i ++ qs i) n) (ps n) (qs n)))

  -- the texts, one behind another, each by its workers
  texts : C → (ℕ → ℕ → List X) → ℕ → ℕ → C
  texts c part workers zero = c
  texts c part workers (suc n) = joined f (texts c part workers n) (part n) workers

  by_workers : (c : C) (part : ℕ → ℕ → List X) (workers n : ℕ) → Q c → ((t w : ℕ) → t < n → w < workers → AllR P (part t w))
      → texts c part workers n ≡ joined f c (λ w. behind (λ t. part t w) n) workers
  unfolding texts
  by_workers c part workers zero q all = sym (none workers)
    where
      none : (m : ℕ) → joined f c (λ w. []) m ≡ c
      none zero = refl
      none (suc m) = none m
  by_workers c part workers (suc n) q all =
      let before : (t w : ℕ) → t < n → w < workers → AllR P (part t w) = λ t w a b. all t w (omega (arith, a)) b in
      ap (λ d. joined f d (part n) workers) (by_workers c part workers n q before)
      ∙ joined_zip c (λ w. behind (λ t. part t w) n) (part n) workers q
      (λ w lt. behind_all P (λ t. part t w) n (λ t less. before t w less lt))
      (λ w lt. all n w (omega arith) lt)

  -- THE TEXTS COME TO WHAT THE WORKERS DO: `order` has the elements of each text in its order, and `hand` those of each worker in the order in
  -- which it took them; of each text a worker has those that are its own, in the text's order
  module _ (worker text : X → ℕ) (order hand : ℕ → List X) (workers n : ℕ)
      (held : (t w : ℕ) → t < n → w < workers → owned worker (order t) w ≡ owned text (hand w) t)
      (by_some : (t : ℕ) → t < n → AllR (λ x. ltb (worker x) workers ≡ true) (order t))
      (of_some : (w : ℕ) → w < workers → AllR (λ x. ltb (text x) n ≡ true) (hand w))
      (known : (t : ℕ) → t < n → AllR P (order t)) (known_too : (w : ℕ) → w < workers → AllR P (hand w))
      (parts_known : (t w : ℕ) → t < n → w < workers → AllR P (owned worker (order t) w)) where
    text_is : (c : C) (t : ℕ) → t < n → Q c → fold f c (order t) ≡ joined f c (λ w. owned worker (order t) w) workers
    text_is c t lt q =
        ap (fold f c) (sym (filter-all (λ x. ltb (worker x) workers) (order t) (by_some t lt)))
        ∙ by_owner f Q P stays comm worker c (order t) workers q (known t lt)

    hand_is : (c : C) (w : ℕ) → w < workers → Q c → fold f c (hand w) ≡ joined f c (λ t. owned text (hand w) t) n
    hand_is c w lt q =
        ap (fold f c) (sym (filter-all (λ x. ltb (text x) n) (hand w) (of_some w lt)))
        ∙ by_owner f Q P stays comm text c (hand w) n q (known_too w lt)

    texts_are : (c : C) (m : ℕ) → (m < n ⊎ (m ≡ n)) → Q c → (fold f c (behind order m) ≡ texts c (λ t w. owned worker (order t) w) workers m)
        × Q (fold f c (behind order m))
    unfolding texts
    texts_are c zero le q = (refl, q)
    texts_are c (suc m) le q =
        let lt : m < n = below m le in
        let before = texts_are c m (inl lt) q in
        let front = fold-append f c (behind order m) (order m) in (
          front ∙ (text_is (fold f c (behind order m)) m lt before.1 ∙ ap (λ d. joined f d (λ w. owned worker (order m) w) workers) before.0),
          subst Q (sym front) (folds_stay f Q P stays comm (fold f c (behind order m)) (order m) before.1 (known m lt)),
        )
      where
        below : (m : ℕ) → (suc m < n ⊎ (suc m ≡ n)) → m < n
        below m (inl lt) = omega (arith, lt)
        below m (inr e) = omega (arith, e)

    workers_are : (c : C) (m : ℕ) → (m < workers ⊎ (m ≡ workers)) → Q c
        → (joined f c hand m ≡ joined f c (λ w. behind (λ t. owned worker (order t) w) n) m) × Q (joined f c hand m)
    workers_are c zero le q = (refl, q)
    workers_are c (suc m) le q =
        let lt : m < workers = below m le in
        let before = workers_are c m (inl lt) q in
        let d = joined f c hand m in
        let here = hand_is d m lt before.1 in
        let same = joined_same f d (λ t. owned text (hand m) t) (λ t. owned worker (order t) m) n (λ t less. sym (held t m less lt)) in
        let lined = sym (fold_behind f d (λ t. owned worker (order t) m) n) in (
          here ∙ (same ∙ (lined ∙ ap (λ e. fold f e (behind (λ t. owned worker (order t) m) n)) before.0)),
          folds_stay f Q P stays comm d (hand m) before.1 (known_too m lt),
        )
      where
        below : (m : ℕ) → (suc m < workers ⊎ (suc m ≡ workers)) → m < workers
        below m (inl lt) = omega (arith, lt)
        below m (inr e) = omega (arith, e)

    pub texts_by_hands : (c : C) → Q c → fold f c (behind order n) ≡ joined f c hand workers
    texts_by_hands c q =
        (texts_are c n (inr refl) q).0
        ∙ (by_workers c (λ t w. owned worker (order t) w) workers n q parts_known
        ∙ sym (workers_are c workers (inr refl) q).0)
