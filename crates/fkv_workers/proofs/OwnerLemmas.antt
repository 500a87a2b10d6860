-- Shuffles by the owner of each session.
use Rattle.std.proofs.Common.{◌≡◌, ◌+◌, ◌<◌, ◌≤◌, ◌==◌, ℕ, zero, suc, Bool, true, false, cond, List, [], ◌∷◌, length, filter, fold, take, get_or, slice_get, sum_by, Some, refl, sym, ap, subst, ◌∙◌, arith}
use Rattle.std.proofs.lemmas.Bool.{eq-eqb, ne_eqb}
use Rattle.std.proofs.lemmas.List.{take_all, length-map}
use Rattle.std.proofs.lemmas.List.Sums.{sum_by_more}
use Rattle.std.proofs.lemmas.Option.{slice_get-get_or}
use Rattle.std.proofs.Math.Dec.{ltb}
use Rattle.fkv_histories.specs.declared.entries.Entry.{Entry}
use Rattle.fkv_histories.specs.Merges.{Told, told_of, told, has_session, IsShuffle}
use Rattle.fkv_workers.proofs.FoldLemmas.{AllR, joined, by_owner, owned, filter-all, all-counted, all_of, joined_same}

module _ {K V I O : Type 0} where
  -- the first list that has a session, or as many as there are
  abbrev pub owner_of : List (List (Entry K V I O)) → ℕ → ℕ
  owner_of [] s = 0
  owner_of (own ∷ owns) s = cond (has_session own s) 0 (suc (owner_of owns s))

  owner_has : (owns : List (List (Entry K V I O))) (s i : ℕ) (own : List (Entry K V I O)) → slice_get owns i ≡ Some own → owner_of owns s ≡ i → has_session own s ≡ true
  owner_has [] s i own at is = absurd (cc)
  owner_has (first ∷ owns) s zero own at is = by (has_session first s) refl
    where
      same : first ≡ own
      same = cc

      by : (b : Bool) → has_session first s ≡ b → has_session own s ≡ true
      by true e = rw (← same) e
      by false e = (let bad : suc (owner_of owns s) ≡ 0 = rw e at is in absurd (omega (arith, bad)))
  owner_has (first ∷ owns) s (suc i) own at is = by (has_session first s) refl (owner_has owns s i own at)
    where
      by : (b : Bool) → has_session first s ≡ b → (owner_of owns s ≡ i → has_session own s ≡ true) → has_session own s ≡ true
      by true e rest = (let bad : 0 ≡ suc i = rw e at is in absurd (omega (arith, bad)))
      by false e rest = (let next : suc (owner_of owns s) ≡ suc i = rw e at is in rest (omega (arith, next)))

  owner_found : (owns : List (List (Entry K V I O))) (s i : ℕ) (own : List (Entry K V I O)) → slice_get owns i ≡ Some own → has_session own s ≡ true
      → (other : List (Entry K V I O)) × (slice_get owns (owner_of owns s) ≡ Some other) × (has_session other s ≡ true)
  owner_found [] s i own at has = absurd (cc)
  owner_found (first ∷ owns) s zero own at has = (let same : first ≡ own = cc in let here : has_session first s ≡ true = rw same has in rw here (first, refl, here))
  owner_found (first ∷ owns) s (suc i) own at has = by (has_session first s) refl (owner_found owns s i own at has)
    where
      by : (b : Bool) → has_session first s ≡ b
          → (other : List (Entry K V I O)) × (slice_get owns (owner_of owns s) ≡ Some other) × (has_session other s ≡ true)
          → (other : List (Entry K V I O)) × (slice_get (first ∷ owns) (owner_of (first ∷ owns) s) ≡ Some other) × (has_session other s ≡ true)
      by true e rest = rw e (first, refl, e)
      by false e rest = rw e rest

  filter-told : (g : Told K V I O → Bool) (xs : List (Entry K V I O)) → filter g (told xs) ≡ told (filter (λ (e : Entry K V I O). g (told_of e)) xs)
  filter-told g [] = refl
  filter-told g (x ∷ xs) = by (g (told_of x)) refl (filter-told g xs)
    where
      by : (b : Bool) → g (told_of x) ≡ b → filter g (told xs) ≡ told (filter (λ (e : Entry K V I O). g (told_of e)) xs)
          → filter g (told (x ∷ xs)) ≡ told (filter (λ (e : Entry K V I O). g (told_of e)) (x ∷ xs))
      by true e rest = rw e (ap (λ ts. told_of x ∷ ts) rest)
      by false e rest = rw e rest

  module _ (history : List (Entry K V I O)) (owns : List (List (Entry K V I O))) (shuffle : IsShuffle history owns) where
    abbrev pub who : Told K V I O → ℕ
    who t = owner_of owns t.session

    -- what the list of a number tells
    abbrev pub part : ℕ → List (Told K V I O)
    part i = told (get_or owns i [])

    same : (i : ℕ) (own : List (Entry K V I O)) → slice_get owns i ≡ Some own → (s : ℕ) → (owner_of owns s == i) ≡ has_session own s
    same i own at s = by (has_session own s) refl
      where
        by : (b : Bool) → has_session own s ≡ b → (owner_of owns s == i) ≡ has_session own s
        by true e =
            let found = owner_found owns s i own at e in
            eq-eqb (owner_of owns s) i (shuffle.apart (owner_of owns s) i s found.0 own found.1 at found.2 e) ∙ sym e
        by false e = ne_eqb (owner_of owns s) i (λ is. let bad : false ≡ true = sym e ∙ owner_has owns s i own at is in absurd (cc)) ∙ sym e

    pub parts_owned : (i : ℕ) → i < length owns → owned who (told history) i ≡ part i
    parts_owned i lt =
        let own = get_or owns i [] in
        let at = slice_get-get_or owns i [] lt in
        ap (λ (g : Told K V I O → Bool). filter g (told history)) (λ j t. same i own at t.session j)
        ∙ (filter-told (λ t. has_session own t.session) history ∙ sym (shuffle.parts i own at))

    -- ---- nothing is left out: the lengths of the parts add up
    abbrev count : ℕ → Told K V I O → ℕ
    count n t = suc n

    counted : (c : ℕ) (ts : List (Told K V I O)) → fold count c ts ≡ c + length ts
    counted c [] = omega arith
    counted c (t ∷ ts) = counted (suc c) ts ∙ omega arith

    summed : (n : ℕ) → n ≤ length owns → joined count 0 part n ≡ sum_by length (take n owns)
    summed zero le = refl
    summed (suc n) le =
        let more = sum_by_more length owns n [] (omega arith) in
        let here = counted (joined count 0 part n) (part n) in
        let long = length-map (get_or owns n []) told_of in
        let before = summed n (omega arith) in
        let is : joined count 0 part (suc n) ≡ sum_by length (take (n + 1) owns) = omega (arith, more, here, long, before) in
        let one : n + 1 ≡ suc n = omega arith in
        is ∙ ap (λ m. sum_by length (take m owns)) one

    pub all_owned : AllR (λ t. ltb (who t) (length owns) ≡ true) (told history)
    all_owned =
        let n = length owns in
        let passes = filter (λ t. ltb (who t) n) (told history) in
        let nothing : AllR (λ t. Unit {0}) (told history) = units (told history) in
        let parts = by_owner count (λ c. Unit {0}) (λ t. Unit {0}) (λ c t q p. tt) (λ c t u q p r. refl) who 0 (told history) n tt nothing
        ∙ joined_same count 0 (owned who (told history)) part n parts_owned in
        let long = counted 0 passes in
        let sum = summed n (omega arith) ∙ ap (sum_by length) (take_all n owns (omega arith)) in
        let all = length-map history told_of in
        all-counted (λ t. ltb (who t) n) (told history) (omega (arith, parts, long, sum, all, shuffle.total))
      where
        units : (ts : List (Told K V I O)) → AllR (λ t. Unit {0}) ts
        units [] = tt
        units (t ∷ ts) = (tt, units ts)

    -- a fact of what each list tells is one of what the history tells
    pub all_told : (P : Told K V I O → Type 0) → ((i : ℕ) → i < length owns → AllR P (part i)) → AllR P (told history)
    all_told P each = all_of who P (told history) (length owns) all_owned (λ i lt. subst (AllR P) (sym (parts_owned i lt)) (each i lt))

    -- what the history tells is, by owners, what the lists tell
    pub by_lists : {C : Type 0} (f : C → Told K V I O → C) (Q : C → Type 0) (P : Told K V I O → Type 0)
        (stays : (c : C) (t : Told K V I O) → Q c → P t → Q (f c t))
        (comm : (c : C) (t u : Told K V I O) → Q c → P t → P u → f (f c t) u ≡ f (f c u) t)
        (c : C) → Q c → ((i : ℕ) → i < length owns → AllR P (part i))
        → fold f c (told history) ≡ joined f c part (length owns)
    by_lists f Q P stays comm c q each =
        let n = length owns in
        ap (fold f c) (sym (filter-all (λ t. ltb (who t) n) (told history) all_owned))
        ∙ (by_owner f Q P stays comm who c (told history) n q (all_told P each)
        ∙ joined_same f c (owned who (told history)) part n parts_owned)
