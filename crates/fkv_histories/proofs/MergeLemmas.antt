-- Histories that are merges of own lists.
use Rattle.std.proofs.Common.{◌≡◌, inl, inr, ◌+◌, ◌<◌, ◌≤◌, ◌==◌, ◌&&◌, ◌||◌, ℕ, zero, suc, Bool, true, false, not, replicate, slice_set, List, [], ◌∷◌, ◌++◌, length, map, take, drop, get_or, slice_get, sum_by, Some, IsTrue, refl, sym, ap, subst, ◌∙◌, arith}
use Rattle.std.specs.List.{filter, list_any, All}
use Rattle.std.proofs.Math.Seq.{drop-cons}
use Rattle.std.proofs.lemmas.List.{append-nil, map-append, map_more, take-append-drop, append_cancel_left, take_all, drop_all, length-map, length-take, get_or-map, get_or-set_same, get_or-set_other}
use Rattle.std.proofs.lemmas.List.Elements.{filter_more, filter-append, All-head, All-tail}
use Rattle.std.proofs.lemmas.List.Folds.{list_any_more, list_any_at}
use Rattle.std.proofs.lemmas.List.Sums.{sum_by_more, sum_by_more_le}
use Rattle.std.proofs.lemmas.Option.{slice_get-map, slice_get-get_or, slice_get_within}
use Rattle.std.proofs.lemmas.Bool.{eqb-true, eq-eqb, ne_eqb, cases_eq}
use Rattle.fkv_operations.specs.After.{is_update}
use Rattle.fkv_histories.specs.declared.entries.Entry.{Entry}
use Rattle.fkv_histories.specs.Merges.{Told, told_of, told, has_session, of_sessions, AreApart, IsMerge, IsShuffle, IsShuffleBy, owned_by, owner_in, AreClaimed, AreOwners}

module _ {K V I O : Type 0} where
  -- ---- of a history that is read on: an entry that passes is the next of an own list, and one that doesn't is passed over
  pub part_more : (p : Entry K V I O → Bool) (h own : List (Entry K V I O)) (k n : ℕ) (e o : Entry K V I O) → k < length h
      → n < length own
      → e ≡ get_or h k e
      → o ≡ get_or own n o
      → p e ≡ true
      → told_of o ≡ told_of e
      → told (filter p (take k h)) ≡ told (take n own)
      → told (filter p (take (k + 1) h)) ≡ told (take (n + 1) own)
  part_more p h own k n e o lt in_own e_is o_is passes same was =
      let grown : filter p (take (k + 1) h) ≡ filter p (take k h) ++ e ∷ [] = filter_more p h k e lt ∙ rw (← e_is, passes) refl in
      let longer : told (take (n + 1) own) ≡ told (take n own) ++ told_of o ∷ [] = map_more told_of own n o in_own ∙ rw (← o_is) refl in
      ap told grown ∙ (map-append told_of (filter p (take k h)) (e ∷ []) ∙ (rw (was, ← same) refl ∙ sym longer))

  pub part_over : (p : Entry K V I O → Bool) (h own : List (Entry K V I O)) (k n : ℕ) (e : Entry K V I O) → k < length h
      → e ≡ get_or h k e
      → p e ≡ false
      → told (filter p (take k h)) ≡ told (take n own)
      → told (filter p (take (k + 1) h)) ≡ told (take n own)
  part_over p h own k n e lt e_is fails was =
      let same : filter p (take (k + 1) h) ≡ filter p (take k h) = filter_more p h k e lt ∙ rw (← e_is, fails) (append-nil (filter p (take k h))) in
      ap told same ∙ was

  -- what an own list has to go on with, where it is what passes
  part_rest : (p : Entry K V I O → Bool) (h own : List (Entry K V I O)) (k n : ℕ) (e : Entry K V I O) → k < length h
      → e ≡ get_or h k e
      → p e ≡ true
      → told (filter p (take k h)) ≡ told (take n own)
      → told own ≡ told (filter p h)
      → told (drop n own) ≡ told_of e ∷ told (filter p (drop (suc k) h))
  part_rest p h own k n e lt e_is passes was all =
      let behind : filter p (drop k h) ≡ e ∷ filter p (drop (suc k) h) = ap (filter p) (drop-cons h k e lt) ∙ rw (← e_is, passes) refl in
      let passing : filter p h ≡ filter p (take k h) ++ e ∷ filter p (drop (suc k) h) =
      ap (filter p) (sym (take-append-drop k h)) ∙ (filter-append p (take k h) (drop k h) ∙ ap (λ l. filter p (take k h) ++ l) behind) in
      let left : told own ≡ told (take n own) ++ told (drop n own) = ap told (sym (take-append-drop n own)) ∙ map-append told_of (take n own) (drop n own) in
      let right : told (filter p h) ≡ told (take n own) ++ told_of e ∷ told (filter p (drop (suc k) h)) =
      ap told passing ∙ (map-append told_of (filter p (take k h)) (e ∷ filter p (drop (suc k) h)) ∙ rw was refl) in
      append_cancel_left (told (take n own)) (told (drop n own)) (told_of e ∷ told (filter p (drop (suc k) h))) (sym left ∙ (all ∙ right))

  -- an own list that breaks off is not that
  pub part_short : (p : Entry K V I O → Bool) (h own : List (Entry K V I O)) (k n : ℕ) (e : Entry K V I O) → k < length h
      → length own ≤ n
      → e ≡ get_or h k e
      → p e ≡ true
      → told (filter p (take k h)) ≡ told (take n own)
      → told own ≡ told (filter p h)
      → ⊥
  part_short p h own k n e lt short e_is passes was all =
      let rest = part_rest p h own k n e lt e_is passes was all in
      let none : drop n own ≡ [] = drop_all n own short in
      let bad : [] ≡ told_of e ∷ told (filter p (drop (suc k) h)) = sym (ap told none) ∙ rest in
      absurd (cc)

  -- and neither is one that goes on otherwise
  pub part_other : (p : Entry K V I O → Bool) (h own : List (Entry K V I O)) (k n : ℕ) (e o : Entry K V I O) → k < length h
      → n < length own
      → e ≡ get_or h k e
      → o ≡ get_or own n o
      → p e ≡ true
      → (told_of o ≡ told_of e → ⊥)
      → told (filter p (take k h)) ≡ told (take n own)
      → told own ≡ told (filter p h)
      → ⊥
  part_other p h own k n e o lt in_own e_is o_is passes other was all =
      let rest = part_rest p h own k n e lt e_is passes was all in
      let next : told (drop n own) ≡ told_of o ∷ told (drop (suc n) own) = ap told (drop-cons own n o in_own) ∙ rw (← o_is) refl in
      let both : told_of o ∷ told (drop (suc n) own) ≡ told_of e ∷ told (filter p (drop (suc k) h)) = sym next ∙ rest in
      let same : told_of o ≡ told_of e = cc in
      other same

  -- at the end of the history, an own list that is read to its end is that, and no other
  pub part_whole : (p : Entry K V I O → Bool) (h own : List (Entry K V I O)) (n : ℕ) → n ≤ length own
      → told (filter p h) ≡ told (take n own)
      → (IsTrue (n == length own) → told own ≡ told (filter p h)) × (told own ≡ told (filter p h) → IsTrue (n == length own))
  part_whole p h own n le was = (
    λ is. (let e : n ≡ length own = eqb-true n (length own) is in sym (was ∙ ap told (take_all n own (omega (arith, e))))),
    λ all.
        let lengths : length own ≡ length (take n own) = sym (length-map own told_of) ∙ (ap length (all ∙ was) ∙ length-map (take n own) told_of) in
        eq-eqb n (length own) (omega (arith, lengths, le, length-take n own)),
  )

-- ---- of lists that are read on, each of one owner
module _ {K V I O X : Type 0} (items : X → List (Entry K V I O)) (xs : List X) (i : ℕ) (x : X) (lt : i < length xs) (x_is : x ≡ get_or xs i x) where
  pub own_here : slice_get (map items xs) i ≡ Some (items x)
  own_here = slice_get-map items xs i ∙ rw (slice_get-get_or xs i x lt) (ap (λ y. Some (items y)) (sym x_is))

  pub own_all : (P : List (Entry K V I O) → Type 0) → All (λ y. P (items y)) xs → P (items x)
  own_all P all = subst (λ y. P (items y)) (sym x_is) (all i x lt)

  pub parts_more : (P : ℕ → List (Entry K V I O) → Type 0)
      → ((k : ℕ) (own : List (Entry K V I O)) → k < i → slice_get (map items xs) k ≡ Some own → P k own)
      → P i (items x)
      → (k : ℕ) (own : List (Entry K V I O)) → k < i + 1 → slice_get (map items xs) k ≡ Some own → P k own
  parts_more P all here k own low at = elim (cases_eq k i) [
    | inl same ↦
        let e : Some (items x) ≡ Some own = sym own_here ∙ (ap (slice_get (map items xs)) (sym same) ∙ at) in
        let is : items x ≡ own = cc in
        rw (same, ← is) here
    | inr ne ↦ all k own (omega arith) at
  ]

  here_is : get_or (map items xs) i [] ≡ items x
  here_is = get_or-map items xs i x [] lt ∙ ap items (sym x_is)

  pub total_more : sum_by length (take (i + 1) (map items xs)) ≡ sum_by length (take i (map items xs)) + length (items x)
  total_more = sum_by_more length (map items xs) i [] (rw (length-map xs items) lt) ∙ rw here_is refl

  pub total_least : sum_by length (take i (map items xs)) + length (items x) ≤ sum_by length (map items xs)
  total_least =
      let most = sum_by_more_le length (map items xs) i [] (rw (length-map xs items) lt) in
      let is = here_is in
      rw (← is) most

-- ---- tables of owners
or-none : (b : Bool) → (b || false) ≡ b
or-none true = refl
or-none false = refl

or-one : (b : Bool) → (b || true) ≡ true
or-one true = refl
or-one false = refl

and-one : (b : Bool) → (b && true) ≡ b
and-one true = refl
and-one false = refl

and-none : (b : Bool) → (b && false) ≡ false
and-none true = refl
and-none false = refl

and-left : (b c : Bool) → (b && c) ≡ true → b ≡ true
and-left true c h = refl
and-left false c h = h

all-nobody : (size nobody session : ℕ) → get_or (replicate size nobody) session nobody ≡ nobody
all-nobody zero nobody session = refl
all-nobody (suc size) nobody zero = refl
all-nobody (suc size) nobody (suc session) = all-nobody size nobody session

module _ {K V I O : Type 0} where
  pub claimed_more : (old mid : List ℕ) (list : List (Entry K V I O)) (k owner : ℕ) (e : Entry K V I O) → k < length list
      → e ≡ get_or list k e
      → e.session < length mid
      → AreClaimed old mid (take k list) owner
      → AreClaimed old (slice_set mid e.session owner) (take (k + 1) list) owner
  claimed_more old mid list k owner e lt e_is low was s nobody = elim (cases_eq s e.session) [
    | inl same ↦
        let here : (e.session == s) ≡ true = eq-eqb e.session s (sym same) in
        rw (any, here, or-one (has_session (take k list) s), same) (get_or-set_same mid e.session owner nobody low)
    | inr ne ↦
        let other : (e.session == s) ≡ false = ne_eqb e.session s (λ h. ne (sym h)) in
        rw (any, other, or-none (has_session (take k list) s)) (get_or-set_other mid e.session s owner nobody ne ∙ was s nobody)
  ]
    where
      any : has_session (take (k + 1) list) s ≡ (has_session (take k list) s || (e.session == s))
      any = list_any_more (λ (x : Entry K V I O). x.session == s) list k e lt ∙ rw (← e_is) refl

  pub owners_none : (owns : List (List (Entry K V I O))) (size : ℕ) → AreOwners (replicate size (length owns)) owns 0
  owners_none owns size = record {
    named = λ i s own at is.
        let lt = slice_get_within owns i own at in
        let nobody = all-nobody size (length owns) s in
        absurd (omega (arith, lt, is, nobody));
    found = λ i s own low at has. absurd (omega (arith, low));
  }

  pub owners_more : (old new : List ℕ) (owns : List (List (Entry K V I O))) (i : ℕ) (own : List (Entry K V I O)) → slice_get owns i ≡ Some own
      → AreOwners old owns i
      → AreClaimed old new own i
      → AreOwners new owns (i + 1)
  owners_more old new owns i own here o claimed = record {
    named = λ j s other at is. names j s other at is (has_session own s) refl;
    found = λ j s other low at has. finds j s other low at has (has_session own s) refl;
  }
    where
      same : (j : ℕ) (other : List (Entry K V I O)) → slice_get owns j ≡ Some other → j ≡ i → own ≡ other
      same j other at is = let e : Some own ≡ Some other = sym here ∙ (ap (slice_get owns) (sym is) ∙ at) in cc

      names : (j s : ℕ) (other : List (Entry K V I O)) → slice_get owns j ≡ Some other → owner_in new (length owns) s ≡ j → (b : Bool) → has_session own s ≡ b → IsTrue (has_session other s)
      names j s other at is true h =
          let mine : owner_in new (length owns) s ≡ i = claimed s (length owns) ∙ rw h refl in
          let own_is = same j other at (sym is ∙ mine) in
          rw (← own_is) h
      names j s other at is false h =
          let theirs : owner_in new (length owns) s ≡ owner_in old (length owns) s = claimed s (length owns) ∙ rw h refl in
          o.named j s other at (sym theirs ∙ is)

      finds : (j s : ℕ) (other : List (Entry K V I O)) → j < i + 1 → slice_get owns j ≡ Some other → IsTrue (has_session other s) → (b : Bool) → has_session own s ≡ b
          → owner_in new (length owns) s < length owns
      finds j s other low at has true h =
          let mine : owner_in new (length owns) s ≡ i = claimed s (length owns) ∙ rw h refl in
          let lt = slice_get_within owns i own here in
          omega (arith, mine, lt)
      finds j s other low at has false h =
          let theirs : owner_in new (length owns) s ≡ owner_in old (length owns) s = claimed s (length owns) ∙ rw h refl in
          let ne : j ≡ i → ⊥ = λ e. (let own_is = same j other at e in let bad : false ≡ true = sym h ∙ (ap (λ l. has_session l s) own_is ∙ has) in absurd (cc)) in
          let found = o.found j s other (elim (cases_eq j i) [ inl e ↦ absurd (ne e) | inr apart ↦ omega arith ]) at has in
          omega (arith, theirs, found)

-- ---- what own lists tell of sessions
module _ {K V I O : Type 0} where
  -- the sessions of a list are those of what it tells
  any-told : (xs : List (Entry K V I O)) (s : ℕ) → has_session xs s ≡ list_any (λ (t : Told K V I O). t.session == s) (told xs)
  any-told [] s = refl
  any-told (x ∷ xs) s = ap (λ b. (x.session == s) || b) (any-told xs s)

  same-sessions : (xs ys : List (Entry K V I O)) (s : ℕ) → told xs ≡ told ys → has_session xs s ≡ has_session ys s
  same-sessions xs ys s h = any-told xs s ∙ (ap (list_any (λ (t : Told K V I O). t.session == s)) h ∙ sym (any-told ys s))

  -- the sessions of a part that is told by sessions
  part-sessions : (g : ℕ → Bool) (h : List (Entry K V I O)) (s : ℕ) → has_session (filter (λ (e : Entry K V I O). g e.session) h) s ≡ (g s && has_session h s)
  part-sessions g [] s = sym (and-none (g s))
  part-sessions g (x ∷ h) s = by (part-sessions g h s) (g x.session) refl (x.session == s) refl
    where
      by : has_session (filter (λ (e : Entry K V I O). g e.session) h) s ≡ (g s && has_session h s) → (b : Bool) → g x.session ≡ b → (c : Bool) → (x.session == s) ≡ c → has_session (filter (λ (e : Entry K V I O). g e.session) (x ∷ h)) s ≡ (g s && has_session (x ∷ h) s)
      by ih true e true f =
          let gs : g s ≡ true = ap g (sym (eqb-true x.session s f)) ∙ e in
          rw (e, f, gs) refl
      by ih true e false f = rw (e, f) ih
      by ih false e true f =
          let gs : g s ≡ false = ap g (sym (eqb-true x.session s f)) ∙ e in
          rw (e, f, gs) (ih ∙ rw gs refl)
      by ih false e false f = rw (e, f) ih

  filter-same : (p q : Entry K V I O → Bool) (xs : List (Entry K V I O)) → All (λ x. p x ≡ q x) xs → filter p xs ≡ filter q xs
  filter-same p q [] h = refl
  filter-same p q (x ∷ xs) h =
      let first = All-head (λ y. p y ≡ q y) x xs h in
      let rest = filter-same p q xs (All-tail (λ y. p y ≡ q y) x xs h) in
      rw (first, rest) refl

  filter-told : (g : Told K V I O → Bool) (xs : List (Entry K V I O)) → told (filter (λ (e : Entry K V I O). g (told_of e)) xs) ≡ filter g (told xs)
  filter-told g [] = refl
  filter-told g (x ∷ xs) = by (filter-told g xs) (g (told_of x)) refl
    where
      by : told (filter (λ (e : Entry K V I O). g (told_of e)) xs) ≡ filter g (told xs) → (b : Bool) → g (told_of x) ≡ b → told (filter (λ (e : Entry K V I O). g (told_of e)) (x ∷ xs)) ≡ filter g (told (x ∷ xs))
      by ih true e = rw e (ap (λ ts. told_of x ∷ ts) ih)
      by ih false e = rw e ih

  filter-swap : (p q : Entry K V I O → Bool) (xs : List (Entry K V I O)) → filter p (filter q xs) ≡ filter q (filter p xs)
  filter-swap p q [] = refl
  filter-swap p q (x ∷ xs) = by (filter-swap p q xs) (p x) refl (q x) refl
    where
      by : filter p (filter q xs) ≡ filter q (filter p xs) → (b : Bool) → p x ≡ b → (c : Bool) → q x ≡ c → filter p (filter q (x ∷ xs)) ≡ filter q (filter p (x ∷ xs))
      by ih true e true f = rw (e, f) (rw e (ap (λ ys. x ∷ ys) ih))
      by ih true e false f = rw (e, f) ih
      by ih false e true f = rw (e, f) (rw e ih)
      by ih false e false f = rw (e, f) ih

-- ---- the three ways to say it
module _ {K V I O : Type 0} (history : List (Entry K V I O)) (owns : List (List (Entry K V I O))) where
  pub shuffle_of : (owner : ℕ → ℕ) → IsShuffleBy owner history owns → IsShuffle history owns
  shuffle_of owner s = record { parts = parts; apart = apart; total = s.total }
    where
      sessions : (i session : ℕ) (own : List (Entry K V I O)) → slice_get owns i ≡ Some own → has_session own session ≡ ((owner session == i) && has_session history session)
      sessions i session own at =
          same-sessions own (filter (owned_by owner i) history) session (s.parts i own at) ∙ part-sessions (λ n. owner n == i) history session

      parts : (i : ℕ) (own : List (Entry K V I O)) → slice_get owns i ≡ Some own → told own ≡ told (of_sessions own history)
      parts i own at = s.parts i own at ∙ ap told (filter-same (owned_by owner i) (λ e. has_session own e.session) history
          (λ k d lt.
          let e = get_or history k d in
          let here : has_session history e.session ≡ true = list_any_at (λ (x : Entry K V I O). x.session == e.session) history k d lt (eq-eqb e.session e.session refl) in
          sym (sessions i e.session own at ∙ rw here (and-one (owner e.session == i)))))

      owner_is : (i session : ℕ) (own : List (Entry K V I O)) → slice_get owns i ≡ Some own → IsTrue (has_session own session) → owner session ≡ i
      owner_is i session own at has = eqb-true (owner session) i (and-left (owner session == i) (has_session history session) (sym (sessions i session own at) ∙ has))

      apart : AreApart owns
      apart i j session own other at there has has' = sym (owner_is i session own at has) ∙ owner_is j session other there has'

  pub shuffle_by : (who : List ℕ) → AreOwners who owns (length owns) → IsShuffle history owns → IsShuffleBy (owner_in who (length owns)) history owns
  shuffle_by who o s = record { parts = λ i own at. s.parts i own at ∙ ap told (sym (filter-same (owned_by owner i) (λ e. has_session own e.session) history (λ k d lt. same i own at (get_or history k d).session))); total = s.total }
    where
      owner : ℕ → ℕ
      owner = owner_in who (length owns)

      same : (i : ℕ) (own : List (Entry K V I O)) → slice_get owns i ≡ Some own → (session : ℕ) → (owner session == i) ≡ has_session own session
      same i own at session = by (has_session own session) refl
        where
          by : (b : Bool) → has_session own session ≡ b → (owner session == i) ≡ has_session own session
          by true h =
              let lt = o.found i session own (slice_get_within owns i own at) at h in
              let there = slice_get-get_or owns (owner session) [] lt in
              let has = o.named (owner session) session (get_or owns (owner session) []) there refl in
              let is : owner session ≡ i = s.apart (owner session) i session (get_or owns (owner session) []) own there at has h in
              eq-eqb (owner session) i is ∙ sym h
          by false h =
              let ne : owner session ≡ i → ⊥ = λ e. (let has = o.named i session own at e in let bad : false ≡ true = sym h ∙ has in absurd (cc)) in
              ne_eqb (owner session) i ne ∙ sym h

  pub merge_of : IsShuffle history owns → IsMerge history owns
  merge_of s = record {
    updated = λ i own at. of (λ t. is_update t.op) own (s.parts i own at);
    read = λ i own at. of (λ t. not (is_update t.op)) own (s.parts i own at);
    apart = s.apart;
    total = s.total;
  }
    where
      of : (g : Told K V I O → Bool) (own : List (Entry K V I O)) → told own ≡ told (of_sessions own history)
          → told (filter (λ (e : Entry K V I O). g (told_of e)) own) ≡ told (of_sessions own (filter (λ (e : Entry K V I O). g (told_of e)) history))
      of g own is =
          filter-told g own
          ∙ (ap (filter g) is
          ∙ (sym (filter-told g (of_sessions own history))
          ∙ ap told (filter-swap (λ (e : Entry K V I O). g (told_of e)) (λ (e : Entry K V I O). has_session own e.session) history)))
