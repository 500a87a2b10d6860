-- What the definitions refuse.
use Rattle.std.proofs.Common.{◌≡◌, ◌==◌, ◌||◌, ◌-◌, ℕ, zero, suc, Bool, true, false, not, List, [], ◌∷◌, length, slice_get, Some, None, cond, refl, sym, ap, ◌∙◌, arith}
use Rattle.std.specs.List.{filter}
use Rattle.std.specs.Ordering.{nat_cmp}
use Rattle.std.specs.Cmp.{nat_cmp_total, eq_by_cmp_equiv}
use Rattle.std.specs.BTreeMap.{is_at}
use Rattle.std.proofs.lemmas.Bool.{eq-eqb}
use Rattle.fkv_operations.specs.After.{shown_of}
use Rattle.fkv_operations.specs.declared.operations.KeyedOp.TheVariants.{Upsert}
use Rattle.fkv_histories.specs.Histories.{is_update_entry, updates}
use Rattle.fkv_histories.specs.Merges.{told_of, told, has_session, of_sessions, owned_by, IsMerge}
use Rattle.fkv_histories.specs.WrongHistories.{NumberEntry, entry, RefusesInvented, RefusesMisplaced, RefusesSharedPlaces, RefusesOtherTimes, RefusesUnequal, RefusesSharedSessions, RefusesOtherOrder, TakesTurns}
use Rattle.fkv_histories.proofs.MergeLemmas.{shuffle_of, merge_of}

itself : (k : ℕ) → is_at (nat_cmp k) k ≡ true
itself k = (eq_by_cmp_equiv nat_cmp_total).refl k

pub refuses_invented : RefusesInvented
refuses_invented f k i v a = (
  λ l. (l.placed 0 (entry 1 (Upsert k v) a 0 0 0) (omega arith)).answers,
  λ l. (l.placed 0 (entry 1 (Upsert k v) a 0 0 0) (omega arith)).answers,
  λ l. (l.placed 0 (entry 1 (Upsert k v) a 0 0 0) (omega arith)).answers,
  λ l. (l.placed 0 (entry 1 (Upsert k v) a 0 0 0) (omega arith)).answers,
  λ l. (l.placed 0 (entry 1 (Upsert k v) a 0 0 0) (omega arith)).answers,
)

pub refuses_misplaced : RefusesMisplaced
refuses_misplaced f k i v a b = (
  λ l. (l.placed 1 (entry 1 (Upsert k v) a 0 0 0) (omega arith)).answers,
  λ l. (l.placed 1 (entry 1 (Upsert k v) a 0 0 0) (omega arith)).answers ∙ ap (λ t. shown_of f k i (cond t (Some v) None)) (itself k),
)

pub refuses_shared_places : RefusesSharedPlaces
refuses_shared_places f x y u w l =
    let both : updates (x ∷ y ∷ []) ≡ x ∷ y ∷ [] = rw (u, w) refl in
    let one : updates (x ∷ []) ≡ x ∷ [] = rw u refl in (
      l.numbered 0 x (ap (λ es. slice_get es 0) both),
      l.numbered 1 y (ap (λ es. slice_get es 1) both),
      l.completed 0 x refl,
      l.completed 1 y refl ∙ ap length one,
    )

pub refuses_other_times : RefusesOtherTimes
refuses_other_times f x l =
    let p = l.placed 0 x (omega arith) in
    (p.low, p.high, l.completed 0 x refl)

-- an own list of one that is what passes, of a history of one
one-of : (p : NumberEntry → Bool) (x y : NumberEntry) → p y ≡ true
    → told (filter p (y ∷ [])) ≡ told (of_sessions (y ∷ []) (filter p (x ∷ [])))
    → told_of x ≡ told_of y
one-of p x y passes h = by (p x) refl (has_session (y ∷ []) x.session) refl
  where
    left : told (filter p (y ∷ [])) ≡ told_of y ∷ []
    left = rw passes refl

    by : (b : Bool) → p x ≡ b → (d : Bool) → has_session (y ∷ []) x.session ≡ d → told_of x ≡ told_of y
    by true e true g =
        let right : told (of_sessions (y ∷ []) (filter p (x ∷ []))) ≡ told_of x ∷ [] = rw e (rw g refl) in
        let both : told_of y ∷ [] ≡ told_of x ∷ [] = sym left ∙ (h ∙ right) in
        cc
    by true e false g =
        let right : told (of_sessions (y ∷ []) (filter p (x ∷ []))) ≡ [] = rw e (rw g refl) in
        let bad : told_of y ∷ [] ≡ [] = sym left ∙ (h ∙ right) in
        absurd (cc)
    by false e d g =
        let right : told (of_sessions (y ∷ []) (filter p (x ∷ []))) ≡ [] = rw e refl in
        let bad : told_of y ∷ [] ≡ [] = sym left ∙ (h ∙ right) in
        absurd (cc)

pub refuses_unequal : RefusesUnequal
refuses_unequal x y = (λ m. absurd (omega (arith, m.total)), λ m. absurd (omega (arith, m.total)), λ m. by m (is_update_entry y) refl)
  where
    by : IsMerge (x ∷ []) ((y ∷ []) ∷ []) → (b : Bool) → is_update_entry y ≡ b → told_of x ≡ told_of y
    by m true e = one-of is_update_entry x y e (m.updated 0 (y ∷ []) refl)
    by m false e = one-of (λ z. not (is_update_entry z)) x y (ap not e) (m.read 0 (y ∷ []) refl)

session-self : (x : NumberEntry) → (x.session == x.session) ≡ true
session-self x = eq-eqb x.session x.session refl

pub refuses_shared_sessions : RefusesSharedSessions
refuses_shared_sessions x y same m =
    let self = session-self x in
    let other : (y.session == x.session) ≡ true = eq-eqb y.session x.session (sym same) in
    let zero-one : ◌≡◌ {A = ℕ} 0 1 = m.apart 0 1 x.session (x ∷ []) (y ∷ []) refl refl (rw self refl) (rw other refl) in
    absurd (omega arith)

or-last : (b : Bool) → (b || true) ≡ true
or-last true = refl
or-last false = refl

pub refuses_other_order : RefusesOtherOrder
refuses_other_order x y u w m =
    let self-x = session-self x in
    let self-y = session-self y in
    let has-x : has_session (y ∷ x ∷ []) x.session ≡ true = rw self-x (or-last (y.session == x.session)) in
    let has-y : has_session (y ∷ x ∷ []) y.session ≡ true = rw self-y refl in
    let left : updates (y ∷ x ∷ []) ≡ y ∷ x ∷ [] = rw (w, u) refl in
    let right : updates (x ∷ y ∷ []) ≡ x ∷ y ∷ [] = rw (u, w) refl in
    let all : of_sessions (y ∷ x ∷ []) (x ∷ y ∷ []) ≡ x ∷ y ∷ [] = rw (has-x, has-y) refl in
    let both : told (y ∷ x ∷ []) ≡ told (x ∷ y ∷ []) =
    sym (ap told left) ∙ (m.updated 0 (y ∷ x ∷ []) refl ∙ (ap (λ us. told (of_sessions (y ∷ x ∷ []) us)) right ∙ ap told all)) in
    let same : told_of y ≡ told_of x = cc in
    sym same

pub takes_turns : TakesTurns
takes_turns p q r a b c i j k l m n s t u =
    merge_of history owns (shuffle_of history owns (λ session. session - 1) (record { parts = parts; total = refl }))
  where
    history : List NumberEntry
    history = entry 1 p a i s j ∷ entry 2 q b i t j ∷ entry 1 r c i u j ∷ []

    owns : List (List NumberEntry)
    owns = (entry 1 p a k s l ∷ entry 1 r c m u n ∷ []) ∷ (entry 2 q b k t l ∷ []) ∷ []

    parts : (o : ℕ) (own : List NumberEntry) → slice_get owns o ≡ Some own → told own ≡ told (filter (owned_by (λ session. session - 1) o) history)
    parts zero own at = let is : entry 1 p a k s l ∷ entry 1 r c m u n ∷ [] ≡ own = cc in ap told (sym is)
    parts (suc zero) own at = let is : entry 2 q b k t l ∷ [] ≡ own = cc in ap told (sym is)
    parts (suc (suc o)) own at = absurd (cc)
