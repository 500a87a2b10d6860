-- What the tables and the lives of a world have of its history, and what a step adds to it.
use Rattle.std.proofs.Common.{◌≡◌, ◌≢◌, ◌⊎◌, ℕ, zero, suc, ◌*◌, ◌^◌, ◌<◌, ◌==◌, ◌&&◌, Bool, true, false, cond, inl, inr, List, [], ◌∷◌, ◌++◌, map, Some, None, Result, Ok, Err, slice_get, slice_set, refl, sym, ◌∙◌, ap, length, arith, length-append}
use Rattle.std.proofs.lemmas.Bool.{cases_eq}
use Rattle.std.proofs.lemmas.Bool.Decides.{nat_tests}
use Rattle.std.specs.declared.cmp.Ordering.{Ordering}
use Rattle.fkv_functions.specs.Meanings.{Meanings}
use Rattle.fkv_functions.specs.declared.refusals.Refused.{Refused}
use Rattle.fkv_functions.specs.declared.refusals.Refused.TheVariants.{NoMemory, Unknown, NotReady, Worn}
use Rattle.fkv_device.specs.Standing.{Standing}
use Rattle.fkv_texts.specs.declared.entries.Entry.{Entry}
use Rattle.fkv_operations.specs.declared.operations.Op.{Op}
use Rattle.fkv_partition.specs.declared.limits.Config.{Config}
use Rattle.fkv_partition.specs.declared.contexts.Progress.{Progress}
use Rattle.fkv_partition.specs.declared.contexts.Progress.TheVariants.{Done, Next, NeedsBuild, NeedsLoad, Waits}
use Rattle.fkv_partition.specs.Views.{PartitionView, at_moment}
use Rattle.fkv_partition.specs.Effect.{Asked, asked, IsEvent, IsLoad, IsLoaded}
use Rattle.fkv_functions.proofs.ListLemmas.{get-set_other}
use Rattle.fkv_lives.specs.declared.lives.Life.{Life}
use Rattle.fkv_lives.specs.declared.lives.End.{End}
use Rattle.fkv_lives.specs.declared.outcomes.Outcome.{Outcome}
use Rattle.fkv_lives.specs.declared.outcomes.Outcome.TheVariants as outcome
use Rattle.fkv_lives.specs.declared.steps.Access.{Access}
use Rattle.fkv_lives.specs.declared.steps.Access.TheVariants.{Works}
use Rattle.fkv_lives.specs.declared.steps.ContextId.{ContextId}
use Rattle.fkv_lives.specs.declared.steps.Step.{Step}
use Rattle.fkv_lives.specs.declared.steps.Step.TheVariants as step
use Rattle.fkv_worlds.specs.declared.tables.Seat.{Seat}
use Rattle.fkv_lives.specs.Changes.{ended_at}
use Rattle.fkv_worlds.specs.States.{StateView, WorldView, seat_row, empty_state, empty_world}
use Rattle.fkv_lives.specs.Told.{ends_operation}
use Rattle.fkv_lives.specs.Steps.{partition_in}
use Rattle.fkv_worlds.specs.Headline.{IsHeadline}
use Rattle.fkv_worlds.specs.Sound.{IsState, HasHistory, IsRecorded}
use Rattle.fkv_worlds.specs.Worlds.{asked_in}
use Rattle.fkv_worlds.proofs.AccountLemmas.{account-acts, account-empty}
use Rattle.fkv_worlds.proofs.EmptyLemmas.{replicate-at, asked-empty}
use Rattle.fkv_worlds.proofs.HeldLemmas.{same_where}
use Rattle.fkv_worlds.proofs.ManyLemmas.{asked-here, asked-was, asked-others, asked-all}
use Rattle.fkv_worlds.proofs.RefusedLemmas.{refuses-no, spoils-no}
use Rattle.fkv_worlds.specs.Acts as acts
use Rattle.fkv_worlds.specs.Acts.{Acts, begun_life, lives_by, told}
use Rattle.fkv_lives.specs.Histories.{Event, backwards, entered_at, issued_at, moments, enters_in, session_in, issues_in, issue_of, given_at, is_same, given_in}
use Rattle.fkv_worlds.specs.Reports.{RunsTo}

-- ---- lists
append-nothing : {A : Type 0} (xs : List A) → xs ++ [] ≡ xs
append-nothing [] = refl
append-nothing (x ∷ xs) = ap (λ ys. x ∷ ys) (append-nothing xs)

append-joined : {A : Type 0} (xs : List A) (y : A) (zs : List A) → (xs ++ y ∷ []) ++ zs ≡ xs ++ (y ∷ zs)
append-joined [] y zs = refl
append-joined (x ∷ xs) y zs = ap (λ ws. x ∷ ws) (append-joined xs y zs)

get-set_here : {A : Type 0} (xs : List A) (c : ℕ) (v w : A) → slice_get (slice_set xs c v) c ≡ Some w → v ≡ w
get-set_here [] c v w h = absurd (cc)
get-set_here (x ∷ xs) zero v w h = cc
get-set_here (x ∷ xs) (suc c) v w h = get-set_here xs c v w h

map-last : {A B : Type 0} (f : A → B) (xs : List A) (y : A) → map f (xs ++ y ∷ []) ≡ map f xs ++ f y ∷ []
map-last f [] y = refl
map-last f (x ∷ xs) y = ap (λ ys. f x ∷ ys) (map-last f xs y)

-- ---- tests of two numbers
same-true : (a b : ℕ) → a ≡ b → (a == b) ≡ true
same-true a b h = grind (arith, nat_tests)

pair-false : (a b c d : ℕ) → (a ≡ b → c ≡ d → ⊥) → ((a == b) && (c == d)) ≡ false
pair-false a b c d apart = by_cases (a == b) (c == d) refl refl
  where
    by_cases : (x y : Bool) → (a == b) ≡ x → (c == d) ≡ y → (x && y) ≡ false
    by_cases true true e k = let p : a ≡ b = grind (arith, nat_tests) in let q : c ≡ d = grind (arith, nat_tests) in absurd (apart p q)
    by_cases true false e k = refl
    by_cases false y e k = refl

-- ---- the issues of lives
ended-issue_of : {K V I O : Type 0} (lives : List (Life K V I O)) (j : ℕ) (e : End O) → map issue_of (ended_at lives j e) ≡ map issue_of lives
ended-issue_of [] j e = refl
ended-issue_of (x ∷ xs) zero e = refl
ended-issue_of (x ∷ xs) (suc j) e = ap (λ ys. issue_of x ∷ ys) (ended-issue_of xs j e)

progress-issue_of : {K V I O R : Type 0} (lives : List (Life K V I O)) (j now : ℕ) (p : Progress K V I O R) → map issue_of (lives_by lives j now p) ≡ map issue_of lives
progress-issue_of lives j now (Done a effect) = ended-issue_of lives j _
progress-issue_of lives j now Next = refl
progress-issue_of lives j now (NeedsBuild ask) = refl
progress-issue_of lives j now (NeedsLoad receipt address) = refl
progress-issue_of lives j now (Waits why) = refl

-- ---- contexts
is_same-here : (w u : ContextId) → w ≡ u → is_same w (Some u) ≡ true
is_same-here w u h =
    let a : (w.partition == u.partition) ≡ true = same-true w.partition u.partition (ap (λ (z : ContextId). z.partition) h) in
    let b : (w.slot == u.slot) ≡ true = same-true w.slot u.slot (ap (λ (z : ContextId). z.slot) h) in
    let c : (w.context == u.context) ≡ true = same-true w.context u.context (ap (λ (z : ContextId). z.context) h) in
    rw (a, b, c) refl

is_same-other : (w u : ContextId) → w ≢ u → is_same w (Some u) ≡ false
is_same-other w u n = by_cases (w.partition == u.partition) (w.slot == u.slot) (w.context == u.context) refl refl refl
  where
    by_cases : (x y z : Bool) → (w.partition == u.partition) ≡ x → (w.slot == u.slot) ≡ y → (w.context == u.context) ≡ z → (x && y && z) ≡ false
    by_cases true true true a b c =
        let p : w.partition ≡ u.partition = grind (arith, nat_tests) in
        let q : w.slot ≡ u.slot = grind (arith, nat_tests) in
        let d : w.context ≡ u.context = grind (arith, nat_tests) in
        absurd (n (λ i. record { partition = p i; slot = q i; context = d i }))
    by_cases true true false a b c = refl
    by_cases true false z a b c = refl
    by_cases false y z a b c = refl

-- what the contexts ask after a step, where one partition changes, they asked before
module _ {K V I : Type 0} (views later : List (PartitionView K V I)) (p : ℕ) (old new : PartitionView K V I) (here : slice_get views p ≡ Some old) (set : later ≡ slice_set views p new) where
  asks-same : ((a d : ℕ) → asked new a d ≡ asked old a d) → (w : ContextId) (y : Asked K V I) → asked_in later w ≡ Some y → asked_in views w ≡ Some y
  asks-same same w y k = sym (asked-all views p old new here same w) ∙ ap (λ ps. asked_in ps w) (sym set) ∙ k

  asks-rest : (slot c : ℕ) → ((a d : ℕ) → (a ≢ slot) ⊎ (d ≢ c) → asked new a d ≡ asked old a d) → (w : ContextId) → w ≢ record { partition = p; slot = slot; context = c } → asked_in later w ≡ asked_in views w
  asks-rest slot c others w n = ap (λ ps. asked_in ps w) set ∙ asked-others views p old new here slot c others w n

  asks-less : (slot c : ℕ) → ((a d : ℕ) → (a ≢ slot) ⊎ (d ≢ c) → asked new a d ≡ asked old a d) → (asked new slot c ≡ None) ⊎ (asked new slot c ≡ asked old slot c)
      → (w : ContextId) (y : Asked K V I) → asked_in later w ≡ Some y → asked_in views w ≡ Some y
  asks-less slot c others one w y k = elim (same_where w (record { partition = p; slot = slot; context = c })) [
    | inr n ↦ sym (asks-rest slot c others w n) ∙ k
    | inl e ↦ (let now : asked new slot c ≡ Some y = sym (asked-here views p old new here slot c) ∙ ap (λ ps. asked_in ps (record { partition = p; slot = slot; context = c })) (sym set) ∙ ap (asked_in later) (sym e) ∙ k in
        elim one [
          | inl none ↦ (let bad : None ≡ Some y = sym none ∙ now in absurd (cc))
          | inr same ↦ ap (asked_in views) e ∙ asked-was views p old new here slot c ∙ sym same ∙ now
        ])
  ]

-- what is gone on with asks what it asked, or nothing any more
module _ {K V I O R : Type 0} (cmp : K → K → Ordering) (f : Meanings K V I O) (old new : PartitionView K V I) (slot c now : ℕ) where
  event-asks : (p : Progress K V I O R) → IsEvent cmp f old new slot c now p → (asked new slot c ≡ None) ⊎ (asked new slot c ≡ asked old slot c)
  event-asks (Done a effect) ev = inl ev.effect.0
  event-asks Next ev = inr (ev.effect.0 ∙ sym ev.was)
  event-asks (NeedsBuild ask) ev = inr (ev.effect.0 ∙ sym ev.was)
  event-asks (NeedsLoad receipt address) ev = inr (ev.effect.0 ∙ sym ev.was)
  event-asks (Waits why) ev = inr (ev.effect.0 ∙ sym ev.was)

  loaded-asks : (p : Progress K V I O R) → IsLoaded cmp f old new slot c now p → (asked new slot c ≡ None) ⊎ (asked new slot c ≡ asked old slot c)
  loaded-asks (Done a effect) ev = inl ev.effect.0
  loaded-asks Next ev = inr (ev.effect.0 ∙ sym ev.was)
  loaded-asks (NeedsBuild ask) ev = inr (ev.effect.0 ∙ sym ev.was)
  loaded-asks (NeedsLoad receipt address) ev = inr (ev.effect.0 ∙ sym ev.was)
  loaded-asks (Waits why) ev = absurd ev.effect

  load-asks : (p : Progress K V I O R) → IsLoad cmp f old new slot c now p → (asked new slot c ≡ None) ⊎ (asked new slot c ≡ asked old slot c)
  load-asks p (IsLoad.on_key ev) = loaded-asks p ev
  load-asks p (IsLoad.relocation ev finds) = event-asks p ev

  load-others : (p : Progress K V I O R) → IsLoad cmp f old new slot c now p → (a d : ℕ) → (a ≢ slot) ⊎ (d ≢ c) → asked new a d ≡ asked old a d
  load-others p (IsLoad.on_key ev) = ev.frame.others
  load-others p (IsLoad.relocation ev finds) = ev.frame.others

module _ {K V I O R : Type 0} (s : StateView K V I O R) (h : List (Event K V I O)) (history : HasHistory s h) where
  refused : (t : Step K V I) (e : Refused) → ends_operation e ≡ false → HasHistory s (record { step = t; told = Err e } ∷ h)
  refused t e quiet = record {
    moment = rw quiet history.moment;
    enters = history.enters;
    seats = history.seats;
    lives = history.lives ∙ sym (append-nothing (issues_in h));
    contexts = history.contexts;
  }

  kept-state : (new : StateView K V I O R) (t : Step K V I) (r : Result (Outcome V O) Refused) (e : Refused) → ends_operation e ≡ false → new ≡ s → r ≡ Err e → HasHistory new (record { step = t; told = r } ∷ h)
  kept-state new t r e quiet same is = rw (is, same) (refused t e quiet)

  -- a load that is refused and ends its operation
  failing : (new : StateView K V I O R) (t : Step K V I) (e : Refused) → ends_operation e ≡ true
      → new.moment ≡ suc s.moment → new.enters ≡ s.enters → new.seats ≡ s.seats → map issue_of new.lives ≡ map issue_of s.lives → ((w : ContextId) (y : Asked K V I) → asked_in new.partitions w ≡ Some y → asked_in s.partitions w ≡ Some y)
      → HasHistory new (record { step = t; told = Err e } ∷ h)
  failing new t e ends now tables seated lived asks = record {
    moment = rw ends (now ∙ ap suc history.moment);
    enters = λ p n k. history.enters p n (ap (λ xs. slice_get xs p) (sym tables) ∙ k);
    seats = λ p slot y low k. history.seats p slot y low (ap (λ xs. slice_get xs (seat_row p slot)) (sym seated) ∙ k);
    lives = lived ∙ history.lives ∙ sym (append-nothing (issues_in h));
    contexts = λ w y k. history.contexts w y (asks w y k);
  }

  -- a write that is refused and spends its page
  spoiling : (new : StateView K V I O R) (t : Step K V I) (e : Refused) → ends_operation e ≡ false
      → new.moment ≡ s.moment → new.enters ≡ s.enters → new.seats ≡ s.seats → new.lives ≡ s.lives → new.partitions ≡ s.partitions
      → HasHistory new (record { step = t; told = Err e } ∷ h)
  spoiling new t e quiet now tables seated lived stay = record {
    moment = rw quiet (now ∙ history.moment);
    enters = λ p n k. history.enters p n (ap (λ xs. slice_get xs p) (sym tables) ∙ k);
    seats = λ p slot y low k. history.seats p slot y low (ap (λ xs. slice_get xs (seat_row p slot)) (sym seated) ∙ k);
    lives = ap (map issue_of) lived ∙ history.lives ∙ sym (append-nothing (issues_in h));
    contexts = λ w y k. history.contexts w y (ap (λ ps. asked_in ps w) (sym stay) ∙ k);
  }

  -- a step by which nobody enters and nothing is issued
  quiet : (new : StateView K V I O R) (t : Step K V I) (x : Outcome V O) → entered_at (Ok x) t ≡ None → issued_at (Ok x) t ≡ None → given_at (Ok x) t ≡ None
      → new.moment ≡ suc s.moment → new.enters ≡ s.enters → new.seats ≡ s.seats → map issue_of new.lives ≡ map issue_of s.lives → ((w : ContextId) (y : Asked K V I) → asked_in new.partitions w ≡ Some y → asked_in s.partitions w ≡ Some y)
      → HasHistory new (record { step = t; told = Ok x } ∷ h)
  quiet new t x nobody nothing ungiven now tables seated lived asks = record {
    moment = now ∙ ap suc history.moment;
    enters = λ p n k. rw nobody (history.enters p n (ap (λ xs. slice_get xs p) (sym tables) ∙ k));
    seats = λ p slot y low k. rw nobody (history.seats p slot y low (ap (λ xs. slice_get xs (seat_row p slot)) (sym seated) ∙ k));
    lives = rw nothing (lived ∙ history.lives ∙ sym (append-nothing (issues_in h)));
    contexts = λ w y k. rw ungiven (history.contexts w y (asks w y k));
  }

  -- a session enters
  entering : (new : StateView K V I O R) (p slot n : ℕ) → slot < 16 → slice_get s.enters p ≡ Some n → new.moment ≡ suc s.moment → new.enters ≡ slice_set s.enters p (suc n)
      → new.seats ≡ slice_set s.seats (seat_row p slot) (record { session = suc n; issues = 0 }) → new.lives ≡ s.lives → ((w : ContextId) (y : Asked K V I) → asked_in new.partitions w ≡ Some y → asked_in s.partitions w ≡ Some y)
      → HasHistory new (record { step = step.Enter p; told = Ok (outcome.Entered slot) } ∷ h)
  entering new p slot n low count now tables seated lived asks = record {
    moment = now ∙ ap suc history.moment;
    enters = λ q m k. counted q m (ap (λ xs. slice_get xs q) (sym tables) ∙ k);
    seats = λ q t x within k. sitting q t x within (ap (λ xs. slice_get xs (seat_row q t)) (sym seated) ∙ k);
    lives = ap (map issue_of) lived ∙ history.lives ∙ sym (append-nothing (issues_in h));
    contexts = λ w y k. history.contexts w y (asks w y k);
  }
    where
      counted : (q m : ℕ) → slice_get (slice_set s.enters p (suc n)) q ≡ Some m → m ≡ cond (p == q) (suc (enters_in q h)) (enters_in q h)
      counted q m k = elim (cases_eq q p) [
        | inl e ↦ (let at : slice_get (slice_set s.enters p (suc n)) p ≡ Some m = ap (slice_get (slice_set s.enters p (suc n))) (sym e) ∙ k in
            let one : suc n ≡ m = get-set_here s.enters p (suc n) m at in
            let all : n ≡ enters_in p h = history.enters p n count in
            rw (same-true p q (sym e)) (sym one ∙ ap suc all ∙ ap (λ x. suc (enters_in x h)) (sym e)))
        | inr a ↦ (let other : (p == q) ≡ false = grind (arith, nat_tests) in
            rw other (history.enters q m (sym (get-set_other s.enters p q (suc n) a) ∙ k)))
      ]

      sitting : (q t : ℕ) (x : Seat) → t < 16 → slice_get (slice_set s.seats (seat_row p slot) (record { session = suc n; issues = 0 })) (seat_row q t) ≡ Some x
          → x.session ≡ cond ((p == q) && (slot == t)) (suc (enters_in q h)) (session_in q t h)
      sitting q t x within k = elim (cases_eq (seat_row q t) (seat_row p slot)) [
        | inl e ↦ (let a : q ≡ p = omega arith in let b : t ≡ slot = omega arith in
            let at : slice_get (slice_set s.seats (seat_row p slot) (record { session = suc n; issues = 0 })) (seat_row p slot) ≡ Some x = ap (slice_get (slice_set s.seats (seat_row p slot) (record { session = suc n; issues = 0 }))) (sym e) ∙ k in
            let one : suc n ≡ x.session = ap (λ (z : Seat). z.session) (get-set_here s.seats (seat_row p slot) _ x at) in
            rw (same-true p q (sym a), same-true slot t (sym b)) (sym one ∙ ap suc (history.enters p n count) ∙ ap (λ z. suc (enters_in z h)) (sym a)))
        | inr a ↦ rw (pair-false p q slot t (λ c d. a (omega arith))) (history.seats q t x within (sym (get-set_other s.seats (seat_row p slot) (seat_row q t) _ a) ∙ k))
      ]

  -- an operation is issued
  issuing : (new : StateView K V I O R) (p slot c : ℕ) (op : Op K V I) (seat after : Seat) → slot < 16 → slice_get s.seats (seat_row p slot) ≡ Some seat → after.session ≡ seat.session
      → new.moment ≡ suc s.moment → new.enters ≡ s.enters → new.seats ≡ slice_set s.seats (seat_row p slot) after
      → new.lives ≡ s.lives ++ begun_life p seat op (suc s.moment) ∷ []
      → asked_in new.partitions (record { partition = p; slot = slot; context = c }) ≡ Some (record { number = suc s.moment; op = op })
      → ((w : ContextId) → w ≢ record { partition = p; slot = slot; context = c } → asked_in new.partitions w ≡ asked_in s.partitions w)
      → HasHistory new (record { step = step.Issue p slot op; told = Ok (outcome.Issued c) } ∷ h)
  issuing new p slot c op seat after low at keeps now tables seated lived opened elsewhere = record {
    moment = now ∙ ap suc history.moment;
    enters = λ q m k. history.enters q m (ap (λ xs. slice_get xs q) (sym tables) ∙ k);
    seats = λ q t x within k. sitting q t x within (ap (λ xs. slice_get xs (seat_row q t)) (sym seated) ∙ k);
    lives = ap (map issue_of) lived ∙ map-last issue_of s.lives (begun_life p seat op (suc s.moment)) ∙ ap (λ xs. xs ++ issue_of (begun_life {O = O} p seat op (suc s.moment)) ∷ []) history.lives
        ∙ ap (λ z. issues_in h ++ record { partition = p; session = z; op = op; issue = suc s.moment } ∷ []) (history.seats p slot seat low at)
        ∙ ap (λ z. issues_in h ++ record { partition = p; session = session_in p slot h; op = op; issue = suc z } ∷ []) history.moment;
    contexts = given;
  }
    where
      given : (w : ContextId) (y : Asked K V I) → asked_in new.partitions w ≡ Some y → cond (is_same w (Some (record { partition = p; slot = slot; context = c }))) (suc (moments h)) (given_in w h) ≡ y.number
      given w y k = elim (same_where w (record { partition = p; slot = slot; context = c })) [
        | inl e ↦ (let one : Some (record { number = suc s.moment; op = op }) ≡ Some y = sym opened ∙ ap (asked_in new.partitions) (sym e) ∙ k in
            let same : record { number = suc s.moment; op = op } ≡ y = cc in
            rw (is_same-here w (record { partition = p; slot = slot; context = c }) e) (ap suc (sym history.moment) ∙ ap (λ (z : Asked K V I). z.number) same))
        | inr n ↦ rw (is_same-other w (record { partition = p; slot = slot; context = c }) n) (history.contexts w y (sym (elsewhere w n) ∙ k))
      ]

      sitting : (q t : ℕ) (x : Seat) → t < 16 → slice_get (slice_set s.seats (seat_row p slot) after) (seat_row q t) ≡ Some x → x.session ≡ session_in q t h
      sitting q t x within k = elim (cases_eq (seat_row q t) (seat_row p slot)) [
        | inl e ↦ (let a : q ≡ p = omega arith in let b : t ≡ slot = omega arith in
            let there : slice_get (slice_set s.seats (seat_row p slot) after) (seat_row p slot) ≡ Some x = ap (slice_get (slice_set s.seats (seat_row p slot) after)) (sym e) ∙ k in
            let one : after.session ≡ x.session = ap (λ (z : Seat). z.session) (get-set_here s.seats (seat_row p slot) after x there) in
            sym one ∙ keeps ∙ history.seats p slot seat low at ∙ ap (λ z. session_in z slot h) (sym a) ∙ ap (λ z. session_in q z h) (sym b))
        | inr a ↦ history.seats q t x within (sym (get-set_other s.seats (seat_row p slot) (seat_row q t) after a) ∙ k)
      ]

-- ---- each step adds itself
module _ {K V I O R : Type 0} (stands : R → Standing) (entry : ℕ → List ℕ → ℕ → Entry K V → Type 0) (cmp : K → K → Ordering) (join : V → V → V) (f : Meanings K V I O) (code : K → ℕ) (s : StateView K V I O R) (h : List (Event K V I O)) (history : HasHistory s h) where
  progressing : (new : StateView K V I O R) (t : Step K V I) (r : Result (Outcome V O) Refused) (j : ℕ) (p : Progress K V I O R)
      → entered_at (Ok (told p)) t ≡ None → issued_at (Ok (told p)) t ≡ None → given_at (Ok (told p)) t ≡ None
      → new.moment ≡ suc s.moment → new.enters ≡ s.enters → new.seats ≡ s.seats → new.lives ≡ lives_by s.lives j (suc s.moment) p → ((w : ContextId) (y : Asked K V I) → asked_in new.partitions w ≡ Some y → asked_in s.partitions w ≡ Some y) → r ≡ Ok (told p)
      → HasHistory new (record { step = t; told = r } ∷ h)
  progressing new t r j p nobody nothing ungiven now tables seated lived asks is =
      rw is (quiet s h history new t (told p) nobody nothing ungiven now tables seated (ap (map issue_of) lived ∙ progress-issue_of s.lives j (suc s.moment) p) asks)

  none_given : (p : Progress K V I O R) (t : Step K V I) → given_at (Ok (told p)) t ≡ None
  none_given (Done x effect) t = refl
  none_given Next t = refl
  none_given (NeedsBuild ask) t = refl
  none_given (NeedsLoad receipt address) t = refl
  none_given (Waits why) t = refl

  here-at : (p : ℕ) (v : PartitionView K V I) (t u : Step K V I) → t ≡ u → partition_in u ≡ p → slice_get s.partitions (partition_in t) ≡ Some v → slice_get s.partitions p ≡ Some v
  here-at p v t u a at k = ap (slice_get s.partitions) (sym at ∙ ap partition_in (sym a)) ∙ k

  -- a step that changes no question of its partition
  calm : (new : StateView K V I O R) (p : ℕ) (v v' : PartitionView K V I) (t : Step K V I) (x : Outcome V O) → slice_get s.partitions p ≡ Some v → ((a d : ℕ) → asked v' a d ≡ asked v a d)
      → entered_at (Ok x) t ≡ None → issued_at (Ok x) t ≡ None → given_at (Ok x) t ≡ None
      → new.partitions ≡ slice_set s.partitions p v' → new.moment ≡ suc s.moment → new.enters ≡ s.enters → new.seats ≡ s.seats → new.lives ≡ s.lives
      → HasHistory new (record { step = t; told = Ok x } ∷ h)
  calm new p v v' t x here same nobody nothing ungiven set now tables seated lived =
      quiet s h history new t x nobody nothing ungiven now tables seated (ap (map issue_of) lived) (asks-same s.partitions new.partitions p v v' here set same)

  nobody_goes : (p : Progress K V I O R) (w : ContextId) → entered_at {K = K} {I = I} (Ok (told p)) (step.Go w) ≡ None
  nobody_goes (Done x effect) w = refl
  nobody_goes Next w = refl
  nobody_goes (NeedsBuild ask) w = refl
  nobody_goes (NeedsLoad receipt address) w = refl
  nobody_goes (Waits why) w = refl

  nobody_installs : (p : Progress K V I O R) (w : ContextId) → entered_at {K = K} {I = I} (Ok (told p)) (step.Install w) ≡ None
  nobody_installs (Done x effect) w = refl
  nobody_installs Next w = refl
  nobody_installs (NeedsBuild ask) w = refl
  nobody_installs (NeedsLoad receipt address) w = refl
  nobody_installs (Waits why) w = refl

  nobody_loads : (p : Progress K V I O R) (w : ContextId) (access : Access) → entered_at {K = K} {I = I} (Ok (told p)) (step.Load w access) ≡ None
  nobody_loads (Done x effect) w access = refl
  nobody_loads Next w access = refl
  nobody_loads (NeedsBuild ask) w access = refl
  nobody_loads (NeedsLoad receipt address) w access = refl
  nobody_loads (Waits why) w access = refl

  pub history-acts : (new : StateView K V I O R) (t : Step K V I) (r : Result (Outcome V O) Refused) → Acts stands entry cmp join f code s new t r → HasHistory new (record { step = t; told = r } ∷ h)
  history-acts new t r (acts.no_partition a same is) = kept-state s h history new t r Unknown refl same is
  history-acts new t r (acts.uninstalled w v a b c d same is) = kept-state s h history new t r NotReady refl same is
  history-acts new t r (acts.unloaded w access v a b c m d same is) = kept-state s h history new t r NotReady refl same is
  history-acts new t r (acts.unknown w v a b c m d same is) = kept-state s h history new t r Unknown refl same is
  history-acts new t r (acts.no_flush_job p access a b c same is) = kept-state s h history new t r NotReady refl same is
  history-acts new t r (acts.worn a b c same is) = kept-state s h history new t r Worn refl same is
  history-acts new t r (acts.no_memory_for_life p slot op v a b same is) = kept-state s h history new t r NoMemory refl same is
  history-acts new t r (acts.refuses v e due refused_by same is) = kept-state s h history new t r e (refuses-no stands entry cmp join f code s v (suc s.moment) e t refused_by) same is
  history-acts new t r (acts.enters p slot n v v' a b c d low count to is) =
      rw (a, is) (entering s h history new p slot n low count (ap (λ (z : StateView K V I O R). z.moment) to) (ap (λ (z : StateView K V I O R). z.enters) to) (ap (λ (z : StateView K V I O R). z.seats) to) (ap (λ (z : StateView K V I O R). z.lives) to) (asks-same s.partitions new.partitions p v v' (here-at p v t (step.Enter p) a refl b.here) (ap (λ (z : StateView K V I O R). z.partitions) to) d.same))
  history-acts new t r (acts.leaves p slot v v' a b c ev to is) =
      rw (a, is) (calm new p v v' (step.Leave p slot) (outcome.Left) (here-at p v t (step.Leave p slot) a refl b.here) ev.same refl refl refl (ap (λ (z : StateView K V I O R). z.partitions) to) (ap (λ (z : StateView K V I O R). z.moment) to) (ap (λ (z : StateView K V I O R). z.enters) to) (ap (λ (z : StateView K V I O R). z.seats) to) (ap (λ (z : StateView K V I O R). z.lives) to))
  history-acts new t r (acts.refreshes p slot v v' a b c ev to is) =
      rw (a, is) (calm new p v v' (step.Refresh p slot) (outcome.Refreshed) (here-at p v t (step.Refresh p slot) a refl b.here) ev.same refl refl refl (ap (λ (z : StateView K V I O R). z.partitions) to) (ap (λ (z : StateView K V I O R). z.moment) to) (ap (λ (z : StateView K V I O R). z.enters) to) (ap (λ (z : StateView K V I O R). z.seats) to) (ap (λ (z : StateView K V I O R). z.lives) to))
  history-acts new t r (acts.shifts p page v v' a b c ev to is) =
      rw (a, is) (calm new p v v' (step.ReadOnly p page) (outcome.Shifted) (here-at p v t (step.ReadOnly p page) a refl b.here) ev.same refl refl refl (ap (λ (z : StateView K V I O R). z.partitions) to) (ap (λ (z : StateView K V I O R). z.moment) to) (ap (λ (z : StateView K V I O R). z.enters) to) (ap (λ (z : StateView K V I O R). z.seats) to) (ap (λ (z : StateView K V I O R). z.lives) to))
  history-acts new t r (acts.evicts p page v v' a b c ev to is) =
      rw (a, is) (calm new p v v' (step.Head p page) (outcome.Shifted) (here-at p v t (step.Head p page) a refl b.here) ev.same refl refl refl (ap (λ (z : StateView K V I O R). z.partitions) to) (ap (λ (z : StateView K V I O R). z.moment) to) (ap (λ (z : StateView K V I O R). z.enters) to) (ap (λ (z : StateView K V I O R). z.seats) to) (ap (λ (z : StateView K V I O R). z.lives) to))
  history-acts new t r (acts.takes p v job a due page bytes to is) =
      rw (a, is) (calm new p v (at_moment v (suc s.moment)) (step.Take p) (outcome.Taken job.page) (here-at p v t (step.Take p) a refl due.here) (λ a d. refl) refl refl refl (ap (λ (z : StateView K V I O R). z.partitions) to) (ap (λ (z : StateView K V I O R). z.moment) to) (ap (λ (z : StateView K V I O R). z.enters) to) (ap (λ (z : StateView K V I O R). z.seats) to) (ap (λ (z : StateView K V I O R). z.lives) to))
  history-acts new t r (acts.spoils p access v job e a due has spoiled to is) =
      rw is (spoiling s h history new t e (spoils-no v (suc s.moment) job access e spoiled) (ap (λ (z : StateView K V I O R). z.moment) to) (ap (λ (z : StateView K V I O R). z.enters) to) (ap (λ (z : StateView K V I O R). z.seats) to) (ap (λ (z : StateView K V I O R). z.lives) to) (ap (λ (z : StateView K V I O R). z.partitions) to))
  history-acts new t r (acts.writes p v v' job a due has does ev to is) =
      rw (a, is) (calm new p v v' (step.Write p Works) (outcome.Flushed job.page) (here-at p v t (step.Write p Works) a refl due.here) ev.same refl refl refl (ap (λ (z : StateView K V I O R). z.partitions) to) (ap (λ (z : StateView K V I O R). z.moment) to) (ap (λ (z : StateView K V I O R). z.enters) to) (ap (λ (z : StateView K V I O R). z.seats) to) (ap (λ (z : StateView K V I O R). z.lives) to))
  history-acts new t r (acts.gives_up w v v' a due c ev to is) =
      rw (a, is) (quiet s h history new (step.GiveUp w) (outcome.GivenUp) refl refl refl (ap (λ (z : StateView K V I O R). z.moment) to) (ap (λ (z : StateView K V I O R). z.enters) to) (ap (λ (z : StateView K V I O R). z.seats) to) (ap (λ (z : StateView K V I O R). map issue_of z.lives) to ∙ ended-issue_of s.lives _ _)
      (asks-less s.partitions new.partitions w.partition v v' (here-at w.partition v t (step.GiveUp w) a refl due.here) (ap (λ (z : StateView K V I O R). z.partitions) to) w.slot w.context ev.frame.others (inl ev.closed)))
  history-acts new t r (acts.fails w access v v' receipt came e a due has comes does ends ev to is) =
      rw is (failing s h history new t e ends (ap (λ (z : StateView K V I O R). z.moment) to) (ap (λ (z : StateView K V I O R). z.enters) to) (ap (λ (z : StateView K V I O R). z.seats) to) (ap (λ (z : StateView K V I O R). map issue_of z.lives) to ∙ ended-issue_of s.lives _ _)
      (asks-less s.partitions new.partitions w.partition v v' (here-at w.partition v t (step.Load w access) a refl due.here) (ap (λ (z : StateView K V I O R). z.partitions) to) w.slot w.context ev.frame.others (inl ev.closed)))
  history-acts new t r (acts.issues p slot c op v v' seat a b d ev low at to is) =
      let here = here-at p v t (step.Issue p slot op) a refl b.here in
      rw (a, is) (issuing s h history new p slot c op seat _ low at refl (ap (λ (z : StateView K V I O R). z.moment) to) (ap (λ (z : StateView K V I O R). z.enters) to) (ap (λ (z : StateView K V I O R). z.seats) to) (ap (λ (z : StateView K V I O R). z.lives) to)
      (ap (λ (z : StateView K V I O R). asked_in z.partitions (record { partition = p; slot = slot; context = c })) to ∙ asked-here s.partitions p v v' here slot c ∙ ev.opened)
      (asks-rest s.partitions new.partitions p v v' here (ap (λ (z : StateView K V I O R). z.partitions) to) slot c ev.frame.others))
  history-acts new t r (acts.goes w v v' p a due c ev to is) =
      rw a (progressing new (step.Go w) r _ p (nobody_goes p w) refl (none_given p (step.Go w)) (ap (λ (z : StateView K V I O R). z.moment) to) (ap (λ (z : StateView K V I O R). z.enters) to) (ap (λ (z : StateView K V I O R). z.seats) to) (ap (λ (z : StateView K V I O R). z.lives) to)
      (asks-less s.partitions new.partitions w.partition v v' (here-at w.partition v t (step.Go w) a refl due.here) (ap (λ (z : StateView K V I O R). z.partitions) to) w.slot w.context ev.frame.others (event-asks cmp f v v' w.slot w.context (suc s.moment) p ev)) is)
  history-acts new t r (acts.installs w v v' ask p a due c d ev to is) =
      rw a (progressing new (step.Install w) r _ p (nobody_installs p w) refl (none_given p (step.Install w)) (ap (λ (z : StateView K V I O R). z.moment) to) (ap (λ (z : StateView K V I O R). z.enters) to) (ap (λ (z : StateView K V I O R). z.seats) to) (ap (λ (z : StateView K V I O R). z.lives) to)
      (asks-less s.partitions new.partitions w.partition v v' (here-at w.partition v t (step.Install w) a refl due.here) (ap (λ (z : StateView K V I O R). z.partitions) to) w.slot w.context ev.frame.others (event-asks cmp f v v' w.slot w.context (suc s.moment) p ev)) is)
  history-acts new t r (acts.loads w access v v' receipt came p a due has comes does ev to is) =
      rw a (progressing new (step.Load w access) r _ p (nobody_loads p w access) refl (none_given p (step.Load w access)) (ap (λ (z : StateView K V I O R). z.moment) to) (ap (λ (z : StateView K V I O R). z.enters) to) (ap (λ (z : StateView K V I O R). z.seats) to) (ap (λ (z : StateView K V I O R). z.lives) to)
      (asks-less s.partitions new.partitions w.partition v v' (here-at w.partition v t (step.Load w access) a refl due.here) (ap (λ (z : StateView K V I O R). z.partitions) to) w.slot w.context (load-others cmp f v v' w.slot w.context (suc s.moment) p ev) (load-asks cmp f v v' w.slot w.context (suc s.moment) p ev)) is)
  history-acts new t r (acts.truncates p v v' a due does ev to is) =
      rw (a, is) (calm new p v v' (step.Truncate p) (outcome.Truncated v'.records.log.begin) (here-at p v t (step.Truncate p) a refl due.here) ev.same refl refl refl (ap (λ (z : StateView K V I O R). z.partitions) to) (ap (λ (z : StateView K V I O R). z.moment) to) (ap (λ (z : StateView K V I O R). z.enters) to) (ap (λ (z : StateView K V I O R). z.seats) to) (ap (λ (z : StateView K V I O R). z.lives) to))

-- ---- steps in turn
-- the steps and outcomes with one more
backwards-more : {K V I O : Type 0} (ss : List (Step K V I)) (rs : List (Result (Outcome V O) Refused)) (t : Step K V I) (r : Result (Outcome V O) Refused) (h : List (Event K V I O)) → length ss ≡ length rs
    → backwards (ss ++ t ∷ []) (rs ++ r ∷ []) h ≡ record { step = t; told = r } ∷ backwards ss rs h
backwards-more [] [] t r h e = refl
backwards-more [] (x ∷ rs) t r h e = absurd (omega arith)
backwards-more (s ∷ ss) [] t r h e = absurd (omega arith)
backwards-more (s ∷ ss) (x ∷ rs) t r h e = backwards-more ss rs t r (record { step = s; told = x } ∷ h) (omega arith)

-- a step that is kept with its outcome
pub recorded-acts : {K V I O R : Type 0} (stands : R → Standing) (entry : ℕ → List ℕ → ℕ → Entry K V → Type 0) (cmp : K → K → Ordering) (join : V → V → V) (f : Meanings K V I O) (code : K → ℕ) (s new : StateView K V I O R) (ss : List (Step K V I)) (rs : List (Result (Outcome V O) Refused)) (t : Step K V I) (r : Result (Outcome V O) Refused)
    → IsState cmp f code s → IsRecorded s ss rs → Acts stands entry cmp join f code s new t r → IsRecorded new (ss ++ t ∷ []) (rs ++ r ∷ [])
recorded-acts stands entry cmp join f code s new ss rs t r state before acts =
    let a = length-append ss (t ∷ []) in
    let b = length-append rs (r ∷ []) in
    let even = before.paired in
    let more = backwards-more ss rs t r [] before.paired in
    record {
      paired = omega arith;
      history = rw more (history-acts stands entry cmp join f code s (backwards ss rs []) before.history new t r acts);
      account = rw more (account-acts stands entry cmp join f code s state rs (backwards ss rs []) before.history before.account new t r acts);
    }

-- a world before its first step
history-empty : {K V I O R : Type 0} (merges : Bool) (config : Config) (size : ℕ) → HasHistory {K = K} {V = V} {I = I} {O = O} {R = R} (empty_state merges config size) []
history-empty merges config size = record {
  moment = refl;
  enters = λ p n k. replicate-at (2 ^ config.partition_bits) 0 n p k;
  seats = λ p slot x low k. ap (λ (z : Seat). z.session) (replicate-at (2 ^ config.partition_bits * 16) (record { session = 0; issues = 0 }) x (seat_row p slot) k);
  lives = refl;
  contexts = λ w x k. absurd (asked-empty merges config size (2 ^ config.partition_bits) w x k);
}

pub recorded-begun : {K V I O R : Type 0} (merges : Bool) (config : Config) (size : ℕ) (s : StateView K V I O R) (ss : List (Step K V I)) (os : List (Result (Outcome V O) Refused)) → s ≡ empty_state merges config size → ss ≡ [] → os ≡ [] → IsRecorded s ss os
recorded-begun merges config size s ss os a b c = rw (a, b, c) (record { paired = refl; history = history-empty merges config size; account = account-empty })

-- the steps of a world that steps lead to from nothing are these
steps-run : {K V I O R : Type 0} (stands : R → Standing) (entry : ℕ → List ℕ → ℕ → Entry K V → Type 0) (cmp : K → K → Ordering) (join : V → V → V) (f : Meanings K V I O) (code : K → ℕ) (v w : WorldView K V I O R) (ss : List (Step K V I)) → RunsTo stands entry cmp join f code v ss w → w.steps ≡ v.steps ++ ss
steps-run stands entry cmp join f code v w [] run = ap (λ (z : WorldView _ _ _ _ _). z.steps) run ∙ sym (append-nothing v.steps)
steps-run stands entry cmp join f code v w (s ∷ ss) run =
    steps-run stands entry cmp join f code run.0 w ss run.3 ∙ ap (λ xs. xs ++ ss) run.2.steps ∙ append-joined v.steps s ss

-- so its lives are those of their accepted issues
pub issued-runs : {K V I O R : Type 0} (stands : R → Standing) (entry : ℕ → List ℕ → ℕ → Entry K V → Type 0) (cmp : K → K → Ordering) (join : V → V → V) (f : Meanings K V I O) (code : K → ℕ) (merges : Bool) (config : Config) (size : ℕ) (w : WorldView K V I O R) (ss : List (Step K V I))
    → RunsTo stands entry cmp join f code (empty_world merges config size) ss w → IsHeadline cmp f code w → map issue_of w.state.lives ≡ issues_in (backwards ss w.outcomes [])
issued-runs stands entry cmp join f code merges config size w ss run headline =
    headline.issued ∙ ap (λ xs. issues_in (backwards xs w.outcomes [])) (steps-run stands entry cmp join f code (empty_world merges config size) w ss run)
