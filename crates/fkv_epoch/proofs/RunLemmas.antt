-- Any list of calls.
use Rattle.std.proofs.Common.{◌≡◌, ◌<◌, ◌≤◌, ◌↔◌, ℕ, zero, suc, Bool, true, false, List, [], ◌∷◌, ◌++◌, ◌⊎◌, inl, inr, refl, sym, ◌∙◌, ap, arith, subst, append_assoc}
use Rattle.std.proofs.lemmas.List.{append-nil}
use Rattle.std.proofs.lemmas.List.Elements.{All-nil, All-cons, All-weaker, All-contains, Contains-append_left, Contains-append_right, Contains-append_cases}
use Rattle.std.proofs.lemmas.List.Kept.{AllPairs-cons}
use Rattle.std.specs.List.{All, Contains, fold}
use Rattle.fkv_epoch.specs.declared.actions.Waiting.{Waiting}
use Rattle.fkv_epoch.specs.declared.calls.Call.{Call}
use Rattle.fkv_epoch.specs.EpochState.{EpochState}
use Rattle.fkv_epoch.specs.SafeEpoch.{IsSafeEpoch, is_safe_epoch}
use Rattle.fkv_epoch.specs.Moves.{fresh}
use Rattle.fkv_epoch.specs.Timely.{IsRising, IsTimely}
use Rattle.fkv_epoch.specs.Calls.{lets_out, after, let_out, put_in}
use Rattle.fkv_epoch.specs.Runs.{state_after, out_at, in_at, lets_out_at, all_out, all_in, IsFirstSafe, IsOnceInOrder}
use Rattle.fkv_functions.proofs.ListLemmas.{none-inside, one-inside}
use Rattle.fkv_epoch.proofs.SafeLemmas.{safe-fact, safe-test}
use Rattle.fkv_epoch.proofs.StepLemmas.{IsStep, step}
use Rattle.fkv_epoch.proofs.TimelyLemmas.{timely-fresh}

-- over one step

-- what a step lets out waited before, or is put in by it, and what waits after it too
before : {lets : Bool} {s t : EpochState} {out put : List Waiting} → IsStep lets s t out put → (w : Waiting) → Contains (out ++ t.waiting) w → Contains (s.waiting ++ put) w
before st w h = subst (λ xs. Contains xs w) st.order h

-- it comes out, or waits on
parts : {lets : Bool} {s t : EpochState} {out put : List Waiting} → IsStep lets s t out put → (w : Waiting) → Contains (s.waiting ++ put) w → Contains out w ⊎ Contains t.waiting w
parts {t = t} {out = out} st w h = Contains-append_cases out t.waiting w (subst (λ xs. Contains xs w) (sym st.order) h)

-- what is put in stands beside the current epoch
current : {lets : Bool} {s t : EpochState} {out put : List Waiting} → IsStep lets s t out put → (w : Waiting) → Contains put w → (w.epoch ≡ s.epoch) × (s.epoch < t.epoch)
current {s = s} {t = t} {put = put} st w h = by st.alone
  where
    by : (put ≡ []) ⊎ ((v : Waiting) × (put ≡ v ∷ []) × (v.epoch ≡ s.epoch) × (s.epoch < t.epoch)) → (w.epoch ≡ s.epoch) × (s.epoch < t.epoch)
    by (inl e) = absurd (none-inside w (subst (λ xs. Contains xs w) e h))
    by (inr (v, e, f, l)) = let same = one-inside v w (subst (λ xs. Contains xs w) e h) in (ap (λ u. u.epoch) (sym same) ∙ f, l)

-- so all of it stands beside epochs below the next state's
below : {lets : Bool} {s t : EpochState} {out put : List Waiting} → IsTimely s → IsStep lets s t out put → (w : Waiting) → Contains (s.waiting ++ put) w → w.epoch < t.epoch
below {s = s} {t = t} {put = put} h st w x = by (Contains-append_cases s.waiting put w x)
  where
    by : Contains s.waiting w ⊎ Contains put w → w.epoch < t.epoch
    by (inl y) = let past = All-contains (λ v. v.epoch < s.epoch) s.waiting w h.ordered.past y in let later = st.later in omega arith
    by (inr y) = let new = current st w y in omega arith

-- what waits is not safe
unsafe : (s : EpochState) → IsTimely s → (w : Waiting) → Contains s.waiting w → IsSafeEpoch s.slots w.epoch → ⊥
unsafe s h w x safe =
    let no = All-contains (λ v. is_safe_epoch s.slots v.epoch ≡ false) s.waiting w h.held x in
    let yes = safe-test s.slots w.epoch safe in
    cc

-- a step that lets something out is one of those that may
opens : (lets : Bool) {s t : EpochState} {out put : List Waiting} → IsStep lets s t out put → (w : Waiting) → Contains out w → lets ≡ true
opens true st w x = refl
opens false st w x = absurd (none-inside w (subst (λ xs. Contains xs w) (st.closed refl) x))

-- what comes out is safe then
safe-out : {lets : Bool} {s t : EpochState} {out put : List Waiting} → IsStep lets s t out put → (w : Waiting) → Contains out w → IsSafeEpoch t.slots w.epoch
safe-out {t = t} {out = out} st w x = safe-fact t.slots w.epoch (All-contains (λ v. is_safe_epoch t.slots v.epoch ≡ true) out w st.safe x)

-- over a list of calls

-- what came out and what waits on is what waited and what was put in
pub out-in : (s : EpochState) (calls : List Call) → IsTimely s → all_out s calls ++ (fold after s calls).waiting ≡ s.waiting ++ all_in s calls
out-in s [] h = sym (append-nil s.waiting)
out-in s (call ∷ calls) h =
    let st = step s call h in
    let t : EpochState = after s call in
    append_assoc (let_out s call) (all_out t calls) (fold after t calls).waiting
    ∙ ap (λ xs. let_out s call ++ xs) (out-in t calls st.timely)
    ∙ sym (append_assoc (let_out s call) t.waiting (all_in t calls))
    ∙ ap (λ xs. xs ++ all_in t calls) st.order
    ∙ append_assoc s.waiting (put_in s call) (all_in t calls)

-- what is put in rises from the current epoch on
rising-step : (c d : ℕ) (put rest : List Waiting) → c ≤ d → (put ≡ []) ⊎ ((v : Waiting) × (put ≡ v ∷ []) × (v.epoch ≡ c) × (c < d))
    → IsRising rest → All (λ w. d ≤ w.epoch) rest → IsRising (put ++ rest) × All (λ w. c ≤ w.epoch) (put ++ rest)
rising-step c d put rest l (inl e) rising from =
    rw e (rising, All-weaker (λ (w : Waiting). d ≤ w.epoch) (λ (w : Waiting). c ≤ w.epoch) (λ w k. omega arith) rest from)
rising-step c d put rest l (inr (v, e, f, k)) rising from =
    let above : All (λ w. v.epoch < w.epoch) rest = All-weaker (λ (w : Waiting). d ≤ w.epoch) (λ (w : Waiting). v.epoch < w.epoch) (λ w m. omega arith) rest from in
    let upper : All (λ w. c ≤ w.epoch) rest = All-weaker (λ (w : Waiting). d ≤ w.epoch) (λ (w : Waiting). c ≤ w.epoch) (λ w m. omega arith) rest from in
    rw e (AllPairs-cons (λ (x y : Waiting). x.epoch < y.epoch) v rest above rising, All-cons (λ (w : Waiting). c ≤ w.epoch) v rest (omega arith) upper)

pub rising-in : (s : EpochState) (calls : List Call) → IsTimely s → IsRising (all_in s calls) × All (λ w. s.epoch ≤ w.epoch) (all_in s calls)
rising-in s [] h = (λ i j d l m. absurd (omega arith), All-nil (λ (w : Waiting). s.epoch ≤ w.epoch))
rising-in s (call ∷ calls) h =
    let st = step s call h in
    let rest = rising-in (after s call) calls st.timely in
    rising-step s.epoch (after s call).epoch (put_in s call) (all_in (after s call) calls) st.later st.alone rest.0 rest.1

-- what comes out waited at the start or is put in on the way
from-out : (calls : List Call) (s : EpochState) (k : ℕ) (w : Waiting) → IsTimely s → Contains (out_at s calls k) w → Contains s.waiting w ⊎ (s.epoch ≤ w.epoch)
from-out [] s k w h x = absurd (none-inside w x)
from-out (call ∷ calls) s zero w h x =
    let st = step s call h in
    elim (Contains-append_cases s.waiting (put_in s call) w (before st w (Contains-append_left (let_out s call) (after s call).waiting w x)))
    [ inl y ↦ inl y | inr y ↦ inr (let new = current st w y in omega arith) ]
from-out (call ∷ calls) s (suc k) w h x =
    let st = step s call h in
    let later = st.later in
    elim (from-out calls (after s call) k w st.timely x) [
      | inl y ↦ elim (Contains-append_cases s.waiting (put_in s call) w (before st w (Contains-append_right (let_out s call) (after s call).waiting w y)))
          [ inl z ↦ inl z | inr z ↦ inr (let new = current st w z in omega arith) ]
      | inr y ↦ inr (omega arith)
    ]

-- what is put in stands beside the current epoch or a later one
late : (calls : List Call) (s : EpochState) (b : ℕ) (w : Waiting) → IsTimely s → Contains (in_at s calls b) w → s.epoch ≤ w.epoch
late [] s b w h x = absurd (none-inside w x)
late (call ∷ calls) s zero w h x = let new = current (step s call h) w x in omega arith
late (call ∷ calls) s (suc b) w h x =
    let st = step s call h in
    let more = late calls (after s call) b w st.timely x in
    let later = st.later in
    omega arith

-- one call more in front
shifted : (s : EpochState) (call : Call) (calls : List Call) (b k c : ℕ) → IsFirstSafe (after s call) calls b k c → IsFirstSafe s (call ∷ calls) (suc b) (suc k) c
shifted s call calls b k c f = record { from = let l = f.from in omega arith; call = f.call; safe = f.safe; first = first }
  where
    first : (j : ℕ) → suc b ≤ j → j < suc k → lets_out_at (call ∷ calls) j ≡ true → ¬ IsSafeEpoch (state_after s (call ∷ calls) j).slots c
    first zero l m e = absurd (omega arith)
    first (suc j) l m e = f.first j (omega arith) (omega arith) e

unshifted : (s : EpochState) (call : Call) (calls : List Call) (b k c : ℕ) → IsFirstSafe s (call ∷ calls) (suc b) (suc k) c → IsFirstSafe (after s call) calls b k c
unshifted s call calls b k c f = record {
  from = let l = f.from in omega arith;
  call = f.call;
  safe = f.safe;
  first = λ j l m e. f.first (suc j) (omega arith) (omega arith) e;
}

-- the same from the start on, where the call in front is none of them
passed : (s : EpochState) (call : Call) (calls : List Call) (k c : ℕ) → (IsSafeEpoch (after s call).slots c → ⊥) → IsFirstSafe (after s call) calls 0 k c → IsFirstSafe s (call ∷ calls) 0 (suc k) c
passed s call calls k c not-yet f = record { from = omega arith; call = f.call; safe = f.safe; first = first }
  where
    first : (j : ℕ) → 0 ≤ j → j < suc k → lets_out_at (call ∷ calls) j ≡ true → ¬ IsSafeEpoch (state_after s (call ∷ calls) j).slots c
    first zero l m e = not-yet
    first (suc j) l m e = f.first j (omega arith) (omega arith) e

unpassed : (s : EpochState) (call : Call) (calls : List Call) (k c : ℕ) → IsFirstSafe s (call ∷ calls) 0 (suc k) c → IsFirstSafe (after s call) calls 0 k c
unpassed s call calls k c f = record {
  from = omega arith;
  call = f.call;
  safe = f.safe;
  first = λ j l m e. f.first (suc j) (omega arith) (omega arith) e;
}

-- what waits, or is put in by the first call, comes out at the first call after which its epoch is safe
first-from : (calls : List Call) (s : EpochState) (k : ℕ) (w : Waiting) → IsTimely s → Contains (s.waiting ++ in_at s calls 0) w
    → (Contains (out_at s calls k) w ↔ IsFirstSafe s calls 0 k w.epoch)
first-from [] s k w h x = (λ o. absurd (none-inside w o), λ f. let e = f.call in cc)
first-from (call ∷ calls) s zero w h x =
    let st = step s call h in (
      λ o. record {
        from = omega arith;
        call = opens (lets_out call) st w o;
        safe = safe-out st w o;
        first = λ j l m e. absurd (omega arith);
      },
      λ f. elim (parts st w x) [ inl o ↦ o | inr y ↦ absurd (unsafe (after s call) st.timely w y f.safe) ],
    )
first-from (call ∷ calls) s (suc k) w h x =
    let st = step s call h in
    let t : EpochState = after s call in
    elim (parts st w x) [
      | inl o ↦ (
        λ again. elim (from-out calls t k w st.timely again)
            [ inl y ↦ absurd (unsafe t st.timely w y (safe-out st w o)) | inr y ↦ let b = below h st w x in absurd (omega arith) ],
        λ f. absurd (f.first 0 (omega arith) (omega arith) (opens (lets_out call) st w o) (safe-out st w o)),
      )
      | inr y ↦
          let rest = first-from calls t k w st.timely (Contains-append_left t.waiting (in_at t calls 0) w y) in (
            λ o. passed s call calls k w.epoch (unsafe t st.timely w y) (rest.0 o),
            λ f. rest.1 (unpassed s call calls k w.epoch f),
          )
    ]

-- what call number b puts in comes out at the first call from there on after which its epoch is safe
pub at-first : (calls : List Call) (s : EpochState) (b k : ℕ) (w : Waiting) → IsTimely s → Contains (in_at s calls b) w
    → (Contains (out_at s calls k) w ↔ IsFirstSafe s calls b k w.epoch)
at-first [] s b k w h x = absurd (none-inside w x)
at-first (call ∷ calls) s zero k w h x = first-from (call ∷ calls) s k w h (Contains-append_right s.waiting (put_in s call) w x)
at-first (call ∷ calls) s (suc b) zero w h x =
    let st = step s call h in
    let far = late calls (after s call) b w st.timely x in (
      λ o. let near = below h st w (before st w (Contains-append_left (let_out s call) (after s call).waiting w o)) in absurd (omega arith),
      λ f. let l = f.from in absurd (omega arith),
    )
at-first (call ∷ calls) s (suc b) (suc k) w h x =
    let rest = at-first calls (after s call) b k w (step s call h).timely x in
    (λ o. shifted s call calls b k w.epoch (rest.0 o), λ f. rest.1 (unshifted s call calls b k w.epoch f))

-- so, on new epochs, each comes out once, in order, at the first
pub once-in-order : (calls : List Call) → IsOnceInOrder calls
once-in-order calls = record {
  in_order = out-in fresh calls timely-fresh;
  apart = (rising-in fresh calls timely-fresh).0;
  at_first = λ b k w x. at-first calls fresh b k w timely-fresh x;
}
