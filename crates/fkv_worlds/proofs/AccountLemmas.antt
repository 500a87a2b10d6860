-- What a step keeps of the account of lives and outcomes.
use Rattle.std.proofs.Common.{◌≡◌, ◌≢◌, ◌==◌, ◌&&◌, Bool, true, false, cond, ℕ, zero, suc, ◌+◌, ◌≤◌, inl, inr, ◌⊎◌, List, [], ◌∷◌, ◌++◌, length, map, Option, Some, None, Result, Ok, Err, slice_get, refl, sym, ◌∙◌, ap, arith, length-append}
use Rattle.std.proofs.lemmas.Bool.{cases_eq}
use Rattle.std.proofs.lemmas.Bool.Decides.{nat_tests}
use Rattle.std.proofs.lemmas.Option.{slice_get_within}
use Rattle.std.specs.declared.cmp.Ordering.{Ordering}
use Rattle.fkv_functions.specs.Meanings.{Meanings}
use Rattle.fkv_functions.specs.declared.refusals.Refused.{Refused}
use Rattle.fkv_operations.specs.declared.operations.Answer.{Answer}
use Rattle.fkv_partition.specs.declared.contexts.Progress.{Progress}
use Rattle.fkv_partition.specs.declared.contexts.Progress.TheVariants.{Done, Next, NeedsBuild, NeedsLoad, Waits}
use Rattle.fkv_partition.specs.Views.{PartitionView}
use Rattle.fkv_partition.specs.Effect.{Asked, asked}
use Rattle.fkv_device.specs.Standing.{Standing}
use Rattle.fkv_texts.specs.declared.entries.Entry.{Entry}
use Rattle.fkv_functions.specs.declared.refusals.Refused.TheVariants.{NoMemory, Unknown, NotReady, Worn}
use Rattle.fkv_functions.proofs.ListLemmas.{get-append_left, get-append_last}
use Rattle.fkv_lives.specs.declared.lives.Life.{Life}
use Rattle.fkv_lives.specs.declared.lives.Finish.{Finish}
use Rattle.fkv_lives.specs.declared.lives.End.{End}
use Rattle.fkv_lives.specs.declared.lives.End.TheVariants.{Finished, Failed, GivenUp}
use Rattle.fkv_lives.specs.declared.outcomes.Outcome.{Outcome}
use Rattle.fkv_lives.specs.declared.outcomes.Outcome.TheVariants as outcome
use Rattle.fkv_lives.specs.declared.steps.ContextId.{ContextId}
use Rattle.fkv_lives.specs.declared.steps.Step.{Step}
use Rattle.fkv_lives.specs.declared.steps.Step.TheVariants.{Go, Install, Load, GiveUp}
use Rattle.fkv_lives.specs.Lives.{finish_of, finish_in}
use Rattle.fkv_lives.specs.Changes.{ended_at}
use Rattle.fkv_worlds.specs.States.{StateView, life_in}
use Rattle.fkv_worlds.specs.Acts as acts
use Rattle.fkv_worlds.specs.Acts.{Acts, lives_by, told}
use Rattle.fkv_lives.specs.Steps.{partition_in}
use Rattle.fkv_lives.specs.Accounts.{IsAccount}
use Rattle.fkv_lives.specs.Histories.{Event, moments, given_in, context_of, issue_at}
use Rattle.fkv_lives.specs.Told.{ends_operation, took_moment, taken, answer_in, answer_told, answer_some, told_at, is_issue, issues_from}
use Rattle.fkv_worlds.specs.Sound.{IsState, HasHistory}
use Rattle.fkv_worlds.proofs.StateLemmas.{load-question}
use Rattle.fkv_worlds.proofs.LivesLemmas.{append_cases, append_old, ended_cases, ended_here, ended_other}
use Rattle.fkv_worlds.proofs.ManyLemmas.{asked-was}
use Rattle.fkv_worlds.proofs.RefusedLemmas.{refuses-no, spoils-no}

-- ---- what was told
taken-took : {V O : Type 0} (rs : List (Result (Outcome V O) Refused)) (t : Result (Outcome V O) Refused) → took_moment t ≡ true → taken (rs ++ t ∷ []) ≡ taken rs ++ t ∷ []
taken-took [] t h = rw h refl
taken-took (x ∷ rs) t h = by_test (took_moment x) refl (taken-took rs t h)
  where
    by_test : (b : Bool) → took_moment x ≡ b → taken (rs ++ t ∷ []) ≡ taken rs ++ t ∷ [] → taken ((x ∷ rs) ++ t ∷ []) ≡ taken (x ∷ rs) ++ t ∷ []
    by_test true e more = rw e (ap (λ ys. x ∷ ys) more)
    by_test false e more = rw e more

taken-not : {V O : Type 0} (rs : List (Result (Outcome V O) Refused)) (t : Result (Outcome V O) Refused) → took_moment t ≡ false → taken (rs ++ t ∷ []) ≡ taken rs
taken-not [] t h = rw h refl
taken-not (x ∷ rs) t h = ap (λ ys. cond (took_moment x) (x ∷ ys) ys) (taken-not rs t h)

told-within : {V O : Type 0} (os : List (Result (Outcome V O) Refused)) (s : ℕ) (a : Answer O) → told_at os s ≡ Some a → s ≤ length os
told-within os zero a h = absurd (cc)
told-within {V} {O} os (suc s) a h = at (slice_get os s) refl h
  where
    at : (x : Option (Result (Outcome V O) Refused)) → slice_get os s ≡ x → answer_some x ≡ Some a → suc s ≤ length os
    at None e k = absurd (cc)
    at (Some o) e k = slice_get_within os s o e

told-old : {V O : Type 0} (os : List (Result (Outcome V O) Refused)) (o : Result (Outcome V O) Refused) (s : ℕ) → s ≤ length os → told_at (os ++ o ∷ []) s ≡ told_at os s
told-old os o zero h = refl
told-old os o (suc s) h = ap answer_some (get-append_left os (o ∷ []) s h)

told-new : {V O : Type 0} (os : List (Result (Outcome V O) Refused)) (o : Result (Outcome V O) Refused) (s : ℕ) → s ≡ suc (length os) → told_at (os ++ o ∷ []) s ≡ answer_told o
told-new os o s h = ap (told_at (os ++ o ∷ [])) h ∙ ap answer_some (get-append_last os o)

issues-append : {V O : Type 0} (s n : ℕ) (os : List (Result (Outcome V O) Refused)) (o : Result (Outcome V O) Refused) → n ≡ s + length os → issues_from s (os ++ o ∷ []) ≡ issues_from s os ++ issues_from n (o ∷ [])
issues-append s n [] o h = let e : s ≡ n = omega arith in ap (λ m. issues_from m (o ∷ [])) e
issues-append s n (t ∷ os) o h = by_test (is_issue t) refl (issues-append (suc s) n os o (omega arith))
  where
    by_test : (b : Bool) → is_issue t ≡ b → issues_from (suc s) (os ++ o ∷ []) ≡ issues_from (suc s) os ++ issues_from n (o ∷ []) → issues_from s ((t ∷ os) ++ o ∷ []) ≡ issues_from s (t ∷ os) ++ issues_from n (o ∷ [])
    by_test true e more = rw e (ap (λ ys. s ∷ ys) more)
    by_test false e more = rw e more

-- ---- what a step went on with
and-false : (b : Bool) → (b && false) ≡ false
and-false true = refl
and-false false = refl

-- the steps before this one
issue-old : {K V I O : Type 0} (e : Event K V I O) (h : List (Event K V I O)) (s : ℕ) → s ≤ moments h → issue_at (e ∷ h) s ≡ issue_at h s
issue-old e h s low =
    let later : (suc (moments h) == s) ≡ false = grind (arith, nat_tests) in
    rw (later, and-false (took_moment e.told)) refl

-- this one, which answers
issue-new : {K V I O : Type 0} (t : Step K V I) (a : Answer O) (h : List (Event K V I O)) (w : ContextId) (s : ℕ) → context_of t ≡ Some w → s ≡ suc (moments h) → issue_at (record { step = t; told = Ok (outcome.Done a) } ∷ h) s ≡ Some (given_in w h)
issue-new t a h w s on now =
    let here : (suc (moments h) == s) ≡ true = grind (arith, nat_tests) in
    rw (here, on) refl

append-nothing : {A : Type 0} (xs : List A) → xs ++ [] ≡ xs
append-nothing [] = refl
append-nothing (x ∷ xs) = ap (λ ys. x ∷ ys) (append-nothing xs)

-- ---- lives
ended-issues : {K V I O : Type 0} (lives : List (Life K V I O)) (j : ℕ) (e : End O) → map (λ (x : Life K V I O). x.issue) (ended_at lives j e) ≡ map (λ (x : Life K V I O). x.issue) lives
ended-issues [] j e = refl
ended-issues (x ∷ xs) zero e = refl
ended-issues (x ∷ xs) (suc j) e = ap (λ ys. x.issue ∷ ys) (ended-issues xs j e)

begun-issues : {K V I O : Type 0} (lives : List (Life K V I O)) (y : Life K V I O) → map (λ (x : Life K V I O). x.issue) (lives ++ y ∷ []) ≡ map (λ (x : Life K V I O). x.issue) lives ++ y.issue ∷ []
begun-issues [] y = refl
begun-issues (x ∷ xs) y = ap (λ ys. x.issue ∷ ys) (begun-issues xs y)

module _ {K V I O : Type 0} (lives : List (Life K V I O)) (os : List (Result (Outcome V O) Refused)) (h : List (Event K V I O)) (now : ℕ) (account : IsAccount lives os h now) (counted : now ≡ moments h) (ev : Event K V I O) where
  longer : (o : Result (Outcome V O) Refused) → length (os ++ o ∷ []) ≡ suc now
  longer o = let a = length-append os (o ∷ []) in let b = account.counted in omega arith

  past : (o : Result (Outcome V O) Refused) (s : ℕ) (a : Answer O) → told_at (os ++ o ∷ []) s ≡ Some a → (s ≤ length os) ⊎ (s ≡ suc (length os))
  past o s a h = elim (cases_eq s (suc (length os))) [
    | inl e ↦ inr e
    | inr n ↦ (let w = told-within (os ++ o ∷ []) s a h in let l = longer o in let b = account.counted in inl (omega arith))
  ]

  next-at : (o : Result (Outcome V O) Refused) → told_at (os ++ o ∷ []) (suc now) ≡ answer_told o
  next-at o = told-new os o (suc now) (ap suc (sym account.counted))

  kept-at : (o : Result (Outcome V O) Refused) (j : ℕ) (x : Life K V I O) (t : Finish O) → slice_get lives j ≡ Some x → finish_of x ≡ Some t → told_at (os ++ o ∷ []) t.done ≡ Some t.answer
  kept-at o j x t h k = let a = account.told j x t h k in told-old os o t.done (told-within os t.done t.answer a) ∙ a

  kept-own : (j : ℕ) (x : Life K V I O) (t : Finish O) → slice_get lives j ≡ Some x → finish_of x ≡ Some t → issue_at (ev ∷ h) t.done ≡ Some x.issue
  kept-own j x t i k =
      let a = account.told j x t i k in
      let low = told-within os t.done t.answer a in
      let all = account.counted in
      issue-old ev h t.done (omega arith) ∙ account.own j x t i k

  -- a step that takes no moment
  account-refused : IsAccount lives os (ev ∷ h) now
  account-refused = record {
    counted = account.counted;
    issued = account.issued;
    told = account.told;
    own = kept-own;
    once = account.once;
    owned = account.owned;
  }

  -- a step that tells no answer
  silent-before : (o : Result (Outcome V O) Refused) → answer_told o ≡ None → (s : ℕ) (a : Answer O) → told_at (os ++ o ∷ []) s ≡ Some a → told_at os s ≡ Some a
  silent-before o silent s a h = elim (past o s a h) [
    | inl low ↦ sym (told-old os o s low) ∙ h
    | inr n ↦ (let k : None ≡ Some a = sym (told-new os o s n ∙ silent) ∙ h in absurd (cc))
  ]

  -- a step that tells no answer and issues nothing
  account-quiet : (o : Result (Outcome V O) Refused) → answer_told o ≡ None → issues_from (suc now) (o ∷ []) ≡ [] → IsAccount lives (os ++ o ∷ []) (ev ∷ h) (suc now)
  account-quiet o silent none = record {
    counted = longer o;
    issued = account.issued ∙ sym (append-nothing (issues_from 1 os)) ∙ ap (λ xs. issues_from 1 os ++ xs) (sym none) ∙ sym (issues-append 1 (suc now) os o (let b = account.counted in omega arith));
    told = kept-at o;
    own = kept-own;
    once = account.once;
    owned = λ s a h. account.owned s a (silent-before o silent s a h);
  }

  -- an issue begins a life
  account-issue : (c : ℕ) (y : Life K V I O) → y.issue ≡ suc now → finish_of y ≡ None → IsAccount (lives ++ y ∷ []) (os ++ Ok (outcome.Issued c) ∷ []) (ev ∷ h) (suc now)
  account-issue c y at untold = record {
    counted = longer (Ok (outcome.Issued c));
    issued = begun-issues lives y ∙ ap (λ xs. xs ++ y.issue ∷ []) account.issued ∙ ap (λ n. issues_from 1 os ++ n ∷ []) at ∙ sym (issues-append 1 (suc now) os (Ok (outcome.Issued c)) (let b = account.counted in omega arith));
    told = λ j x t i k. kept-at (Ok (outcome.Issued c)) j x t (old j x t i k) k;
    own = λ j x t i k. kept-own j x t (old j x t i k) k;
    once = λ i j x z t u h k a b e. account.once i j x z t u (old i x t h a) (old j z u k b) a b e;
    owned = λ s a h. (let w = account.owned s a (silent-before (Ok (outcome.Issued c)) refl s a h) in (w.0, w.1, w.2, append_old lives y w.0 w.1 w.3, w.4, w.5, w.6));
  }
    where
      old : (j : ℕ) (x : Life K V I O) (t : Finish O) → slice_get (lives ++ y ∷ []) j ≡ Some x → finish_of x ≡ Some t → slice_get lives j ≡ Some x
      old j x t h k = elim (append_cases lives y j x h) [ inl a ↦ a | inr e ↦ (let n : None ≡ Some t = sym untold ∙ ap finish_of (sym e) ∙ k in absurd (cc)) ]

  -- a life ends without an answer
  account-ended : (end : End O) → finish_in end ≡ None → (o : Result (Outcome V O) Refused) → answer_told o ≡ None → issues_from (suc now) (o ∷ []) ≡ [] → (j : ℕ) (x : Life K V I O) → slice_get lives j ≡ Some x → finish_of x ≡ None → IsAccount (ended_at lives j end) (os ++ o ∷ []) (ev ∷ h) (suc now)
  account-ended end over o silent none j x here untold = record {
    counted = longer o;
    issued = ended-issues lives j end ∙ account.issued ∙ sym (append-nothing (issues_from 1 os)) ∙ ap (λ xs. issues_from 1 os ++ xs) (sym none) ∙ sym (issues-append 1 (suc now) os o (let b = account.counted in omega arith));
    told = λ i y t n k. kept-at o i y t (old i y t n k) k;
    own = λ i y t n k. kept-own i y t (old i y t n k) k;
    once = λ i k y z t u h l a b e. account.once i k y z t u (old i y t h a) (old k z u l b) a b e;
    owned = λ s a h. (let w = account.owned s a (silent-before o silent s a h) in
        let other : w.0 ≢ j = λ e. (let n : None ≡ Some w.2 = sym untold ∙ (let f : Some x ≡ Some w.1 = sym here ∙ ap (slice_get lives) (sym e) ∙ w.3 in let g : x ≡ w.1 = cc in ap finish_of g) ∙ w.4 in absurd (cc)) in
        (w.0, w.1, w.2, ended_other lives j _ w.0 other ∙ w.3, w.4, w.5, w.6));
  }
    where
      old : (i : ℕ) (y : Life K V I O) (t : Finish O) → slice_get (ended_at lives j end) i ≡ Some y → finish_of y ≡ Some t → slice_get lives i ≡ Some y
      old i y t h k = elim (ended_cases lives j end x here i y h) [ inl c ↦ (let n : None ≡ Some t = sym over ∙ ap finish_of (sym c.1) ∙ k in absurd (cc)) | inr c ↦ c.1 ]

  -- a life ends with its answer
  module _ (past_done : (j : ℕ) (x : Life K V I O) (t : Finish O) → slice_get lives j ≡ Some x → finish_of x ≡ Some t → t.done ≤ now) (j : ℕ) (x : Life K V I O) (here : slice_get lives j ≡ Some x) (untold : finish_of x ≡ None) (effect : ℕ) (a : Answer O) (on : issue_at (ev ∷ h) (suc now) ≡ Some x.issue) where
    finish : Finish O
    finish = record { effect = effect; done = suc now; answer = a }

    -- it is the one that ended now, or one that was finished before
    which : (i : ℕ) (y : Life K V I O) (t : Finish O) → slice_get (ended_at lives j (Finished (record { effect = effect; done = suc now; answer = a }))) i ≡ Some y → finish_of y ≡ Some t
        → ((i ≡ j) × (t.done ≡ suc now) × (t.answer ≡ a) × (y.issue ≡ x.issue)) ⊎ ((slice_get lives i ≡ Some y) × (t.done ≤ now))
    which i y t h k = elim (ended_cases lives j (Finished (record { effect = effect; done = suc now; answer = a })) x here i y h) [
      | inl c ↦ (let e : Some (record { effect = effect; done = suc now; answer = a }) ≡ Some t = ap finish_of (sym c.1) ∙ k in
          let same : record { effect = effect; done = suc now; answer = a } ≡ t = cc in
          inl (c.0, ap (λ (z : Finish O). z.done) (sym same), ap (λ (z : Finish O). z.answer) (sym same), ap (λ (z : Life K V I O). z.issue) c.1))
      | inr c ↦ inr (c.1, past_done i y t c.1 k)
    ]

    account-done : IsAccount (ended_at lives j (Finished (record { effect = effect; done = suc now; answer = a }))) (os ++ Ok (outcome.Done a) ∷ []) (ev ∷ h) (suc now)
    account-done = record {
      counted = longer (Ok (outcome.Done a));
      issued = ended-issues lives j _ ∙ account.issued ∙ sym (append-nothing (issues_from 1 os)) ∙ sym (issues-append 1 (suc now) os (Ok (outcome.Done a)) (let b = account.counted in omega arith));
      told = λ i y t h k. elim (which i y t h k) [
        | inl c ↦ ap (told_at (os ++ Ok (outcome.Done a) ∷ [])) c.1 ∙ next-at (Ok (outcome.Done a)) ∙ ap Some (sym c.2)
        | inr c ↦ kept-at (Ok (outcome.Done a)) i y t c.0 k
      ];
      own = λ i y t n k. elim (which i y t n k) [
        | inl c ↦ ap (issue_at (ev ∷ h)) c.1 ∙ on ∙ ap Some (sym c.3)
        | inr c ↦ kept-own i y t c.0 k
      ];
      once = λ i k y z t u h l p q e. elim (which i y t h p) [
        | inl c ↦ elim (which k z u l q) [ inl d ↦ c.0 ∙ sym d.0 | inr d ↦ (let n = c.1 in let m = d.1 in absurd (omega arith)) ]
        | inr c ↦ elim (which k z u l q) [ inl d ↦ (let n = c.1 in let m = d.1 in absurd (omega arith)) | inr d ↦ account.once i k y z t u c.0 d.0 p q e ]
      ];
      owned = λ s b h. elim (past (Ok (outcome.Done a)) s b h) [
        | inl low ↦ (let w = account.owned s b (sym (told-old os (Ok (outcome.Done a)) s low) ∙ h) in
            let other : w.0 ≢ j = λ e. (let n : None ≡ Some w.2 = sym untold ∙ (let f : Some x ≡ Some w.1 = sym here ∙ ap (slice_get lives) (sym e) ∙ w.3 in let g : x ≡ w.1 = cc in ap finish_of g) ∙ w.4 in absurd (cc)) in
            (w.0, w.1, w.2, ended_other lives j _ w.0 other ∙ w.3, w.4, w.5, w.6))
        | inr n ↦ (let k : Some a ≡ Some b = sym (told-new os (Ok (outcome.Done a)) s n) ∙ h in
            let same : a ≡ b = cc in (
              j,
              record x { end = Finished (record { effect = effect; done = suc now; answer = a }) },
              record { effect = effect; done = suc now; answer = a },
              ended_here lives j _ x here,
              refl,
              (let c = account.counted in omega arith),
              same,
            ))
      ];
    }

-- nothing was told yet
nothing_told : (V : Type 0) {O : Type 0} (s : ℕ) (a : Answer O) → told_at {V = V} [] s ≡ Some a → ⊥
nothing_told V zero a h = absurd (cc)
nothing_told V (suc s) a h = absurd (cc)

pub account-empty : {K V I O : Type 0} → IsAccount {K = K} {V = V} {I = I} {O = O} [] [] [] 0
account-empty {K} {V} {I} {O} = record {
  counted = refl;
  issued = refl;
  told = λ j x t h k. absurd (cc);
  own = λ j x t h k. absurd (cc);
  once = λ i j x y t u h k a b e. absurd (cc);
  owned = λ s a h. absurd (nothing_told V s a h);
}

-- ---- each step keeps the account
module _ {K V I O R : Type 0} (stands : R → Standing) (entry : ℕ → List ℕ → ℕ → Entry K V → Type 0) (cmp : K → K → Ordering) (join : V → V → V) (f : Meanings K V I O) (code : K → ℕ) (s : StateView K V I O R) (state : IsState cmp f code s) (rs : List (Result (Outcome V O) Refused)) (h : List (Event K V I O)) (history : HasHistory s h) (account : IsAccount s.lives (taken rs) h s.moment) where
  past_done : (j : ℕ) (x : Life K V I O) (t : Finish O) → slice_get s.lives j ≡ Some x → finish_of x ≡ Some t → t.done ≤ s.moment
  past_done j x t h k = (state.world.placed.timely j x t h k).past

  -- the open life of what a context asks
  open_life : (w : ContextId) (v : PartitionView K V I) (x : Asked K V I) → slice_get s.partitions w.partition ≡ Some v → asked v w.slot w.context ≡ Some x → (y : Life K V I O) × (slice_get s.lives (life_in s.begun w) ≡ Some y) × (finish_of y ≡ None) × (given_in w h ≡ y.issue)
  open_life w v x here was =
      let asks = asked-was s.partitions w.partition v v here w.slot w.context ∙ was in
      let l = state.world.linked.linked w x asks in
      (l.life, l.here, ap (λ n. finish_of (record (l.life) { end = n })) l.unended, history.contexts w x asks ∙ sym l.issue)

  account-progress : (t : Step K V I) (w : ContextId) (v : PartitionView K V I) (x : Asked K V I) (p : Progress K V I O R) → context_of t ≡ Some w → slice_get s.partitions w.partition ≡ Some v → asked v w.slot w.context ≡ Some x
      → IsAccount (lives_by s.lives (life_in s.begun w) (suc s.moment) p) (taken rs ++ Ok (told p) ∷ []) (record { step = t; told = Ok (told p) } ∷ h) (suc s.moment)
  account-progress t w v x (Done a effect) on here was =
      let l = open_life w v x here was in
      account-done s.lives (taken rs) h s.moment account history.moment _ past_done (life_in s.begun w) l.0 l.1 l.2 effect a (issue-new t a h w (suc s.moment) on (ap suc history.moment) ∙ ap Some l.3)
  account-progress t w v x Next on here was = account-quiet s.lives (taken rs) h s.moment account history.moment _ (Ok outcome.Next) refl refl
  account-progress t w v x (Waits why) on here was = account-quiet s.lives (taken rs) h s.moment account history.moment _ (Ok (outcome.Waits why)) refl refl
  account-progress t w v x (NeedsBuild ask) on here was = account-quiet s.lives (taken rs) h s.moment account history.moment _ (Ok (outcome.Build ask.source)) refl refl
  account-progress t w v x (NeedsLoad receipt address) on here was = account-quiet s.lives (taken rs) h s.moment account history.moment _ (Ok (outcome.Load address)) refl refl

  kept-refused : (t : Step K V I) (e : Refused) → ends_operation e ≡ false → IsAccount s.lives (taken (rs ++ Err e ∷ [])) (record { step = t; told = Err e } ∷ h) s.moment
  kept-refused t e n = rw (taken-not rs (Err e) n) (account-refused s.lives (taken rs) h s.moment account history.moment _)

  kept-state : (new : StateView K V I O R) (t : Step K V I) (r : Result (Outcome V O) Refused) (e : Refused) → ends_operation e ≡ false → new ≡ s → r ≡ Err e → IsAccount new.lives (taken (rs ++ r ∷ [])) (record { step = t; told = r } ∷ h) new.moment
  kept-state new t r e quiet same is = rw (is, same) (kept-refused t e quiet)

  silent : (new : StateView K V I O R) (t : Step K V I) (r : Result (Outcome V O) Refused) (o : Outcome V O) → answer_in o ≡ None → issues_from (suc s.moment) (Ok o ∷ []) ≡ [] → new.lives ≡ s.lives → new.moment ≡ suc s.moment → r ≡ Ok o → IsAccount new.lives (taken (rs ++ r ∷ [])) (record { step = t; told = r } ∷ h) new.moment
  silent new t r o quiet none lives moment is = rw (is, lives, moment, taken-took rs (Ok o) refl) (account-quiet s.lives (taken rs) h s.moment account history.moment _ (Ok o) quiet none)

  here-of : (w : ContextId) (v : PartitionView K V I) (step t : Step K V I) → step ≡ t → partition_in t ≡ w.partition → slice_get s.partitions (partition_in step) ≡ Some v → slice_get s.partitions w.partition ≡ Some v
  here-of w v step t a at h = ap (slice_get s.partitions) (sym at ∙ ap partition_in (sym a)) ∙ h

  pub account-acts : (new : StateView K V I O R) (step : Step K V I) (r : Result (Outcome V O) Refused) → Acts stands entry cmp join f code s new step r → IsAccount new.lives (taken (rs ++ r ∷ [])) (record { step = step; told = r } ∷ h) new.moment
  account-acts new step r (acts.no_partition a same is) = kept-state new step r Unknown refl same is
  account-acts new step r (acts.uninstalled w v a b c d same is) = kept-state new step r NotReady refl same is
  account-acts new step r (acts.unloaded w access v a b c m d same is) = kept-state new step r NotReady refl same is
  account-acts new step r (acts.unknown w v a b c m d same is) = kept-state new step r Unknown refl same is
  account-acts new step r (acts.no_flush_job p access a b c same is) = kept-state new step r NotReady refl same is
  account-acts new step r (acts.worn a b c same is) = kept-state new step r Worn refl same is
  account-acts new step r (acts.no_memory_for_life p slot op v a b same is) = kept-state new step r NoMemory refl same is
  account-acts new step r (acts.refuses v e due h same is) = kept-state new step r e (refuses-no stands entry cmp join f code s v (suc s.moment) e step h) same is
  account-acts new step r (acts.enters p slot n v v' a b c d low g to is) = silent new step r (outcome.Entered slot) refl refl (ap (λ (z : StateView K V I O R). z.lives) to) (ap (λ (z : StateView K V I O R). z.moment) to) is
  account-acts new step r (acts.leaves p slot v v' a b c ev to is) = silent new step r outcome.Left refl refl (ap (λ (z : StateView K V I O R). z.lives) to) (ap (λ (z : StateView K V I O R). z.moment) to) is
  account-acts new step r (acts.refreshes p slot v v' a b c ev to is) = silent new step r outcome.Refreshed refl refl (ap (λ (z : StateView K V I O R). z.lives) to) (ap (λ (z : StateView K V I O R). z.moment) to) is
  account-acts new step r (acts.shifts p page v v' a b c ev to is) = silent new step r outcome.Shifted refl refl (ap (λ (z : StateView K V I O R). z.lives) to) (ap (λ (z : StateView K V I O R). z.moment) to) is
  account-acts new step r (acts.evicts p page v v' a b c ev to is) = silent new step r outcome.Shifted refl refl (ap (λ (z : StateView K V I O R). z.lives) to) (ap (λ (z : StateView K V I O R). z.moment) to) is
  account-acts new step r (acts.takes p v job a due page bytes to is) = silent new step r (outcome.Taken job.page) refl refl (ap (λ (z : StateView K V I O R). z.lives) to) (ap (λ (z : StateView K V I O R). z.moment) to) is
  account-acts new step r (acts.spoils p access v job e a due has h to is) =
      rw (is, ap (λ (z : StateView K V I O R). z.lives) to, ap (λ (z : StateView K V I O R). z.moment) to) (kept-refused step e (spoils-no v (suc s.moment) job access e h))
  account-acts new step r (acts.writes p v v' job a due has does ev to is) = silent new step r (outcome.Flushed job.page) refl refl (ap (λ (z : StateView K V I O R). z.lives) to) (ap (λ (z : StateView K V I O R). z.moment) to) is
  account-acts new step r (acts.gives_up w v v' a due c ev to is) =
      let l = open_life w v ev.question (here-of w v step (GiveUp w) a refl due.here) ev.was in
      rw (is, to, taken-took rs (Ok outcome.GivenUp) refl) (account-ended s.lives (taken rs) h s.moment account history.moment _ GivenUp refl (Ok outcome.GivenUp) refl refl (life_in s.begun w) l.0 l.1 l.2)
  account-acts new step r (acts.fails w access v v' receipt came e a due has comes does ends ev to is) =
      let l = open_life w v ev.question (here-of w v step (Load w access) a refl due.here) ev.was in
      rw (is, to, taken-took rs (Err e) ends) (account-ended s.lives (taken rs) h s.moment account history.moment _ Failed refl (Err e) refl refl (life_in s.begun w) l.0 l.1 l.2)
  account-acts new step r (acts.issues p slot c op v v' seat a b d ev low at to is) = rw (is, to, taken-took rs (Ok (outcome.Issued c)) refl) (account-issue s.lives (taken rs) h s.moment account history.moment _ c _ refl refl)
  account-acts new step r (acts.goes w v v' p a due c ev to is) =
      rw (is, to, taken-took rs (Ok (told p)) refl) (account-progress step w v ev.question p (ap context_of a) (here-of w v step (Go w) a refl due.here) ev.was)
  account-acts new step r (acts.installs w v v' ask p a due c d ev to is) =
      rw (is, to, taken-took rs (Ok (told p)) refl) (account-progress step w v ev.question p (ap context_of a) (here-of w v step (Install w) a refl due.here) ev.was)
  account-acts new step r (acts.loads w access v v' receipt came p a due has comes does ev to is) =
      let q = load-question cmp f v v' w.slot w.context (suc s.moment) p ev in
      rw (is, to, taken-took rs (Ok (told p)) refl) (account-progress step w v q.0 p (ap context_of a) (here-of w v step (Load w access) a refl due.here) q.1)
  account-acts new step r (acts.truncates p v v' a due does ev to is) = silent new step r (outcome.Truncated v'.records.log.begin) refl refl (ap (λ (z : StateView K V I O R). z.lives) to) (ap (λ (z : StateView K V I O R). z.moment) to) is
