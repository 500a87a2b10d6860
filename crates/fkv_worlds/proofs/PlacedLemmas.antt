-- What a step keeps of placed lives, and how it changes the map before the next step.
use Rattle.std.proofs.Common.{◌≡◌, ◌≢◌, Bool, true, false, ◌&&◌, ℕ, suc, ◌<◌, ◌≤◌, ◌==◌, inl, inr, List, [], ◌∷◌, ◌++◌, Option, Some, None, slice_get, refl, sym, ◌∙◌, ap, arith}
use Rattle.std.proofs.lemmas.Bool.Decides.{nat_tests}
use Rattle.std.specs.declared.cmp.Ordering.{Ordering}
use Rattle.fkv_functions.specs.Meanings.{Meanings}
use Rattle.fkv_functions.specs.Plain.{PlainMap}
use Rattle.fkv_operations.specs.After.{shown_of}
use Rattle.fkv_operations.specs.Operations.{may_update, map_after, answer_to}
use Rattle.fkv_operations.specs.declared.operations.Op.{Op}
use Rattle.fkv_operations.specs.declared.operations.Op.TheVariants.{Read, Upsert, Rmw, Delete, Merge, Relocate}
use Rattle.fkv_operations.specs.declared.operations.Answer.{Answer}
use Rattle.fkv_lives.specs.declared.lives.Finish.{Finish}
use Rattle.fkv_lives.specs.declared.lives.Life.{Life}
use Rattle.fkv_lives.specs.declared.lives.End.{End}
use Rattle.fkv_lives.specs.declared.lives.End.TheVariants.{Finished}
use Rattle.fkv_lives.specs.Lives.{finish_of, finish_in, updates_at, update_at, after_some, map_before}
use Rattle.fkv_lives.specs.Placed.{IsTimely, IsPlaced}
use Rattle.fkv_lives.specs.Changes.{ended_at}
use Rattle.fkv_worlds.proofs.LivesLemmas.{append_cases, first_by-none, first_by-append, ended_cases, first_by-ended_quiet, first_by-ended_now, updates_at-untold, updates_at-other, map_before-same}

-- an operation that is no update leaves the map
after-quiet : {K V I O : Type 0} (cmp : K → K → Ordering) (f : Meanings K V I O) (m : PlainMap K V) (op : Op K V I) → may_update op ≡ false → map_after cmp f m op ≡ m
after-quiet cmp f m (Read k i) h = refl
after-quiet cmp f m (Upsert k v) h = absurd (cc)
after-quiet cmp f m (Rmw k i) h = absurd (cc)
after-quiet cmp f m (Delete k) h = absurd (cc)
after-quiet cmp f m (Merge k i) h = absurd (cc)
after-quiet cmp f m Relocate h = refl

module _ {K V I O : Type 0} (cmp : K → K → Ordering) (f : Meanings K V I O) (lives : List (Life K V I O)) (now next : ℕ) (e : next ≡ suc now) (p : IsPlaced cmp f lives now) where
  -- no effect lies at the step to come
  pub none_next : (j : ℕ) (x : Life K V I O) → slice_get lives j ≡ Some x → updates_at next x ≡ false
  none_next j x h = updates_at-other next x (λ t k n. (let u = p.timely j x t h k in let a : t.effect ≤ t.done = u.within in let b : t.done ≤ now = u.past in omega arith))

  map_next : map_before cmp f lives next ≡ map_before cmp f lives (suc now)
  map_next = ap (map_before cmp f lives) e

  -- a step without an effect leaves the map
  pub map-quiet : map_before cmp f lives (suc next) ≡ map_before cmp f lives (suc now)
  map-quiet = ap (after_some cmp f (map_before cmp f lives next)) (first_by-none (updates_at next) (λ x. Some x.op) lives none_next) ∙ map_next

  timely_on : (x : Life K V I O) (t : Finish O) → IsTimely x t now → IsTimely x t next
  timely_on x t u = record { later = u.later; within = u.within; past = (let b : t.done ≤ now = u.past in omega arith); update = u.update }

  -- a step that changes no life
  pub placed-quiet : IsPlaced cmp f lives next
  placed-quiet = record {
    issued = λ j x hj. let b : x.issue ≤ now = p.issued j x hj in omega arith;
    timely = λ j x t hj k. timely_on x t (p.timely j x t hj k);
    alone = p.alone;
    answers = p.answers;
  }

  -- a step that begins a life
  module _ (y : Life K V I O) (at : y.issue ≡ next) (untold : finish_of y ≡ None) where
    pub same_append : (n : ℕ) → map_before cmp f (lives ++ y ∷ []) n ≡ map_before cmp f lives n
    same_append n = map_before-same cmp f (lives ++ y ∷ []) lives n (λ s b. first_by-append (updates_at s) (λ x. Some x.op) lives y (updates_at-untold s y untold))

    was_there : (j : ℕ) (x : Life K V I O) (t : Finish O) → slice_get (lives ++ y ∷ []) j ≡ Some x → finish_of x ≡ Some t → slice_get lives j ≡ Some x
    was_there j x t h k = elim (append_cases lives y j x h) [ inl c ↦ c | inr c ↦ (let u : finish_of x ≡ None = ap finish_of c ∙ untold in absurd (cc)) ]

    pub map-append : map_before cmp f (lives ++ y ∷ []) (suc next) ≡ map_before cmp f lives (suc now)
    map-append = same_append (suc next) ∙ map-quiet

    pub placed-append : IsPlaced cmp f (lives ++ y ∷ []) next
    placed-append = record {
      issued = λ j x hj. elim (append_cases lives y j x hj) [
        | inl c ↦ (let b : x.issue ≤ now = p.issued j x c in omega arith)
        | inr c ↦ (let b : x.issue ≡ next = ap (λ (w : Life K V I O). w.issue) c ∙ at in omega arith)
      ];
      timely = λ j x t hj k. timely_on x t (p.timely j x t (was_there j x t hj k) k);
      alone = λ i j x z t u hi hj ti tj. p.alone i j x z t u (was_there i x t hi ti) (was_there j z u hj tj) ti tj;
      answers = λ j x t hj k. p.answers j x t (was_there j x t hj k) k ∙ ap (λ (m : PlainMap K V). answer_to f m x.op) (sym (same_append t.effect));
    }

  -- a step that ends the life at `j`
  module _ (j : ℕ) (x : Life K V I O) (here : slice_get lives j ≡ Some x) (unended : finish_of x ≡ None) where
    -- without an answer: failed, or given up
    module _ (end : End O) (untold : finish_in end ≡ None) where
      pub same_ended : (n : ℕ) → map_before cmp f (ended_at lives j end) n ≡ map_before cmp f lives n
      same_ended n = map_before-same cmp f (ended_at lives j end) lives n (λ s b. first_by-ended_quiet (updates_at s) (λ w. Some w.op) lives j end x here (updates_at-untold s x unended) (updates_at-untold s (record x { end = end }) untold))

      was_finished : (i : ℕ) (y : Life K V I O) (t : Finish O) → slice_get (ended_at lives j end) i ≡ Some y → finish_of y ≡ Some t → slice_get lives i ≡ Some y
      was_finished i y t h k = elim (ended_cases lives j end x here i y h) [ inl c ↦ (let u : finish_of y ≡ None = ap finish_of c.1 ∙ untold in absurd (cc)) | inr c ↦ c.1 ]

      pub map-ended : map_before cmp f (ended_at lives j end) (suc next) ≡ map_before cmp f lives (suc now)
      map-ended = same_ended (suc next) ∙ map-quiet

      pub placed-ended : IsPlaced cmp f (ended_at lives j end) next
      placed-ended = record {
        issued = λ i y hi. elim (ended_cases lives j end x here i y hi) [
          | inl c ↦ (let a : y.issue ≡ x.issue = ap (λ (w : Life K V I O). w.issue) c.1 in let b : x.issue ≤ now = p.issued j x here in omega arith)
          | inr c ↦ (let b : y.issue ≤ now = p.issued i y c.1 in omega arith)
        ];
        timely = λ i y t hi k. timely_on y t (p.timely i y t (was_finished i y t hi k) k);
        alone = λ i l y z t u hi hl ti tl. p.alone i l y z t u (was_finished i y t hi ti) (was_finished l z u hl tl) ti tl;
        answers = λ i y t hi k. p.answers i y t (was_finished i y t hi k) k ∙ ap (λ (m : PlainMap K V). answer_to f m y.op) (sym (same_ended t.effect));
      }

    -- with this answer, its effect at a step that is free
    module _ (effect : ℕ) (a : Answer O) (free : (i : ℕ) (y : Life K V I O) (t : Finish O) → slice_get lives i ≡ Some y → finish_of y ≡ Some t → t.effect ≢ effect) (later : x.issue < effect) (within : effect ≤ next) where
      finish : Finish O
      finish = record { effect = effect; done = next; answer = a }

      -- the one finished is the new life, or an old one with another effect
      at_new : (i : ℕ) (y : Life K V I O) (t : Finish O) → y ≡ record x { end = Finished (record { effect = effect; done = next; answer = a }) } → finish_of y ≡ Some t → t ≡ record { effect = effect; done = next; answer = a }
      at_new i y t c k = let u : finish_of y ≡ Some (record { effect = effect; done = next; answer = a }) = ap finish_of c in cc

      pub placed-finish : (let new = ended_at lives j (Finished (record { effect = effect; done = next; answer = a })) in
          ((s : ℕ) → s < next → update_at new s ≡ update_at lives s) →
          (may_update x.op ≡ true → effect ≡ next) →
          a ≡ answer_to f (map_before cmp f lives effect) x.op →
          IsPlaced cmp f new next)
      placed-finish old update answers =
          let new : List (Life K V I O) = ended_at lives j (Finished (record { effect = effect; done = next; answer = a })) in
          let same : (n : ℕ) → n ≤ next → map_before cmp f new n ≡ map_before cmp f lives n = λ n le. map_before-same cmp f new lives n (λ s b. old s (omega arith)) in
          record {
            issued = λ i y hi. elim (ended_cases lives j (Finished (record { effect = effect; done = next; answer = a })) x here i y hi) [
              | inl c ↦ (let u : y.issue ≡ x.issue = ap (λ (w : Life K V I O). w.issue) c.1 in let b : x.issue ≤ now = p.issued j x here in omega arith)
              | inr c ↦ (let b : y.issue ≤ now = p.issued i y c.1 in omega arith)
            ];
            timely = λ i y t hi k. elim (ended_cases lives j (Finished (record { effect = effect; done = next; answer = a })) x here i y hi) [
              | inl c ↦ (let t_is = at_new i y t c.1 k in
                  let u : y.issue ≡ x.issue = ap (λ (w : Life K V I O). w.issue) c.1 in
                  let te : t.effect ≡ effect = ap (λ (w : Finish O). w.effect) t_is in
                  let td : t.done ≡ next = ap (λ (w : Finish O). w.done) t_is in
                  record {
                    later = omega arith;
                    within = omega arith;
                    past = omega arith;
                    update = λ q. (let v : effect ≡ next = update (sym (ap (λ (w : Life K V I O). may_update w.op) c.1) ∙ q) in omega arith);
                  })
              | inr c ↦ timely_on y t (p.timely i y t c.1 k)
            ];
            alone = λ i l y z t u hi hl ti tl q. elim (ended_cases lives j (Finished (record { effect = effect; done = next; answer = a })) x here i y hi) [
              | inl c ↦ (let te : t.effect ≡ effect = ap (λ (w : Finish O). w.effect) (at_new i y t c.1 ti) in
                  elim (ended_cases lives j (Finished (record { effect = effect; done = next; answer = a })) x here l z hl) [
                    | inl d ↦ c.0 ∙ sym d.0
                    | inr d ↦ absurd (free l z u d.1 tl (sym q ∙ te))
                  ])
              | inr c ↦ elim (ended_cases lives j (Finished (record { effect = effect; done = next; answer = a })) x here l z hl) [
                | inl d ↦ (let te : u.effect ≡ effect = ap (λ (w : Finish O). w.effect) (at_new l z u d.1 tl) in absurd (free i y t c.1 ti (q ∙ te)))
                | inr d ↦ p.alone i l y z t u c.1 d.1 ti tl q
              ]
            ];
            answers = λ i y t hi k. elim (ended_cases lives j (Finished (record { effect = effect; done = next; answer = a })) x here i y hi) [
              | inl c ↦ (let t_is = at_new i y t c.1 k in
                  ap (λ (w : Finish O). w.answer) t_is ∙ answers
                  ∙ ap (λ (m : PlainMap K V). answer_to f m x.op) (sym (same effect within))
                  ∙ ap (λ (w : Finish O). answer_to f (map_before cmp f new w.effect) x.op) (sym t_is)
                  ∙ ap (λ (w : Life K V I O). answer_to f (map_before cmp f new t.effect) w.op) (sym c.1))
              | inr c ↦ (let u = p.timely i y t c.1 k in let b : t.effect ≤ t.done = u.within in let d : t.done ≤ now = u.past in
                  p.answers i y t c.1 k ∙ ap (λ (m : PlainMap K V). answer_to f m y.op) (sym (same t.effect (omega arith))))
            ];
          }

    no_update : (op : Op K V I) (b : Bool) → may_update op ≡ false → (may_update op && b) ≡ false
    no_update op b h = rw h refl

    -- the map after this step, where the operation took effect at it
    after_now : (new : List (Life K V I O)) (b : Bool) → may_update x.op ≡ b → (b ≡ true → update_at new next ≡ Some x.op) → (b ≡ false → update_at new next ≡ None) → after_some cmp f (map_before cmp f new next) (update_at new next) ≡ map_after cmp f (map_before cmp f new next) x.op
    after_now new true t found gone = ap (after_some cmp f (map_before cmp f new next)) (found refl)
    after_now new false t found gone = ap (after_some cmp f (map_before cmp f new next)) (gone refl) ∙ sym (after-quiet cmp f (map_before cmp f new next) x.op t)

    -- an operation that takes effect at this step
    module _ (a : Answer O) where
      finished_now : List (Life K V I O)
      finished_now = ended_at lives j (Finished (record { effect = next; done = next; answer = a }))

      old_now : (s : ℕ) → s < next → update_at (ended_at lives j (Finished (record { effect = next; done = next; answer = a }))) s ≡ update_at lives s
      old_now s b = first_by-ended_quiet (updates_at s) (λ w. Some w.op) lives j (Finished (record { effect = next; done = next; answer = a })) x here (updates_at-untold s x unended)
          (updates_at-other s (record x { end = Finished (record { effect = next; done = next; answer = a }) }) (λ t k n. (let u : record { effect = next; done = next; answer = a } ≡ t = cc in let v : next ≡ t.effect = ap (λ (w : Finish O). w.effect) u in omega arith)))

      pub map-now : map_before cmp f (ended_at lives j (Finished (record { effect = next; done = next; answer = a }))) (suc next) ≡ map_after cmp f (map_before cmp f lives (suc now)) x.op
      map-now =
          let new : List (Life K V I O) = ended_at lives j (Finished (record { effect = next; done = next; answer = a })) in
          let now_is : (next == next) ≡ true = grind (arith, nat_tests) in
          let same : map_before cmp f new next ≡ map_before cmp f lives (suc now) = map_before-same cmp f new lives next (λ s b. old_now s b) ∙ map_next in
          let found : may_update x.op ≡ true → update_at new next ≡ Some x.op = λ t. first_by-ended_now (updates_at next) (λ w. Some w.op) lives j (Finished (record { effect = next; done = next; answer = a })) x here none_next (rw (t, now_is) refl) in
          let gone : may_update x.op ≡ false → update_at new next ≡ None = λ t. first_by-ended_quiet (updates_at next) (λ w. Some w.op) lives j (Finished (record { effect = next; done = next; answer = a })) x here (updates_at-untold next x unended) (no_update x.op (next == next) t) ∙ first_by-none (updates_at next) (λ w. Some w.op) lives none_next in
          after_now new (may_update x.op) refl found gone ∙ ap (λ (m : PlainMap K V). map_after cmp f m x.op) same

      -- the map before this step or an earlier one stays
      pub same_now : (n : ℕ) → n ≤ next → map_before cmp f (ended_at lives j (Finished (record { effect = next; done = next; answer = a }))) n ≡ map_before cmp f lives n
      same_now n le = map_before-same cmp f (ended_at lives j (Finished (record { effect = next; done = next; answer = a }))) lives n (λ s b. old_now s (omega arith))

      pub placed-now : a ≡ answer_to f (map_before cmp f lives (suc now)) x.op → IsPlaced cmp f (ended_at lives j (Finished (record { effect = next; done = next; answer = a }))) next
      placed-now ha =
          placed-finish next a
          (λ i w t hi k n. (let u = p.timely i w t hi k in let b : t.effect ≤ t.done = u.within in let d : t.done ≤ now = u.past in omega arith))
          (let b : x.issue ≤ now = p.issued j x here in omega arith)
          (omega arith)
          old_now (λ t. refl)
          (ha ∙ ap (λ (m : PlainMap K V). answer_to f m x.op) (sym map_next))

    -- a read that takes effect at an earlier step, which is free, from the value of its key before that step
    module _ (effect : ℕ) (a : Answer O) (k : K) (i : I) (is : x.op ≡ Read k i) where
      old_before : (s : ℕ) → update_at (ended_at lives j (Finished (record { effect = effect; done = next; answer = a }))) s ≡ update_at lives s
      old_before s = first_by-ended_quiet (updates_at s) (λ w. Some w.op) lives j (Finished (record { effect = effect; done = next; answer = a })) x here (updates_at-untold s x unended) (no_update x.op (effect == s) (ap may_update is))

      pub map-before : map_before cmp f (ended_at lives j (Finished (record { effect = effect; done = next; answer = a }))) (suc next) ≡ map_before cmp f lives (suc now)
      map-before = map_before-same cmp f (ended_at lives j (Finished (record { effect = effect; done = next; answer = a }))) lives (suc next) (λ s b. old_before s) ∙ map-quiet

      pub same_before : (n : ℕ) → map_before cmp f (ended_at lives j (Finished (record { effect = effect; done = next; answer = a }))) n ≡ map_before cmp f lives n
      same_before n = map_before-same cmp f (ended_at lives j (Finished (record { effect = effect; done = next; answer = a }))) lives n (λ s b. old_before s)

      pub placed-before : (held : Option V) → ((l : ℕ) (y : Life K V I O) (t : Finish O) → slice_get lives l ≡ Some y → finish_of y ≡ Some t → t.effect ≢ effect)
          → x.issue < effect → effect ≤ now → held ≡ map_before cmp f lives effect k → a ≡ shown_of f k i held
          → IsPlaced cmp f (ended_at lives j (Finished (record { effect = effect; done = next; answer = a }))) next
      placed-before held free later past h ha =
          let quiet : may_update x.op ≡ false = ap may_update is in
          placed-finish effect a free later (omega arith) (λ s b. old_before s)
          (λ t. absurd (let u : true ≡ false = sym t ∙ quiet in cc))
          (ha ∙ ap (shown_of f k i) h ∙ ap (λ o. answer_to f (map_before cmp f lives effect) o) (sym is))
