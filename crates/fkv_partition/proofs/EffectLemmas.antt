-- What events of the core, and of relocations, are to their partition.
use Rattle.std.proofs.Common.{List, ◌≡◌, ◌≢◌, Bool, true, false, cond, ◌&&◌, ℕ, ◌+◌, ◌*◌, ◌<◌, ◌⊎◌, inl, inr, IsTrue, Option, Some, None, Result, Ok, Err, IfOk, IfErr, OnOk, option_map, slice_get, slice_set, nat_lt, refl, sym, ◌∙◌, ap, arith}
use Rattle.std.proofs.lemmas.Bool.{cases_eq}
use Rattle.std.proofs.lemmas.Bool.Decides.{nat_tests}
use Rattle.std.specs.declared.cmp.Ordering.{Ordering}
use Rattle.fkv_functions.specs.Meanings.{Meanings}
use Rattle.fkv_functions.specs.Plain.{PlainMap}
use Rattle.fkv_functions.specs.declared.refusals.Refused.{Refused}
use Rattle.fkv_functions.proofs.ListLemmas.{get-set_same}
use Rattle.fkv_regions.specs.RegionsView.{RegionsView}
use Rattle.fkv_operations.specs.Operations.{op_of}
use Rattle.fkv_operations.specs.declared.operations.Answer.TheVariants.{Cleared}
use Rattle.fkv_operations.specs.declared.operations.KeyedOp.{KeyedOp}
use Rattle.fkv_operations.specs.declared.operations.Op.TheVariants.{Relocate}
use Rattle.fkv_partition.specs.declared.contexts.Context.{Context}
use Rattle.fkv_partition.specs.declared.contexts.Progress.{Progress}
use Rattle.fkv_partition.specs.declared.contexts.Progress.TheVariants.{Done, Next, NeedsBuild, NeedsLoad, Waits}
use Rattle.fkv_partition.specs.Contexts.{joined, is_session, context_in, on_key, relocating}
use Rattle.fkv_partition.specs.KeyBeginning as beginning
use Rattle.fkv_partition.specs.KeyEffect as key_effect
use Rattle.fkv_partition.specs.Moves as moves
use Rattle.fkv_partition.specs.Flushing as flushing
use Rattle.fkv_partition.specs.Events as events
use Rattle.fkv_partition.proofs.SeatLemmas.{Seats, enters-seats, refreshes-seats, shifts-seats, evicts-seats, flushes-seats}
use Rattle.fkv_device.specs.Standing.{Standing}
use Rattle.fkv_partition.specs.Grown.{RelocationsStay, IsPassedOn, AllStay}
use Rattle.fkv_partition.specs.Pending.{Pending, pending, pending_of, OthersPend}
use Rattle.fkv_partition.specs.Views.{PartitionView, slots_of, held_at, context_at, live_of, relocation_at, with_relocation}
use Rattle.fkv_partition.proofs.AskedLemmas.{key_at, moving_at, relocation-is, relocation-of, context-inside, free-here}
use Rattle.fkv_partition.specs.declared.contexts.OpenWork.{OpenWork}
use Rattle.fkv_partition.specs.declared.contexts.OpenWork.TheVariants.{Relocating}
use Rattle.fkv_partition.specs.declared.relocations.Relocation.{Relocation}
use Rattle.fkv_partition.specs.Effect.{Asked, asked_of, asked, HasEffect, LeavesOthers, IsQuiet, IsIssue, IsEvent, IsGiveUp, Finds, HasLoaded, IsLoaded, IsTruncation}
use Rattle.fkv_partition.specs.Relocating.{IsRelocating}
use Rattle.fkv_partition.specs.KeySound.{IsSound}
use Rattle.fkv_partition.proofs.MoveLemmas.{open-here}

-- ---- what is told of a result that is Ok
pub if-ok : {A : Type 0} {P Q : A → Type 0} (r : Result A Refused) → ((x : A) → P x → Q x) → IfOk r P → IfOk r Q
if-ok (Ok x) f h = f x h
if-ok (Err e) f h = tt

pub if-ok-at : {A : Type 0} {P Q : A → Type 0} (r : Result A Refused) → ((x : A) → r ≡ Ok x → P x → Q x) → IfOk r P → IfOk r Q
if-ok-at (Ok x) f h = f x refl h
if-ok-at (Err e) f h = tt

pub if-err : {A : Type 0} {P : Refused → Type 0} (r : Result A Refused) → ((e : Refused) → r ≡ Err e → P e) → IfErr r P
if-err (Ok x) h = tt
if-err (Err e) h = h e refl

pub on-ok : {A P Q : Type 0} (r : Result A Refused) → (P → Q) → OnOk r P → OnOk r Q
on-ok (Ok x) f h = f h
on-ok (Err e) f h = tt

-- ---- what a context asks
module _ {K V I : Type 0} (v : PartitionView K V I) (slot c : ℕ) where
  pub asked-none : key_effect.asked v slot c ≡ None → relocation_at v slot c ≡ None → asked v slot c ≡ None
  asked-none a b = ap (λ (o : Option (Asked K V I)). asked_of o (relocation_at v slot c)) a ∙ ap (λ (r : Option (Relocation K V)). asked_of {I = I} None r) b

  pub asked-key : (x : Asked K V I) → key_effect.asked v slot c ≡ Some x → asked v slot c ≡ Some x
  asked-key x h = ap (λ (o : Option (Asked K V I)). asked_of o (relocation_at v slot c)) h

  pub asked-relocation : (x : Relocation K V) → key_effect.asked v slot c ≡ None → relocation_at v slot c ≡ Some x → asked v slot c ≡ Some (record { number = x.number; op = Relocate })
  asked-relocation x a b = ap (λ (o : Option (Asked K V I)). asked_of o (relocation_at v slot c)) a ∙ ap (λ (r : Option (Relocation K V)). asked_of {I = I} None r) b

  -- a context in which nothing is asked holds nothing
  pub nothing-asked : asked v slot c ≡ None → (key_effect.asked v slot c ≡ None) × (relocation_at v slot c ≡ None)
  nothing-asked h = by_parts (key_effect.asked v slot c) (relocation_at v slot c) refl refl h
    where
      by_parts : (a : Option (Asked K V I)) (r : Option (Relocation K V)) → key_effect.asked v slot c ≡ a → relocation_at v slot c ≡ r → asked_of a r ≡ None → (key_effect.asked v slot c ≡ None) × (relocation_at v slot c ≡ None)
      by_parts (Some x) r p q e = absurd (cc)
      by_parts None (Some r) p q e = absurd (cc)
      by_parts None None p q e = (p, q)

  -- a context that asks nothing of keys waits for no page
  pub not-pending : (cmp : K → K → Ordering) → key_effect.asked v slot c ≡ None → pending cmp v slot c ≡ None
  not-pending cmp h = by_context (context_at v slot c) refl
    where
      by_context : (o : Option (Context K V I)) → context_at v slot c ≡ o → pending_of cmp v.records (context_at v slot c) ≡ None
      by_context None e = ap (pending_of cmp v.records) e
      by_context (Some x) e = let n : None ≡ Some (key_effect.asked_by x) = sym h ∙ ap (option_map key_effect.asked_by) e in absurd (cc)

  pub closed-pending : (cmp : K → K → Ordering) → asked v slot c ≡ None → pending cmp v slot c ≡ None
  closed-pending cmp h = not-pending cmp (nothing-asked h).0

  pub asked-low : (x : Asked K V I) → asked v slot c ≡ Some x → c < 8
  asked-low x h = by_parts (context_at v slot c) (relocation_at v slot c) refl refl
    where
      by_parts : (a : Option (Context K V I)) (r : Option (Relocation K V)) → context_at v slot c ≡ a → relocation_at v slot c ≡ r → c < 8
      by_parts (Some y) r p q = (key_at (slots_of v) v.contexts slot c y p).low
      by_parts None (Some y) p q = (moving_at (slots_of v) v.contexts slot c y q).low
      by_parts None None p q = let none = asked-none (ap (option_map key_effect.asked_by) p) q in let bad : None ≡ Some x = sym none ∙ h in absurd (cc)

  -- no operation on a key is open in the context of a relocation
  module _ (x : Relocation K V) (h : relocation_at v slot c ≡ Some x) where
    pub alone-asked : key_effect.asked v slot c ≡ None
    alone-asked = ap (λ (o : Option (OpenWork K V I)). option_map key_effect.asked_by (on_key o)) (relocation-is (held_at v slot c) x h)

    pub relocation-asked : asked v slot c ≡ Some (record { number = x.number; op = Relocate })
    relocation-asked = asked-relocation x alone-asked h

-- ---- the core has changed: relocations stay
module _ {K V I : Type 0} (v : PartitionView K V I) (new : PartitionView K V I) where
  pub relocations-same : new.records.log.regions ≡ v.records.log.regions → RelocationsStay v new → (s d : ℕ) → relocation_at new s d ≡ relocation_at v s d
  relocations-same same stay s d =
      ap (λ (r : RegionsView). relocating (context_in r.epochs.slots new.contexts s d)) same
      ∙ by_test (is_session (slots_of v) s && nat_lt d 8)
    where
      by_test : (b : Bool) → relocating (cond b (joined (slice_get new.contexts (s * 8 + d))) None) ≡ relocating (cond b (joined (slice_get v.contexts (s * 8 + d))) None)
      by_test true = stay (s * 8 + d)
      by_test false = refl

  housed-none : {keeps : Bool} {cmp : K → K → Ordering} {join : V → V → V} {code : K → ℕ} → IsSound keeps cmp join code v → (s d : ℕ) → d < 8 → is_session (slots_of v) s ≡ false → joined (slice_get v.contexts (s * 8 + d)) ≡ None
  housed-none i s d low out = by_get (slice_get v.contexts (s * 8 + d)) refl
    where
      by_get : (o : Option (Option (OpenWork K V I))) → slice_get v.contexts (s * 8 + d) ≡ o → joined (slice_get v.contexts (s * 8 + d)) ≡ None
      by_get None e = ap joined e
      by_get (Some None) e = ap joined e
      by_get (Some (Some x)) e = let yes = i.housed s d x low e in let bad : true ≡ false = sym yes ∙ out in absurd (cc)

  -- who is entered stays, unless he has no relocation
  pub relocations-stay : {keeps : Bool} {cmp : K → K → Ordering} {join : V → V → V} {code : K → ℕ} → IsSound keeps cmp join code v → RelocationsStay v new
      → ((s : ℕ) → is_session (slots_of v) s ≡ true → (is_session (slots_of new) s ≡ true) ⊎ ((d : ℕ) → relocation_at v s d ≡ None))
      → (s d : ℕ) → relocation_at new s d ≡ relocation_at v s d
  relocations-stay i same stay s d = by_cases (is_session (slots_of v) s) (is_session (slots_of new) s) (nat_lt d 8) refl refl refl
    where
      by_cases : (a b l : Bool) → is_session (slots_of v) s ≡ a → is_session (slots_of new) s ≡ b → nat_lt d 8 ≡ l → relocation_at new s d ≡ relocation_at v s d
      by_cases true true true p q t = rw (p, q, t) (same (s * 8 + d))
      by_cases true true false p q t = rw (p, q, t) refl
      by_cases false false l p q t = rw (p, q) refl
      by_cases false true false p q t = rw (p, q, t) refl
      by_cases false true true p q t = rw (p, q, t) (same (s * 8 + d) ∙ ap relocating (housed-none i s d (grind (arith, nat_tests)) p))
      by_cases true false l p q t = elim (stay s p) [
        | inl stays ↦ (let bad : true ≡ false = sym stays ∙ q in absurd (cc))
        | inr none ↦ (let gone : relocation_at new s d ≡ None = rw q refl in gone ∙ sym (none d))
      ]

  pub all-stay : AllStay v new → (s : ℕ) → is_session (slots_of v) s ≡ true → (is_session (slots_of new) s ≡ true) ⊎ ((d : ℕ) → relocation_at v s d ≡ None)
  all-stay stay s inside = inl (stay s inside)

  pub left-stay : (slot : ℕ) → ((s : ℕ) → s ≢ slot → is_session (slots_of v) s ≡ true → is_session (slots_of new) s ≡ true) → ((d : ℕ) (x : Relocation K V) → relocation_at v slot d ≡ Some x → ⊥)
      → (s : ℕ) → is_session (slots_of v) s ≡ true → (is_session (slots_of new) s ≡ true) ⊎ ((d : ℕ) → relocation_at v s d ≡ None)
  left-stay slot stay none s inside = elim (cases_eq s slot) [
    | inl same ↦ inr (λ d. ap (λ n. relocation_at v n d) same ∙ by_held (relocation_at v slot d) refl d)
    | inr other ↦ inl (stay s other inside)
  ]
    where
      by_held : (o : Option (Relocation K V)) → o ≡ o → (d : ℕ) → relocation_at v slot d ≡ None
      by_held o e d = by_one (relocation_at v slot d) refl
        where
          by_one : (r : Option (Relocation K V)) → relocation_at v slot d ≡ r → relocation_at v slot d ≡ None
          by_one None h = h
          by_one (Some x) h = absurd (none d x h)

  pub quiet-event : {keeps : Bool} (now : ℕ) → new.cleared ≡ v.cleared → ((s d : ℕ) → relocation_at new s d ≡ relocation_at v s d) → key_effect.IsQuiet keeps v new now → IsQuiet keeps v new now
  quiet-event now cleared stay q = record {
    same = λ s d. ap (λ o. asked_of o (relocation_at new s d)) (q.same s d) ∙ ap (asked_of (key_effect.asked v s d)) (stay s d);
    text = q.text;
    number = q.number;
    count = q.count;
    begin = q.begin;
    cleared = cleared;
    moment = q.moment;
  }

  pub truncated-event : {keeps : Bool} {cmp : K → K → Ordering} (page now : ℕ) → IsPassedOn v new → key_effect.IsTruncation keeps cmp v new page now → IsTruncation keeps cmp v new page now
  truncated-event page now pass t = record {
    same = λ s d. ap (λ o. asked_of o (relocation_at new s d)) (t.same s d) ∙ ap (asked_of (key_effect.asked v s d)) (relocations-same t.regions pass.relocations s d);
    pend = t.pend;
    live = t.live;
    begin = t.begin;
    regions = t.regions;
    number = t.number;
    count = t.count;
    cleared = pass.cleared;
    moment = t.moment;
  }

  module _ (slot c now : ℕ) (none : relocation_at v slot c ≡ None) (pass : IsPassedOn v new) where
    pub key-frame : key_effect.LeavesOthers v new slot c now → LeavesOthers v new slot c now
    key-frame f = record {
      others = λ s d other. ap (λ o. asked_of o (relocation_at new s d)) (f.others s d other) ∙ ap (asked_of (key_effect.asked v s d)) (relocations-same f.regions pass.relocations s d);
      number = f.number;
      count = f.count;
      begin = f.begin;
      regions = f.regions;
      rises = (let same = pass.cleared in omega arith);
      moment = f.moment;
    }

    -- the context holds no relocation
    gone : key_effect.LeavesOthers v new slot c now → relocation_at new slot c ≡ None
    gone f = relocations-same f.regions pass.relocations slot c ∙ none

    pub key-issue : (code : K → ℕ) (op : KeyedOp K V I) → key_effect.IsIssue code v new slot c op now → IsIssue code v new slot c (op_of op) now
    key-issue code op i = record {
      closed = asked-none v slot c i.closed none;
      opened = asked-key new slot c (record { number = now; op = op_of op }) i.opened;
      own = i.own;
      text = i.text;
      cleared = pass.cleared;
      frame = key-frame i.frame;
    }

    module _ {O : Type 0} (cmp : K → K → Ordering) (f : Meanings K V I O) where
      key-effect : {R : Type 0} → relocation_at new slot c ≡ None → (m m' : PlainMap K V) (x : Asked K V I) (progress : Progress K V I O R)
          → HasEffect cmp f m m' now x (key_effect.asked new slot c) progress
          → HasEffect cmp f m m' now x (asked new slot c) progress
      key-effect out m m' x (Done a effect) h = (asked-none new slot c h.0 out, h.1, h.2, h.3)
      key-effect out m m' x Next h = (asked-key new slot c x h.0, h.1)
      key-effect out m m' x (Waits why) h = (asked-key new slot c x h.0, h.1)
      key-effect out m m' x (NeedsLoad r a) h = (asked-key new slot c x h.0, h.1)
      key-effect out m m' x (NeedsBuild ask) h = (asked-key new slot c x h.0, h.1, h.2, h.3)

      pub key-event : {R : Type 0} (progress : Progress K V I O R) → key_effect.IsEvent cmp f v new slot c now progress → IsEvent cmp f v new slot c now progress
      key-event progress e = record {
        question = e.question;
        was = asked-key v slot c e.question e.was;
        effect = key-effect (gone e.frame) (live_of cmp v) (live_of cmp new) e.question progress e.effect;
        cleared = λ o h. pass.cleared;
        frame = key-frame e.frame;
      }

      key-loaded : {R : Type 0} → relocation_at new slot c ≡ None → (x : Asked K V I) (was then : Option (Pending V)) (progress : Progress K V I O R)
          → HasLoaded f x (key_effect.asked new slot c) was then progress
          → HasLoaded f x (asked new slot c) was then progress
      key-loaded out x was then (Done a effect) h = (asked-none new slot c h.0 out, h.1)
      key-loaded out x was then Next h = (asked-key new slot c x h.0, h.1, h.2)
      key-loaded out x was then (Waits why) h = absurd h
      key-loaded out x was then (NeedsLoad r b) h = (asked-key new slot c x h.0, h.1)
      key-loaded out x was then (NeedsBuild ask) h = (asked-key new slot c x h.0, h.1, h.2, h.3, h.4)

      pub key-load : {R : Type 0} (progress : Progress K V I O R) → key_effect.IsLoaded cmp f v new slot c now progress → IsLoaded cmp f v new slot c now progress
      key-load progress l = record {
        question = l.question;
        was = asked-key v slot c l.question l.was;
        effect = key-loaded (gone l.frame) l.question (pending cmp v slot c) (pending cmp new slot c) progress l.effect;
        live = l.live;
        cleared = pass.cleared;
        frame = key-frame l.frame;
      }

    pub key-give-up : key_effect.IsGiveUp v new slot c now → IsGiveUp v new slot c now
    key-give-up g = record {
      question = g.question;
      was = asked-key v slot c g.question g.was;
      closed = asked-none new slot c g.closed (gone g.frame);
      text = g.text;
      cleared = pass.cleared;
      frame = key-frame g.frame;
    }

    pub key-finds : {O R : Type 0} (cmp : K → K → Ordering) (progress : Progress K V I O R) → key_effect.Finds cmp v new slot c now progress → Finds cmp v new slot c now progress
    key-finds cmp (Done a effect) h = h
    key-finds cmp Next h = h
    key-finds cmp (NeedsBuild ask) h = h
    key-finds cmp (Waits why) h = h
    key-finds cmp (NeedsLoad r a) h = record { question = h.question; was = asked-key v slot c h.question h.was; asks = h.asks }

-- ---- a relocation goes on
abbrev some_relocation : {K V I : Type 0} → ℕ → Option (Asked K V I)
some_relocation k = Some (record { number = k; op = Relocate })

-- what an event of it answers, by what stands in its context then
abbrev pub Proceeds : {K V I O R : Type 0} → Relocation K V → Option (Relocation K V) → ℕ → Progress K V I O R → Type 0
Proceeds x is now (Done a effect) = (is ≡ None) × (effect ≡ now) × (a ≡ Cleared)
Proceeds {K} {V} x is now Next = (y : Relocation K V) × (is ≡ Some y) × (y.number ≡ x.number)
Proceeds {K} {V} x is now (Waits why) = (y : Relocation K V) × (is ≡ Some y) × (y.number ≡ x.number)
Proceeds {K} {V} x is now (NeedsLoad r a) = (y : Relocation K V) × (is ≡ Some y) × (y.number ≡ x.number)
Proceeds x is now (NeedsBuild ask) = ⊥

module _ {K V I : Type 0} {keeps : Bool} {cmp : K → K → Ordering} (v new : PartitionView K V I) (slot c now : ℕ) (r : IsRelocating keeps cmp v new slot c now) where
  pub relocating-frame : LeavesOthers v new slot c now
  relocating-frame = record {
    others = λ a d other. ap (λ o. asked_of o (relocation_at new a d)) (r.same a d) ∙ ap (asked_of (key_effect.asked v a d)) (r.others a d other);
    number = r.number;
    count = r.count;
    begin = r.begin;
    regions = r.regions;
    rises = r.rises;
    moment = r.moment;
  }

  module _ (x : Relocation K V) (h : relocation_at v slot c ≡ Some x) where
    closed-then : key_effect.asked new slot c ≡ None
    closed-then = r.same slot c ∙ alone-asked v slot c x h

    again-asked : (y : Relocation K V) → relocation_at new slot c ≡ Some y → y.number ≡ x.number → asked new slot c ≡ Some (record { number = x.number; op = Relocate })
    again-asked y is n = asked-relocation new slot c y closed-then is ∙ ap (some_relocation {K = K} {V = V} {I = I}) n

    module _ {O R : Type 0} (f : Meanings K V I O) (yes_keeps : IsTrue keeps) where
      proceeds-effect : (progress : Progress K V I O R) → Proceeds x (relocation_at new slot c) now progress
          → HasEffect cmp f (live_of cmp v) (live_of cmp new) now (record { number = x.number; op = Relocate }) (asked new slot c) progress
      proceeds-effect (Done a effect) p = (asked-none new slot c closed-then p.0, p.1, r.live yes_keeps, p.2)
      proceeds-effect Next p = (again-asked p.0 p.1 p.2, r.live yes_keeps)
      proceeds-effect (Waits why) p = (again-asked p.0 p.1 p.2, r.live yes_keeps)
      proceeds-effect (NeedsLoad q a) p = (again-asked p.0 p.1 p.2, r.live yes_keeps)
      proceeds-effect (NeedsBuild ask) p = absurd p

      pub relocating-event : (progress : Progress K V I O R) → Proceeds x (relocation_at new slot c) now progress → IsEvent cmp f v new slot c now progress
      relocating-event progress p = record {
        question = record { number = x.number; op = Relocate };
        was = relocation-asked v slot c x h;
        effect = proceeds-effect progress p;
        cleared = λ o e. absurd (cc);
        frame = relocating-frame;
      }

    pub relocating-finds : {O R : Type 0} (progress : Progress K V I O R) → Finds cmp v new slot c now progress
    relocating-finds (Done a effect) = not-pending new slot c cmp closed-then
    relocating-finds Next = not-pending new slot c cmp closed-then
    relocating-finds (Waits why) = not-pending new slot c cmp closed-then
    relocating-finds (NeedsBuild ask) = not-pending new slot c cmp closed-then
    relocating-finds (NeedsLoad q a) = record {
      question = record { number = x.number; op = Relocate };
      was = relocation-asked v slot c x h;
      asks = not-pending new slot c cmp closed-then;
    }

  pub relocating-others : IsTrue keeps → OthersPend cmp v new slot c
  relocating-others yes_keeps a d other = r.pend yes_keeps a d

-- ---- the context of a relocation
module _ {K V I : Type 0} (v : PartitionView K V I) (slot c now : ℕ) (x : Relocation K V) (h : relocation_at v slot c ≡ Some x) where
  pub set-here : (y : Option (Relocation K V)) → relocating (context_in (slots_of v) (slice_set v.contexts (slot * 8 + c) (option_map Relocating y)) slot c) ≡ y
  set-here y =
      let o = open-here v slot c x h in
      ap relocating (context-inside (slots_of v) (slice_set v.contexts (slot * 8 + c) (option_map Relocating y)) slot c o.inside o.low
      ∙ ap joined (get-set_same v.contexts (slot * 8 + c) (Some (Relocating x)) (option_map Relocating y) o.here)) ∙ relocation-of I y

  -- it is given up
  pub dropped-event : {keeps : Bool} {cmp : K → K → Ordering} → IsRelocating keeps cmp v (with_relocation v slot c None now) slot c now → IsGiveUp v (with_relocation v slot c None now) slot c now
  dropped-event r = record {
    question = record { number = x.number; op = Relocate };
    was = relocation-asked v slot c x h;
    closed = asked-none (with_relocation v slot c None now) slot c (r.same slot c ∙ alone-asked v slot c x h) (set-here None);
    text = refl;
    cleared = refl;
    frame = relocating-frame v (with_relocation v slot c None now) slot c now r;
  }

-- a relocation is issued in a context that is free
pub issued-event : {K V I : Type 0} {keeps : Bool} {cmp : K → K → Ordering} {join : V → V → V} {code : K → ℕ} (v : PartitionView K V I) (slot c now : ℕ) (y : Relocation K V) → IsSound keeps cmp join code v
    → slot < 16 → c < 8 → is_session (slots_of v) slot ≡ true
    → joined (slice_get v.contexts (slot * 8 + c)) ≡ None → y.number ≡ now
    → IsRelocating keeps cmp v (with_relocation v slot c (Some y) now) slot c now
    → IsIssue code v (with_relocation v slot c (Some y) now) slot c Relocate now
issued-event {K} {V} {I} v slot c now y s few low inside free number r =
    let held : held_at v slot c ≡ None = context-inside (slots_of v) v.contexts slot c inside low ∙ free in
    let closed : key_effect.asked v slot c ≡ None = ap (λ (o : Option (OpenWork K V I)). option_map key_effect.asked_by (on_key o)) held in
    let here = free-here (slots_of v) v.contexts slot c s.places few low inside held in
    let then : relocation_at (with_relocation v slot c (Some y) now) slot c ≡ Some y =
    ap relocating (context-inside (slots_of v) (slice_set v.contexts (slot * 8 + c) (Some (Relocating y))) slot c inside low ∙ ap joined (get-set_same v.contexts (slot * 8 + c) None (Some (Relocating y)) here)) in
    record {
      closed = asked-none v slot c closed (ap relocating held);
      opened = asked-relocation (with_relocation v slot c (Some y) now) slot c y (r.same slot c ∙ closed) then ∙ ap (some_relocation {K = K} {V = V} {I = I}) number;
      own = λ o e. absurd (cc);
      text = refl;
      cleared = refl;
      frame = relocating-frame v (with_relocation v slot c (Some y) now) slot c now r;
    }

-- ---- an event of a session or of pages, which leaves relocations and sessions
module _ {K V I : Type 0} (old new : PartitionView K V I) where
  pub quiet-passed : {keeps : Bool} {cmp : K → K → Ordering} {join : V → V → V} {code : K → ℕ} (now : ℕ) → IsSound keeps cmp join code old → Seats old new → key_effect.IsQuiet keeps old new now → IsQuiet keeps old new now
  quiet-passed now sound seats q = quiet-event old new now seats.0.cleared (relocations-stay old new sound seats.0.relocations (all-stay old new seats.1)) q

  pub enters-done : (now : ℕ) (result : Result ℕ Refused) → beginning.Enters old new now result → events.Enters old new now result
  enters-done now result h = record { does = h; rest = (enters-seats old new now result h).0 }

  module _ (keeps : Bool) where
    pub refreshes-done : (slot now : ℕ) (result : Result (Unit {0}) Refused) → moves.Refreshes keeps old new slot now result → events.Refreshes keeps old new slot now result
    refreshes-done slot now result h = record { does = h; rest = (refreshes-seats old new keeps slot now result h).0 }

    pub shifts-done : (page now : ℕ) (result : Result (Unit {0}) Refused) → moves.Shifts keeps old new page now result → events.Shifts keeps old new page now result
    shifts-done page now result h = record { does = h; rest = (shifts-seats old new keeps page now result h).0 }

    pub evicts-done : (page now : ℕ) (result : Result (Unit {0}) Refused) → moves.Evicts keeps old new page now result → events.Evicts keeps old new page now result
    evicts-done page now result h = record { does = h; rest = (evicts-seats old new keeps page now result h).0 }

  pub flushes-done : (s : Standing) (bytes : List ℕ) (now : ℕ) (result : Result (Unit {0}) Refused) → flushing.Flushes old new s bytes now result → events.Flushes old new s bytes now result
  flushes-done s bytes now result h = record { does = h; rest = (flushes-seats old new s bytes now result h).0 }
