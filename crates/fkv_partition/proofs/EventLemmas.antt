-- What each event is to those who see no more than the live map and what the contexts ask.
use Rattle.std.proofs.Common.{◌≡◌, ◌≢◌, Bool, true, false, nat_lt, ℕ, zero, suc, ◌+◌, ◌*◌, ◌<◌, ◌⊎◌, inl, inr, List, Option, Some, None, option_map, IsTrue, ◌↔◌, ◌≤◌, length, Result, Ok, Err, IsOk, IfOk, OnOk, slice_get, slice_set, is_some, refl, sym, ◌∙◌, ap, subst, arith}
use Rattle.std.proofs.lemmas.Bool.Decides.{nat_tests}
use Rattle.std.specs.Prelude.{IfSome}
use Rattle.std.proofs.lemmas.Bool.{OnTrue_at, OnFalse_at, cases_eq}
use Rattle.std.specs.Bool.{OnTrue, OnFalse}
use Rattle.std.specs.declared.cmp.Ordering.{Ordering}
use Rattle.std.specs.Option.{option_flatten, ok_or}
use Rattle.fkv_functions.specs.Meanings.{Meanings, Parts, Merges, updated}
use Rattle.fkv_functions.specs.declared.asks.Ask.{Ask}
use Rattle.fkv_functions.specs.Plain.{PlainMap, Same, IsKeyOrder, with_at}
use Rattle.fkv_operations.specs.After.{key_of, is_merge, after, after_update, answer, told_of}
use Rattle.fkv_lookups.specs.Decisions.{held_of, IsHeld, decision}
use Rattle.fkv_lookups.specs.Meeting.{IsWanted}
use Rattle.fkv_device.specs.Standing.{Standing}
use Rattle.fkv_lookups.specs.declared.decisions.Decision.TheVariants as decided
use Rattle.fkv_lookups.specs.DecisionLaws.{quiet-does, append-does, replace-does, prepare-op, prepare-source, prepare-met, load-op}
use Rattle.fkv_lookups.specs.declared.decisions.Decision.{Decision}
use Rattle.fkv_lookups.specs.declared.decisions.Decision.TheVariants.{Append, Replace, Prepare}
use Rattle.fkv_operations.specs.Operations.{op_of}
use Rattle.fkv_operations.specs.declared.operations.KeyedOp.{KeyedOp}
use Rattle.fkv_operations.specs.declared.operations.KeyedOp.TheVariants.{Read, Upsert, Rmw, Delete, Merge}
use Rattle.fkv_operations.specs.declared.operations.Answer.{Answer}
use Rattle.fkv_operations.specs.declared.operations.Answer.TheVariants.{Value, Declined}
use Rattle.fkv_texts.specs.Text.{last_of, newest, value_of, live}
use Rattle.fkv_index.specs.declared.words.Place.{Place}
use Rattle.fkv_index.specs.Words.{address_of}
use Rattle.fkv_index.specs.Places.{word_at}
use Rattle.fkv_index.specs.Entries.{IsAlone}
use Rattle.fkv_operations.specs.declared.entries.IndexEntry.{IndexEntry}
use Rattle.fkv_regions.specs.RegionsView.{RegionsView, IsReadOnlyDue, IsHeadDue, entered, refreshed, left}
use Rattle.fkv_lookups.specs.RecordsViews.{RecordsView, class_in, IsEntryOf, with_record, with_written, with_value, with_receipt, confirmed, released, IsMoved}
use Rattle.fkv_operations.specs.Still.{IsStill}
use Rattle.fkv_lookups.specs.declared.payloads.Payload.{Payload}
use Rattle.fkv_lookups.specs.Payloads.{standing}
use Rattle.fkv_partition.specs.declared.contexts.Context.{Context}
use Rattle.fkv_partition.specs.declared.contexts.OpenWork.{OpenWork}
use Rattle.fkv_partition.specs.declared.contexts.OpenWork.TheVariants.{OnKey}
use Rattle.fkv_partition.specs.declared.contexts.Phase.{Phase}
use Rattle.fkv_partition.specs.declared.contexts.Phase.TheVariants.{Fresh, Confirm, Prepared, Load}
use Rattle.fkv_partition.specs.declared.contexts.Loading.{Loading}
use Rattle.fkv_partition.specs.declared.contexts.Progress.TheVariants.{Done, Next, NeedsBuild, NeedsLoad, Waits}
use Rattle.fkv_partition.specs.declared.contexts.Wait.{Wait}
use Rattle.fkv_partition.specs.Contexts.{is_session, on_key, question_in, question_by, joined, context_in, at_phase, claim_by, claim_of, claim_at, loading_by}
use Rattle.fkv_partition.specs.Views.{PartitionView, slots_of, held_at, in_regions, with_replaced, partition_of, met_at, context_at, with_context, with_appended, with_payload, live_of, free_slot, open_context}
use Rattle.fkv_partition.specs.KeyEffect.{asked, asked_by, LeavesOthers, IsQuiet, IsIssue, IsEvent, IsGiveUp}
use Rattle.fkv_partition.specs.Claiming.{IsClaimed}
use Rattle.fkv_partition.specs.Moves.{Shifts, Evicts}
use Rattle.fkv_partition.specs.Flushing.{Flushes}
use Rattle.fkv_hybrid.specs.Flushes.{flush_refusal}
use Rattle.fkv_functions.specs.declared.refusals.Refused.{Refused}
use Rattle.fkv_functions.specs.declared.refusals.Refused.TheVariants.{NoSlot, NotDue, DrainFull, NoMemory}
use Rattle.fkv_partition.specs.KeyGoing.{Decides, Goes, confirms, backs_off}
use Rattle.fkv_partition.specs.KeySound.{IsKept, IsLoading, StandsFor, IsSound}
use Rattle.fkv_functions.proofs.ListLemmas.{get-set_other, get-set_same}
use Rattle.fkv_lookups.specs.Traced.{IsTraced}
use Rattle.fkv_partition.proofs.GrownLemmas.{newest-nowhere}
use Rattle.fkv_partition.proofs.AskedLemmas.{keyed-op, after-op, answer-op, key_at, context-inside, context-other, asked-same, asked-other, free-slot, idle, idle-held, context-left, context-elsewhere, context-renewed}

-- a context that asks nothing to be built and claims nothing is fresh
pub fresh-by : {K V I : Type 0} (n : ℕ) (op : KeyedOp K V I) (phase : Phase V) (keeps : Bool) (cmp : K → K → Ordering) (join : V → V → V) (code : K → ℕ) (r : RecordsView K V) → StandsFor keeps cmp join code r op phase → question_by n op phase ≡ None → claim_by phase ≡ None → loading_by phase ≡ None → phase ≡ Fresh
fresh-by n op Fresh keeps cmp join code r s h q l = refl
fresh-by n op (Confirm p) keeps cmp join code r s h q l = absurd (cc)
fresh-by n (Read k i) (Prepared e source) keeps cmp join code r s h q l = absurd s
fresh-by n (Upsert k v) (Prepared e source) keeps cmp join code r s h q l = absurd s
fresh-by n (Delete k) (Prepared e source) keeps cmp join code r s h q l = absurd s
fresh-by n (Merge k i) (Prepared e source) keeps cmp join code r s h q l = absurd s
fresh-by n (Rmw k i) (Prepared e source) keeps cmp join code r s h q l = absurd (cc)
fresh-by n op (Load m) keeps cmp join code r s h q l = absurd (cc)

-- the place that a phase claims
pub confirm-by : {V : Type 0} (phase : Phase V) (p : Place) → claim_by phase ≡ Some p → phase ≡ Confirm p
confirm-by Fresh p h = absurd (cc)
confirm-by (Confirm q) p h = let same : q ≡ p = cc in ap Confirm same
confirm-by (Prepared e source) p h = absurd (cc)
confirm-by (Load l) p h = absurd (cc)

-- the look-up that waits for a page
pub loading-is : {V : Type 0} (phase : Phase V) (l : Loading V) → loading_by phase ≡ Some l → phase ≡ Load l
loading-is Fresh l h = absurd (cc)
loading-is (Confirm q) l h = absurd (cc)
loading-is (Prepared e source) l h = absurd (cc)
loading-is (Load m) l h = let same : m ≡ l = cc in ap Load same

-- what a question is made of
pub record IsQuestionOf {K V I : Type 0} (n : ℕ) (op : KeyedOp K V I) (phase : Phase V) (e : IndexEntry) (ask : Ask K V I) : Type 0 where
  pub number : ask.number ≡ n
  pub op_is : op ≡ Rmw ask.key ask.input
  pub phase_is : phase ≡ Prepared e ask.source

pub question-of : {K V I : Type 0} (n : ℕ) (op : KeyedOp K V I) (phase : Phase V) (e : IndexEntry) (ask : Ask K V I) → question_by n op phase ≡ Some (e, ask) → IsQuestionOf n op phase e ask
question-of n op Fresh e ask h = absurd (cc)
question-of n op (Confirm p) e ask h = absurd (cc)
question-of n op (Load l) e ask h = absurd (cc)
question-of n (Read k i) (Prepared b s) e ask h = absurd (cc)
question-of n (Upsert k v) (Prepared b s) e ask h = absurd (cc)
question-of n (Delete k) (Prepared b s) e ask h = absurd (cc)
question-of n (Merge k i) (Prepared b s) e ask h = absurd (cc)
question-of {K} {V} {I} n (Rmw k i) (Prepared b s) e ask h =
    let pair : (b, record { number = n; key = k; source = s; input = i }) ≡ (e, ask) = cc in
    let asks : record { number = n; key = k; source = s; input = i } ≡ ask = ap (λ (p : IndexEntry × Ask K V I). p.1) pair in
    let at : b ≡ e = ap (λ (p : IndexEntry × Ask K V I). p.0) pair in
    record {
      number = sym (ap (λ (x : Ask K V I). x.number) asks);
      op_is = ap (λ (x : Ask K V I). Rmw x.key x.input) asks;
      phase_is = ap (λ n. Prepared n s) at ∙ ap (λ (x : Ask K V I). Prepared e x.source) asks;
    }

-- so it claims nothing
pub question-quiet : {K V I : Type 0} (x : Context K V I) (e : IndexEntry) (ask : Ask K V I) → question_in x ≡ Some (e, ask) → claim_by x.phase ≡ None
question-quiet x e ask h = ap claim_by (question-of x.number x.op x.phase e ask h).phase_is

pub context-is : {K V I : Type 0} (entered xs : List (Option ℕ)) (contexts ys : List (Option (OpenWork K V I))) (slot c : ℕ) (x : Context K V I) → xs ≡ entered → ys ≡ contexts → Some x ≡ on_key (context_in xs ys slot c)
    → on_key (context_in entered contexts slot c) ≡ Some x
context-is entered xs contexts ys slot c x e h k = ap (λ a. on_key (context_in a contexts slot c)) (sym e) ∙ ap (λ b. on_key (context_in xs b slot c)) (sym h) ∙ sym k

pub same_or : (d c : ℕ) → (d ≡ c) ⊎ (d ≢ c)
same_or zero zero = inl refl
same_or zero (suc c) = inr (λ e. omega arith)
same_or (suc d) zero = inr (λ e. omega arith)
same_or (suc d) (suc c) = elim (same_or d c) [ inl e ↦ inl (ap suc e) | inr n ↦ inr (λ e. n (omega arith)) ]

-- the regions move, and no context asks anything else
pub quiet-regions : {K V I : Type 0} (keeps : Bool) (v : PartitionView K V I) (regions : RegionsView) (now : ℕ)
    → ((t d : ℕ) → context_in regions.epochs.slots v.contexts t d ≡ context_in (slots_of v) v.contexts t d)
    → IsQuiet keeps v (in_regions v regions now) now
quiet-regions keeps v regions now h = record { same = λ t d. ap (λ o. option_map asked_by (on_key o)) (h t d); text = λ keeps. refl; number = refl; count = refl; begin = refl; cleared = refl; moment = refl }

module _ {K V I : Type 0} {keeps : Bool} (cmp : K → K → Ordering) (join : V → V → V) (code : K → ℕ) (v : PartitionView K V I) (s : IsSound keeps cmp join code v) where
  -- a context of an entered session stands for what it says
  pub stands-at : (slot c : ℕ) (x : Context K V I) → context_at v slot c ≡ Some x → StandsFor keeps cmp join code v.records x.op x.phase
  stands-at slot c x h = s.stands (slot * 8 + c) x (key_at (slots_of v) v.contexts slot c x h).here

  pub own-at : (slot c : ℕ) (x : Context K V I) → context_at v slot c ≡ Some x → partition_of v.count (code (key_of x.op)) ≡ v.number
  own-at slot c x h = s.asked (slot * 8 + c) x (key_at (slots_of v) v.contexts slot c x h).here

  -- and is fresh where it asks nothing and claims nothing
  pub fresh-at : (slot c : ℕ) (x : Context K V I) → context_at v slot c ≡ Some x → question_in x ≡ None → claim_by x.phase ≡ None → loading_by x.phase ≡ None → x.phase ≡ Fresh
  fresh-at slot c x h q n l = fresh-by x.number x.op x.phase keeps cmp join code v.records (stands-at slot c x h) q n l

  -- what a prepared update kept
  pub kept-at : (slot c : ℕ) (x : Context K V I) (e : IndexEntry) (ask : Ask K V I) → context_at v slot c ≡ Some x → question_in x ≡ Some (e, ask) → IsKept keeps cmp code v.records ask.key e ask.source
  kept-at slot c x e ask h q =
      let w = question-of x.number x.op x.phase e ask q in
      subst (λ (o : KeyedOp K V I). StandsFor keeps cmp join code v.records o (Prepared e ask.source)) w.op_is (subst (λ (p : Phase V). StandsFor keeps cmp join code v.records x.op p) w.phase_is (stands-at slot c x h))

  -- whose entry stands as that of its key's class where its place holds the kept word still
  pub kept-entry : (slot c : ℕ) (x : Context K V I) (e : IndexEntry) (ask : Ask K V I) → context_at v slot c ≡ Some x → question_in x ≡ Some (e, ask) → word_at v.records.words e.place ≡ e.word → IsEntryOf v.records (class_in code v.records ask.key) e
  kept-entry slot c x e ask h q stands =
      let k = kept-at slot c x e ask h q in
      record { bucket = k.entry.bucket; place = k.entry.place; word = stands; final = k.entry.final; tag = k.entry.tag }

  -- the key of an entry that leads where a prepared update saw it has the value that it kept
  pub source-is : IsTrue keeps → (slot c : ℕ) (x : Context K V I) (e : IndexEntry) (ask : Ask K V I) → context_at v slot c ≡ Some x → question_in x ≡ Some (e, ask) → word_at v.records.words e.place ≡ e.word → newest cmp v.records.text ask.key (address_of e.word) ≡ last_of cmp v.records.text ask.key → ask.source ≡ live_of cmp v ask.key
  source-is yes_keeps slot c x e ask h q stands held = sym ((kept-at slot c x e ask h q).value yes_keeps stands) ∙ ap value_of held

  -- a session is entered: its contexts hold nothing yet
  pub entered-same : (slot : ℕ) → free_slot v ≡ Some slot → (t d : ℕ) → context_in (entered v.records.log.regions slot).epochs.slots v.contexts t d ≡ context_in (slots_of v) v.contexts t d
  entered-same slot free = same
    where
      mine : Option ℕ
      mine = Some v.records.log.regions.epochs.epoch

      same : (t d : ℕ) → context_in (slice_set (slots_of v) slot mine) v.contexts t d ≡ context_in (slots_of v) v.contexts t d
      same t d = elim (same_or t slot) [
        | inl e ↦ rw e (by_low (nat_lt d 8) refl)
        | inr n ↦ context-elsewhere (slots_of v) v.contexts slot t d mine n
      ]
        where
          is_free : slice_get (slots_of v) slot ≡ Some None
          is_free = free-slot v slot free

          held : (o : Option (Option (OpenWork K V I))) → slice_get v.contexts (slot * 8 + d) ≡ o → d < 8 → joined (slice_get v.contexts (slot * 8 + d)) ≡ None
          held None e low = ap joined e
          held (Some None) e low = ap joined e
          held (Some (Some x)) e low = absurd (let inside = s.housed slot d x low e in let no : false ≡ true = sym (ap (λ o. is_some (option_flatten o)) is_free) ∙ inside in cc)

          by_low : (b : Bool) → nat_lt d 8 ≡ b → context_in (slice_set (slots_of v) slot mine) v.contexts slot d ≡ context_in (slots_of v) v.contexts slot d
          by_low true b =
              let taken : slice_get (slice_set (slots_of v) slot mine) slot ≡ Some mine = get-set_same (slots_of v) slot None mine is_free in
              rw (taken, is_free, b) (held (slice_get v.contexts (slot * 8 + d)) refl (grind (arith, nat_tests)))
          by_low false b =
              let taken : slice_get (slice_set (slots_of v) slot mine) slot ≡ Some mine = get-set_same (slots_of v) slot None mine is_free in
              rw (taken, is_free, b) refl

  pub event-enter : (slot now : ℕ) → free_slot v ≡ Some slot → IsQuiet keeps v (in_regions v (entered v.records.log.regions slot) now) now
  event-enter slot now free = quiet-regions keeps v (entered v.records.log.regions slot) now (entered-same slot free)

module _ {K V I O : Type 0} (cmp : K → K → Ordering) (join : V → V → V) (f : Meanings K V I O) (code : K → ℕ) (v : PartitionView K V I) where
  module _ (slot c now : ℕ) (x : Context K V I) (h : context_at v slot c ≡ Some x) where
    leaves-in : (y : Option (Context K V I)) (r : RecordsView K V) → r.log.begin ≡ v.records.log.begin → r.log.regions ≡ v.records.log.regions
        → LeavesOthers v (record (with_context v slot c y now) { records = r }) slot c now
    leaves-in y r begin regions = record {
      others = λ t d o. ap (λ (g : RegionsView). option_map asked_by (on_key (context_in g.epochs.slots (slice_set v.contexts (slot * 8 + c) (option_map OnKey y)) t d))) regions ∙ asked-other v slot c now x h y t d o;
      number = refl;
      count = refl;
      begin = begin;
      regions = regions;
      rises = omega arith;
      moment = refl;
    }

    asked-in : (y : Option (Context K V I)) (r : RecordsView K V) → r.log.regions ≡ v.records.log.regions → asked (record (with_context v slot c y now) { records = r }) slot c ≡ option_map asked_by y
    asked-in y r regions = ap (λ (g : RegionsView). option_map asked_by (on_key (context_in g.epochs.slots (slice_set v.contexts (slot * 8 + c) (option_map OnKey y)) slot c))) regions ∙ asked-same v slot c now x h y

    leaves : (y : Option (Context K V I)) → LeavesOthers v (with_context v slot c y now) slot c now
    leaves y = leaves-in y v.records refl refl

    was-asked : asked v slot c ≡ Some (asked_by x)
    was-asked = ap (option_map asked_by) h

    -- what an operation asks
    pub asks-rmw : (source : Option V) (i : I) → decision f x.op (met_at cmp join code v slot (key_of x.op)) ≡ Prepare source i → x.op ≡ Rmw (key_of x.op) i
    asks-rmw source i d = prepare-op f x.op (met_at cmp join code v slot (key_of x.op)) source i d

    -- the source of a question is what the key holds
    pub source-held : (source : Option V) (i : I) → IsHeld (met_at cmp join code v slot (key_of x.op)) (live_of cmp v (key_of x.op)) → decision f x.op (met_at cmp join code v slot (key_of x.op)) ≡ Prepare source i → live_of cmp v (key_of x.op) ≡ source
    source-held source i held d =
        let m = met_at cmp join code v slot (key_of x.op) in
        let is : source ≡ held_of m = prepare-source f x.op m source i d in
        elim (prepare-met f x.op m source i d) [
          | inl none ↦ (let o = subst (λ w. IsHeld w (live_of cmp v (key_of x.op))) none held in o ∙ sym (is ∙ ap held_of none))
          | inr value ↦ (let o = subst (λ w. IsHeld w (live_of cmp v (key_of x.op))) value.1 held in o ∙ sym (is ∙ ap held_of value.1))
        ]

    pub prepared-stands : (keeps : Bool) (e : IndexEntry) (source : Option V) (i : I)
        → IsEntryOf v.records (class_in code v.records (key_of x.op)) e
        → address_of e.word < v.records.log.tail
        → newest cmp v.records.text (key_of x.op) (address_of e.word) ≡ last_of cmp v.records.text (key_of x.op)
        → IsStill v.records.log.regions.offsets.safe_read_only (last_of cmp v.records.text (key_of x.op))
        → IsHeld (met_at cmp join code v slot (key_of x.op)) (live_of cmp v (key_of x.op))
        → decision f x.op (met_at cmp join code v slot (key_of x.op)) ≡ Prepare source i
        → IsTraced keeps code v.records
        → StandsFor keeps cmp join code v.records x.op (Prepared e source)
    prepared-stands keeps e source i entry low newest still held d traced =
        let k : K = key_of x.op in
        let kept : IsKept keeps cmp code v.records k e source = record {
          entry = record { place = entry.place; bucket = entry.bucket; final = entry.final; tag = entry.tag };
          low = low;
          value = λ yes_keeps here. ap value_of newest ∙ source-held source i held d;
          still = λ yes_keeps here. rw newest still;
          nowhere = λ yes_keeps none. sym (source-held source i held d) ∙ ap value_of (sym newest ∙ newest-nowhere cmp v.records k (address_of e.word) traced none);
        } in
        subst (λ (o : KeyedOp K V I). StandsFor keeps cmp join code v.records o (Prepared e source)) (sym (asks-rmw source i d)) kept

    -- a look-up that goes on in a page
    pub loading-stands : (keeps : Bool) (e : IndexEntry) (b : ℕ) (parts : Option V)
        → IsEntryOf v.records (class_in code v.records (key_of x.op)) e
        → address_of e.word < v.records.log.tail
        → newest cmp v.records.text (key_of x.op) (address_of e.word) ≡ last_of cmp v.records.text (key_of x.op)
        → IsWanted cmp join code v.records (key_of x.op) b parts
        → decision f x.op (met_at cmp join code v slot (key_of x.op)) ≡ decided.Load b parts
        → IsTraced keeps code v.records
        → StandsFor keeps cmp join code v.records x.op (Load (record { begin = v.records.log.begin; kept = e; wanted = b; parts = parts; looked = now }))
    loading-stands keeps e b parts entry low newest wanted d traced =
        let k : K = key_of x.op in
        let l : Loading V = record { begin = v.records.log.begin; kept = e; wanted = b; parts = parts; looked = now } in
        let stands : IsLoading keeps cmp join code v.records k l = record {
          entry = record { place = entry.place; bucket = entry.bucket; final = entry.final; tag = entry.tag };
          low = low;
          begun = wanted.begun;
          past = omega arith;
          on_disk = wanted.low;
          leads = λ yes_keeps same. record {
            class = wanted.class;
            still = rw newest wanted.still;
            newest = ap value_of newest ∙ wanted.newest;
            between = λ y stands own above under. wanted.between y stands own above;
          };
        } in
        let o = load-op f x.op (met_at cmp join code v slot k) b parts d in
        elim o.1 [
          | inl is ↦ subst (λ (w : KeyedOp K V I). StandsFor keeps cmp join code v.records w (Load l)) (sym is) stands
          | inr is ↦ subst (λ (w : KeyedOp K V I). StandsFor keeps cmp join code v.records w (Load l)) (sym is) stands
        ]

    -- an operation that asks nothing and claims nothing looks its key up, and so decides
    pub decides-at : {keeps : Bool} → IsSound keeps cmp join code v → question_in x ≡ None → claim_by x.phase ≡ None → loading_by x.phase ≡ None → (d e : Decision V I O) → d ≡ decision f x.op (met_at cmp join code v slot (key_of x.op)) → d ≡ e → Decides cmp join f code v slot c x e
    decides-at s q n l d e is same = record { here = h; fresh = fresh-at cmp join code v s slot c x h q n l; decided = sym is ∙ same }

    -- an operation is done without a write
    pub event-quiet : {R : Type 0} (p : Parts K V I) → (is_merge x.op ≡ true → Merges f p) → IsKeyOrder cmp → IsHeld (met_at cmp join code v slot (key_of x.op)) (live_of cmp v (key_of x.op)) → (a : Answer O) → decision f x.op (met_at cmp join code v slot (key_of x.op)) ≡ Decision.Done a → IsEvent {R = R} cmp f v (with_context v slot c None now) slot c now (Done a now)
    event-quiet p merges order held a d = let quiet = quiet-does cmp f p (live_of cmp v) order x.op (met_at cmp join code v slot (key_of x.op)) a merges held d in record {
      question = asked_by x;
      was = was-asked;
      effect = (
        asked-same v slot c now x h None,
        refl,
        after-op cmp f (live_of cmp v) (live_of cmp v) x.op (λ q. sym (quiet.0 q)),
        answer-op f (live_of cmp v) x.op a quiet.1,
      );
      cleared = λ o k. refl;
      frame = leaves None;
    }

    -- or appends a record
    pub event-appends : {R : Type 0} (p : Parts K V I) → (is_merge x.op ≡ true → Merges f p)
        → (e : IndexEntry) (payload : Payload V) (a : Answer O)
        → Same (live cmp (with_written v.records e (key_of x.op) payload (standing p.joined (live_of cmp v (key_of x.op)) payload)).text) (with_at cmp (live_of cmp v) (key_of x.op) (standing p.joined (live_of cmp v (key_of x.op)) payload))
        → decision f x.op (met_at cmp join code v slot (key_of x.op)) ≡ Append payload a
        → IsEvent {R = R} cmp f v (with_payload v slot c e (key_of x.op) payload (standing p.joined (live_of cmp v (key_of x.op)) payload) now) slot c now (Done a now)
    event-appends p merges e payload a lives d =
        let l = leaves None in
        let does = append-does cmp f p (live_of cmp v) x.op (met_at cmp join code v slot (key_of x.op)) payload a merges d in
        record {
          question = asked_by x;
          was = was-asked;
          effect = (
            asked-same v slot c now x h None,
            refl,
            after-op cmp f (live_of cmp v) _ x.op (λ q. lives q ∙ ap (λ (m : PlainMap K V). m q) (sym does.0)),
            answer-op f (live_of cmp v) x.op a does.1,
          );
          cleared = λ o k. refl;
          frame = record { others = l.others; number = refl; count = refl; begin = refl; regions = refl; rises = omega arith; moment = refl };
        }

    -- or gives the last record of its key another value where it stands, or makes it a tombstone
    pub event-replaces : {R : Type 0} (p : Parts K V I) → (is_merge x.op ≡ true → Merges f p) → (at : ℕ) (value : Option V) (a : Answer O) → IsHeld (met_at cmp join code v slot (key_of x.op)) (live_of cmp v (key_of x.op))
        → Same (live cmp (with_value v.records at value).text) (with_at cmp (live_of cmp v) (key_of x.op) value) → decision f x.op (met_at cmp join code v slot (key_of x.op)) ≡ Replace value a
        → IsEvent {R = R} cmp f v (with_replaced v slot c at value now) slot c now (Done a now)
    event-replaces p merges at value a held lives d = let does = replace-does cmp f p (live_of cmp v) x.op (met_at cmp join code v slot (key_of x.op)) value a merges held d in record {
      question = asked_by x;
      was = was-asked;
      effect = (
        asked-same v slot c now x h None,
        refl,
        after-op cmp f (live_of cmp v) _ x.op (λ q. lives q ∙ ap (λ (m : PlainMap K V). m q) (sym does.0)),
        answer-op f (live_of cmp v) x.op a does.1,
      );
      cleared = λ o k. refl;
      frame = leaves-in None (with_value v.records at value) refl refl;
    }

    -- it waits, and nothing changes
    pub event-waits : {R : Type 0} (why : Wait) → IsEvent {R = R} cmp f v (record v { moment = now }) slot c now (Waits why)
    event-waits why = record {
      question = asked_by x;
      was = was-asked;
      effect = (was-asked, (λ q. refl));
      cleared = λ o k. refl;
      frame = record { others = λ t d o. refl; number = refl; count = refl; begin = refl; regions = refl; rises = omega arith; moment = refl };
    }

    -- the operation is to look again, in another phase, and the text of the records stays
    pub event-next : {R : Type 0} (phase : Phase V) (records : RecordsView K V) → records.text ≡ v.records.text → records.log.begin ≡ v.records.log.begin → records.log.regions ≡ v.records.log.regions
        → IsEvent {R = R} cmp f v (record (with_context v slot c (Some (at_phase x phase)) now) { records = records }) slot c now Next
    event-next phase records text begin regions = record {
      question = asked_by x;
      was = was-asked;
      effect = (asked-in (Some (at_phase x phase)) records regions, λ q. ap (λ t. live cmp t q) text);
      cleared = λ o k. refl;
      frame = leaves-in (Some (at_phase x phase)) records begin regions;
    }

    -- a tentative entry is made
    pub event-claims : {R : Type 0} (new : PartitionView K V I) → IsClaimed code v new slot c x now → IsEvent {R = R} cmp f v new slot c now Next
    event-claims new i =
        rw i.is (event-next (Confirm i.place) i.records (ap (λ (r : RecordsView K V). r.text) i.claims.is) (ap (λ (r : RecordsView K V). r.log.begin) i.claims.is) (ap (λ (r : RecordsView K V). r.log.regions) i.claims.is))

    -- a question is asked, from another phase
    pub event-prepares : {R : Type 0} (phase : Phase V) (ask : Ask K V I) → ask.number ≡ x.number → x.op ≡ Rmw ask.key ask.input
        → IsEvent {R = R} cmp f v (with_context v slot c (Some (record { number = x.number; op = x.op; phase = phase })) now) slot c now (NeedsBuild ask)
    event-prepares phase ask n is = record {
      question = asked_by x;
      was = was-asked;
      effect = (asked-same v slot c now x h (Some (record { number = x.number; op = x.op; phase = phase })), (λ q. refl), n, ap op_of is);
      cleared = λ o k. refl;
      frame = leaves (Some (record { number = x.number; op = x.op; phase = phase }));
    }

    -- a page is asked for, from another phase
    pub event-loads : {R : Type 0} (phase : Phase V) (r : R) (a : ℕ) → IsEvent {R = R} cmp f v (with_context v slot c (Some (at_phase x phase)) now) slot c now (NeedsLoad r a)
    event-loads phase r a = record {
      question = asked_by x;
      was = was-asked;
      effect = (asked-same v slot c now x h (Some (at_phase x phase)), λ q. refl);
      cleared = λ o k. refl;
      frame = leaves (Some (at_phase x phase));
    }

    -- or again
    pub event-asks : {R : Type 0} (e : IndexEntry) (ask : Ask K V I) → question_in x ≡ Some (e, ask) → IsEvent {R = R} cmp f v (record v { moment = now }) slot c now (NeedsBuild ask)
    event-asks e ask q =
        let w = question-of x.number x.op x.phase e ask q in
        record {
          question = asked_by x;
          was = was-asked;
          effect = (was-asked, (λ q. refl), w.number, ap op_of w.op_is);
          cleared = λ o k. refl;
          frame = record { others = λ t d o. refl; number = refl; count = refl; begin = refl; regions = refl; rises = omega arith; moment = refl };
        }

    -- what was built for an update whose entry stands is what its key comes to
    built-is : {keeps : Bool} → IsTrue keeps → IsSound keeps cmp join code v → (e : IndexEntry) (ask : Ask K V I) (value : Option V) → question_in x ≡ Some (e, ask) → word_at v.records.words e.place ≡ e.word
        → newest cmp v.records.text ask.key (address_of e.word) ≡ last_of cmp v.records.text ask.key
        → updated f ask.key ask.input ask.source ≡ value
        → updated f ask.key ask.input (live_of cmp v ask.key) ≡ value
    built-is yes_keeps s e ask value q stands newest u = ap (updated f ask.key ask.input) (sym (source-is cmp join code v s yes_keeps slot c x e ask h q stands newest)) ∙ u

    -- it is declined
    pub event-declined : {R : Type 0} → {keeps : Bool} → IsTrue keeps → IsSound keeps cmp join code v → (e : IndexEntry) (ask : Ask K V I) → question_in x ≡ Some (e, ask) → word_at v.records.words e.place ≡ e.word → newest cmp v.records.text ask.key (address_of e.word) ≡ last_of cmp v.records.text ask.key
        → updated f ask.key ask.input ask.source ≡ None
        → IsEvent {R = R} cmp f v (with_context v slot c None now) slot c now (Done Declined now)
    event-declined yes_keeps s e ask q stands newest u =
        let w = question-of x.number x.op x.phase e ask q in
        let meant = built-is yes_keeps s e ask None q stands newest u in
        record {
          question = asked_by x;
          was = was-asked;
          effect = (
            asked-same v slot c now x h None,
            refl,
            after-op cmp f (live_of cmp v) (live_of cmp v) x.op (λ p. ap (λ (o : Option V). after_update cmp (live_of cmp v) ask.key o p) (sym meant) ∙ ap (λ o. after cmp f (live_of cmp v) o p) (sym w.op_is)),
            answer-op f (live_of cmp v) x.op _ (ap (told_of f ask.key ask.input) (sym meant) ∙ ap (answer f (live_of cmp v)) (sym w.op_is)),
          );
          cleared = λ o k. refl;
          frame = leaves None;
        }

    -- or the built value is appended
    pub event-done : {R : Type 0} → {keeps : Bool} → IsTrue keeps → IsSound keeps cmp join code v → (e : IndexEntry) (ask : Ask K V I) (value : V) → question_in x ≡ Some (e, ask) → word_at v.records.words e.place ≡ e.word → newest cmp v.records.text ask.key (address_of e.word) ≡ last_of cmp v.records.text ask.key
        → updated f ask.key ask.input ask.source ≡ Some value
        → ((value : Option V) → Same (live cmp (with_record v.records e ask.key value).text) (with_at cmp (live_of cmp v) ask.key value))
        → IsEvent {R = R} cmp f v (with_appended v slot c e ask.key (Some value) now) slot c now (Done (Value (f.shown ask.key ask.input value)) now)
    event-done yes_keeps s e ask value q stands newest u lives =
        let w = question-of x.number x.op x.phase e ask q in
        let meant = built-is yes_keeps s e ask (Some value) q stands newest u in
        let l = leaves None in
        record {
          question = asked_by x;
          was = was-asked;
          effect = (
            asked-same v slot c now x h None,
            refl,
            after-op cmp f (live_of cmp v) _ x.op (λ p. lives (Some value) p
                ∙ ap (λ (o : Option V). after_update cmp (live_of cmp v) ask.key o p) (sym meant)
                ∙ ap (λ o. after cmp f (live_of cmp v) o p) (sym w.op_is)),
            answer-op f (live_of cmp v) x.op _ (ap (told_of f ask.key ask.input) (sym meant) ∙ ap (answer f (live_of cmp v)) (sym w.op_is)),
          );
          cleared = λ o k. refl;
          frame = record { others = l.others; number = refl; count = refl; begin = refl; regions = refl; rises = omega arith; moment = refl };
        }

module _ {K V I : Type 0} (code : K → ℕ) (v : PartitionView K V I) where
  -- an operation is issued in a context where nothing is open
  pub event-issue : (slot c now : ℕ) (op : KeyedOp K V I) → is_session (slots_of v) slot ≡ true → slice_get v.contexts (slot * 8 + c) ≡ Some None → c < 8 → partition_of v.count (code (key_of op)) ≡ v.number
      → IsIssue code v (with_context v slot c (Some (record { number = now; op = op; phase = Fresh })) now) slot c op now
  event-issue slot c now op inside here low own =
      let x : Option (OpenWork K V I) = Some (OnKey (record { number = now; op = op; phase = Fresh })) in
      record {
        closed = ap (λ o. option_map asked_by (on_key o)) (context-inside (slots_of v) v.contexts slot c inside low ∙ ap joined here);
        opened = ap (λ o. option_map asked_by (on_key o)) (context-inside (slots_of v) (slice_set v.contexts (slot * 8 + c) x) slot c inside low ∙ ap joined (get-set_same v.contexts (slot * 8 + c) None x here));
        own = λ o e. (let both : Some op ≡ Some o = sym (keyed-op op) ∙ e in let same : op ≡ o = cc in subst (λ (p : KeyedOp K V I). partition_of v.count (code (key_of p)) ≡ v.number) same own);
        text = refl;
        cleared = refl;
        frame = record {
          others = λ t d o. ap (λ z. option_map asked_by (on_key z)) (context-other (slots_of v) v.contexts slot c t d x low o);
          number = refl;
          count = refl;
          begin = refl;
          regions = refl;
          rises = omega arith;
          moment = refl;
        };
      }
  -- in the lowest of them

-- the regions move, and the records follow
pub event-moved : {K V I : Type 0} (keeps : Bool) (v : PartitionView K V I) (r : RecordsView K V) (regions : RegionsView) (now : ℕ)
    → IsMoved keeps regions v.records r
    → ((t d : ℕ) → context_in regions.epochs.slots v.contexts t d ≡ context_in (slots_of v) v.contexts t d)
    → IsQuiet keeps v (record v { records = r; moment = now }) now
event-moved keeps v r regions now m h = record {
  same = λ t d. ap (λ (w : RecordsView _ _). option_map asked_by (on_key (context_in w.log.regions.epochs.slots v.contexts t d))) m.is ∙ ap (λ o. option_map asked_by (on_key o)) (h t d);
  text = m.kept;
  number = refl;
  count = refl;
  begin = ap (λ (w : RecordsView _ _). w.log.begin) m.is;
  cleared = refl;
  moment = refl;
}

-- a session without open operations is left
pub left-same : {K V I : Type 0} (v : PartitionView K V I) (slot : ℕ) → open_context v slot ≡ None → (t d : ℕ) → context_in (left v.records.log.regions slot).epochs.slots v.contexts t d ≡ context_in (slots_of v) v.contexts t d
left-same v slot none t d = elim (same_or t slot) [
  | inl e ↦ ap (λ n. context_in (slice_set (slots_of v) slot None) v.contexts n d) e ∙ context-left (slots_of v) v.contexts slot d ∙ sym (idle-held v slot d none) ∙ ap (λ n. held_at v n d) (sym e)
  | inr n ↦ context-elsewhere (slots_of v) v.contexts slot t d None n
]

-- one is refreshed
pub refreshed-same : {K V I : Type 0} (v : PartitionView K V I) (slot : ℕ) → is_session (slots_of v) slot ≡ true → (t d : ℕ) → context_in (refreshed v.records.log.regions slot).epochs.slots v.contexts t d ≡ context_in (slots_of v) v.contexts t d
refreshed-same v slot entered t d = context-renewed (slots_of v) v.contexts slot v.records.log.regions.epochs.epoch t d entered

-- a page is flushed
pub event-flushed : {K V I : Type 0} (keeps : Bool) (v : PartitionView K V I) (st : Standing) (now : ℕ) → IsQuiet keeps v (record v { records = with_receipt v.records st; moment = now }) now
event-flushed keeps v st now = record { same = λ t d. refl; text = λ yes_keeps. refl; number = refl; count = refl; begin = refl; cleared = refl; moment = refl }

-- an operation is given up, and the text of the records stays
pub event-give_up : {K V I : Type 0} (v : PartitionView K V I) (slot c now : ℕ) (x : Context K V I) (records : RecordsView K V)
    → context_at v slot c ≡ Some x
    → records.text ≡ v.records.text
    → records.log.begin ≡ v.records.log.begin
    → records.log.regions ≡ v.records.log.regions
    → IsGiveUp v (record (with_context v slot c None now) { records = records }) slot c now
event-give_up v slot c now x records h text begin regions = record {
  question = asked_by x;
  was = ap (option_map asked_by) h;
  closed = ap (λ (g : RegionsView). option_map asked_by (on_key (context_in g.epochs.slots (slice_set v.contexts (slot * 8 + c) None) slot c))) regions ∙ asked-same v slot c now x h None;
  text = text;
  cleared = refl;
  frame = record {
    others = λ t d o. ap (λ (g : RegionsView). option_map asked_by (on_key (context_in g.epochs.slots (slice_set v.contexts (slot * 8 + c) None) t d))) regions ∙ asked-other v slot c now x h None t d o;
    number = refl;
    count = refl;
    begin = begin;
    regions = regions;
    rises = omega arith;
    moment = refl;
  };
}

-- a merge is open only where the functions merge
pub merging-at : {K V I : Type 0} {keeps : Bool} {join : V → V → V} {cmp : K → K → Ordering} {code : K → ℕ} (v : PartitionView K V I) (merges : Bool) (slot c : ℕ) (x : Context K V I)
    → IsSound keeps cmp join code v
    → merges ≡ v.merges
    → context_at v slot c ≡ Some x
    → is_merge x.op ≡ true
    → IsTrue merges
merging-at v merges slot c x s same h merge =
    let place = key_at (slots_of v) v.contexts slot c x h in
    let is = s.merging (slot * 8 + c) x place.here merge in
    same ∙ is

-- a context that is open and claims nothing
pub claims-none : {K V I : Type 0} (v : PartitionView K V I) (slot c : ℕ) (x : Context K V I) → context_at v slot c ≡ Some x → claim_by x.phase ≡ None → claim_at v.contexts (slot * 8 + c) ≡ None
claims-none v slot c x h quiet = ap (λ o. claim_of (joined o)) (key_at (slots_of v) v.contexts slot c x h).here ∙ quiet

-- an entry is confirmed, or backs off
module _ {K V I O R : Type 0} (stands : R → Standing) (cmp : K → K → Ordering) (join : V → V → V) (f : Meanings K V I O) (code : K → ℕ) (old new : PartitionView K V I) (slot c now : ℕ) (x : Context K V I) (p : Place) (h : context_at old slot c ≡ Some x) (phase : x.phase ≡ Confirm p) (final : Bool) (alone : IsTrue final ↔ IsAlone old.records.words p) where
  confirm_claim-does : OnTrue final (new ≡ record (with_context old slot c (Some (at_phase x Fresh)) now) { records = confirmed old.records p })
      → OnFalse final (new ≡ record (with_context old slot c (Some (at_phase x Fresh)) now) { records = released old.records p })
      → (b : Bool) → final ≡ b → Goes stands cmp join f code old new slot c now (Ok Next)
  confirm_claim-does made emptied true e = confirms x p h phase (alone.0 e) (OnTrue_at e made) refl
  confirm_claim-does made emptied false e = backs_off x p h phase (λ a. (let both : false ≡ true = sym e ∙ alone.1 a in absurd (cc))) (OnFalse_at e emptied) refl

  confirm_claim-event : OnTrue final (new ≡ record (with_context old slot c (Some (at_phase x Fresh)) now) { records = confirmed old.records p })
      → OnFalse final (new ≡ record (with_context old slot c (Some (at_phase x Fresh)) now) { records = released old.records p })
      → (b : Bool) → final ≡ b → IsEvent {R = R} cmp f old new slot c now Next
  confirm_claim-event made emptied true e = rw (OnTrue_at e made) (event-next cmp join f code old slot c now x h Fresh (confirmed old.records p) refl refl refl)
  confirm_claim-event made emptied false e = rw (OnFalse_at e emptied) (event-next cmp join f code old slot c now x h Fresh (released old.records p) refl refl refl)

  pub settles : OnTrue final (new ≡ record (with_context old slot c (Some (at_phase x Fresh)) now) { records = confirmed old.records p })
      → OnFalse final (new ≡ record (with_context old slot c (Some (at_phase x Fresh)) now) { records = released old.records p })
      → Goes stands cmp join f code old new slot c now (Ok Next) × IsEvent {R = R} cmp f old new slot c now Next
  settles made emptied = (confirm_claim-does made emptied final refl, confirm_claim-event made emptied final refl)

-- ---- what the records answer
pub slot-none : (o : Option ℕ) (why : Refused) → Err why ≡ ok_or o NoSlot → (o ≡ None) × (why ≡ NoSlot)
slot-none None why h = (refl, (let same : why ≡ NoSlot = cc in same))
slot-none (Some n) why h = absurd (cc)

pub slot-some : (o : Option ℕ) (slot : ℕ) → Ok slot ≡ ok_or o NoSlot → o ≡ Some slot
slot-some None slot h = absurd (cc)
slot-some (Some n) slot h = let same : n ≡ slot = cc in ap Some same

pub ok-on : {T E P : Type 0} (r : Result T E) → IsOk r → OnOk r P → P
ok-on (Ok x) is h = h
ok-on (Err e) is h = absurd (cc)

pub not-entered : (slots : List (Option ℕ)) (slot : ℕ) → (IsTrue (is_session slots slot) → ⊥) → is_session slots slot ≡ false
not-entered slots slot h = by_test (is_session slots slot) refl
  where
    by_test : (b : Bool) → is_session slots slot ≡ b → is_session slots slot ≡ false
    by_test true e = absurd (h e)
    by_test false e = e

-- the session of another open operation stays where one without any leaves
pub idle-other : {K V I : Type 0} (v : PartitionView K V I) (slot t d : ℕ) (x : OpenWork K V I) → open_context v slot ≡ None → d < 8 → slice_get v.contexts (t * 8 + d) ≡ Some (Some x) → is_session (slots_of v) t ≡ true → is_session (slice_set (slots_of v) slot None) t ≡ true
idle-other v slot t d x none low here inside = elim (cases_eq t slot) [
  | inl same ↦ absurd (idle v slot d x none low (ap (λ n. slice_get v.contexts (n * 8 + d)) (sym same) ∙ here))
  | inr other ↦ ap (λ o. is_some (option_flatten o)) (get-set_other (slots_of v) slot t None other) ∙ inside
]

pub last-is : {A : Type 0} (o : Option A) (x y : A) → o ≡ Some x → o ≡ Some y → x ≡ y
last-is o x y h k = let same : Some x ≡ Some y = sym h ∙ k in cc

-- a shift that is refused
pub shift-refused : {K V I : Type 0} (keeps : Bool) (v : PartitionView K V I) (page now : ℕ) (result : Result (Unit {0}) Refused) (why : Refused)
    → result ≡ Err why
    → ((result ≡ Err NotDue) ↔ ¬ IsReadOnlyDue v.records.log.regions page v.records.log.tail)
    → ((result ≡ Err DrainFull) ↔ (IsReadOnlyDue v.records.log.regions page v.records.log.tail × (16 ≤ length v.records.log.regions.epochs.waiting)))
    → (why ≡ NotDue) ⊎ (why ≡ DrainFull)
    → Shifts keeps v v page now result
shift-refused keeps v page now result why is not_due full only = elim only [
  | inl e ↦ Shifts.not_due (not_due.0 (is ∙ ap Err e)) refl (is ∙ ap Err e)
  | inr e ↦ (let due = full.0 (is ∙ ap Err e) in Shifts.full due.0 due.1 refl (is ∙ ap Err e))
]

pub evict-refused : {K V I : Type 0} (keeps : Bool) (v : PartitionView K V I) (page now : ℕ) (result : Result (Unit {0}) Refused) (why : Refused)
    → result ≡ Err why
    → ((result ≡ Err NotDue) ↔ ¬ IsHeadDue v.records.log.regions page)
    → ((result ≡ Err DrainFull) ↔ (IsHeadDue v.records.log.regions page × (16 ≤ length v.records.log.regions.epochs.waiting)))
    → (why ≡ NotDue) ⊎ (why ≡ DrainFull)
    → Evicts keeps v v page now result
evict-refused keeps v page now result why is not_due full only = elim only [
  | inl e ↦ Evicts.not_due (not_due.0 (is ∙ ap Err e)) refl (is ∙ ap Err e)
  | inr e ↦ (let due = full.0 (is ∙ ap Err e) in Evicts.full due.0 due.1 refl (is ∙ ap Err e))
]

pub if-all : {T E P : Type 0} (r : Result T E) → P → IfOk r (λ x. P)
if-all (Ok x) p = p
if-all (Err e) p = tt

-- ---- a page that was written
pub flush-refused : {K V I : Type 0} (v : PartitionView K V I) (st : Standing) (bytes : List ℕ) (now : ℕ) (r : Result (Unit {0}) Refused) (why : Refused)
    → r ≡ Err why
    → IfSome (flush_refusal v.records.log st.page bytes) (λ reason. r ≡ Err reason)
    → (flush_refusal v.records.log st.page bytes ≡ None → why ≡ NoMemory)
    → Flushes v v st bytes now r
flush-refused v st bytes now r why is told only = by_refusal (flush_refusal v.records.log st.page bytes) refl told only
  where
    by_refusal : (o : Option Refused) → flush_refusal v.records.log st.page bytes ≡ o → IfSome o (λ reason. r ≡ Err reason) → (o ≡ None → why ≡ NoMemory) → Flushes v v st bytes now r
    by_refusal None none told only = Flushes.unkept none refl (is ∙ ap Err (only refl))
    by_refusal (Some reason) some told only = Flushes.refused reason some refl told

pub flush-taken : {K V I : Type 0} (v : PartitionView K V I) (st : Standing) (bytes : List ℕ) (now : ℕ) (r : Result (Unit {0}) Refused)
    → r ≡ Ok tt
    → IfSome (flush_refusal v.records.log st.page bytes) (λ reason. r ≡ Err reason)
    → Flushes v (record v { records = with_receipt v.records st; moment = now }) st bytes now r
flush-taken v st bytes now r is told = by_refusal (flush_refusal v.records.log st.page bytes) refl told
  where
    by_refusal : (o : Option Refused) → flush_refusal v.records.log st.page bytes ≡ o → IfSome o (λ reason. r ≡ Err reason) → Flushes v (record v { records = with_receipt v.records st; moment = now }) st bytes now r
    by_refusal None none told = Flushes.keeps none refl is
    by_refusal (Some reason) some told = absurd (let bad = sym is ∙ told in cc)
