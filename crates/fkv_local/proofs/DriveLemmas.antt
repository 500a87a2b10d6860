-- What an operation leaves of a partition that was driven alone, and why it is refused.
use Rattle.std.proofs.Common.{◌≡◌, ◌≢◌, Bool, true, false, cond, ◌&&◌, ℕ, ◌+◌, ◌-◌, ◌*◌, ◌^◌, ◌<◌, ◌≤◌, inl, inr, List, Option, Some, None, Result, Ok, Err, OnOk, option_map, slice_get, nat_lt, refl, sym, ◌∙◌, ap, subst, arith}
use Rattle.std.proofs.lemmas.Bool.Decides.{nat_tests}
use Rattle.std.specs.declared.cmp.Ordering.{Ordering}
use Rattle.fkv_functions.specs.Meanings.{Meanings}
use Rattle.fkv_functions.specs.Plain.{Same}
use Rattle.fkv_regions.specs.Settled.{IsSettled}
use Rattle.fkv_functions.specs.declared.refusals.Refused.{Refused}
use Rattle.fkv_functions.specs.declared.refusals.Refused.TheVariants.{Worn}
use Rattle.fkv_operations.specs.After.{key_of, after, answer}
use Rattle.fkv_operations.specs.AfterLaws.{same_map}
use Rattle.fkv_operations.specs.declared.operations.KeyedOp.{KeyedOp}
use Rattle.fkv_operations.specs.declared.operations.Answer.{Answer}
use Rattle.fkv_texts.specs.Text.{live}
use Rattle.fkv_partition.specs.declared.contexts.Wait.{Wait}
use Rattle.fkv_partition.specs.declared.contexts.Progress.TheVariants.{Done, Waits}
use Rattle.fkv_partition.specs.declared.contexts.Context.{Context}
use Rattle.fkv_partition.specs.Contexts.{joined, is_session, context_in, on_key, relocating}
use Rattle.fkv_partition.specs.KeyEnding.{GivesUp}
use Rattle.fkv_partition.specs.KeyEffect.{asked_by, LeavesOthers, IsGiveUp}
use Rattle.fkv_partition.specs.Views.{seen_at, PartitionView, slots_of, held_at, context_at, live_of, partition_of}
use Rattle.fkv_partition.specs.Beginning.{IsFirstFree, IsFree, IssuesOnKey}
use Rattle.fkv_partition.specs.declared.contexts.OpenWork.{OpenWork}
use Rattle.fkv_partition.specs.declared.contexts.OpenWork.TheVariants.{OnKey, Relocating}
use Rattle.fkv_partition.specs.Events.{IsPassedOn}
use Rattle.fkv_alone.proofs.KeyLemmas.{rest-then}
use Rattle.fkv_alone.specs.Ending.{Ends, IsOver, IsStop}
use Rattle.fkv_alone.specs.Stages.{IsWaiting}
use Rattle.fkv_local.specs.Resting.{IsIdle, StaysIdle}
use Rattle.fkv_local.proofs.WaitLemmas.{waits-full}
use Rattle.fkv_regions.specs.declared.offsets.View.{View}
use Rattle.fkv_regions.specs.Offsets.{view_of, view_at}
use Rattle.fkv_regions.specs.RegionsView.{RegionsView}
use Rattle.fkv_lookups.specs.RecordsViews.{RecordsView}
use Rattle.fkv_hybrid.specs.Views.{IsFull}
use Rattle.fkv_local.specs.Moving.{IsTidied, IsSameLog, StaysSettled, IsMoveRefusal}
use Rattle.fkv_local.proofs.RoomLemmas.{log-then, log-words}
use Rattle.fkv_local.specs.Storing.{Runs}
use Rattle.fkv_local.specs.Failures.{failures_of, IsBeside}
use Rattle.fkv_local.specs.Refusing.{IsWorkRefusal, IsStopped, IsRefusedBy}
use Rattle.fkv_local.proofs.WorkLemmas.{both, same-both, move-work, worn-work}

-- ---- a session with nothing open
pub none-mapped : {A B : Type 0} (f : A → B) (o : Option A) → option_map f o ≡ None → o ≡ None
none-mapped f None h = refl
none-mapped f (Some x) h = absurd (cc)

pub inside : {A : Type 0} (slots : List (Option ℕ)) (contexts : List (Option A)) (c : ℕ) → is_session slots 0 ≡ true → c < 8 → context_in slots contexts 0 c ≡ joined (slice_get contexts (0 * 8 + c))
inside slots contexts c h low = let t : nat_lt c 8 ≡ true = grind (arith, nat_tests) in rw (h, t) refl

module _ {K V I : Type 0} where
  -- what is neither an operation on a key nor a relocation is nothing
  pub none-held : (o : Option (OpenWork K V I)) → on_key o ≡ None → relocating o ≡ None → o ≡ None
  none-held None k r = refl
  none-held (Some (OnKey x)) k r = absurd (cc)
  none-held (Some (Relocating x)) k r = absurd (cc)

  -- what one context did is over, and the others ask what they asked
  pub idle-left : (v w : PartitionView K V I) (c now : ℕ) → IsIdle v 0 → LeavesOthers v w 0 c now → IsPassedOn v w → context_at w 0 c ≡ None → IsIdle w 0
  idle-left v w c now i frame rest closed = record {
    entered = entered;
    settled = subst IsSettled (sym frame.regions) i.settled;
    free = λ d. free d (nat_lt d c) (nat_lt c d) refl refl;
    relocations = λ d. ap (λ t. relocating (context_in t w.contexts 0 d)) slots ∙ kept (is_session (slots_of v) 0 && nat_lt d 8) d ∙ i.relocations d;
  }
    where
      slots : slots_of w ≡ slots_of v
      slots = ap (λ r. r.epochs.slots) frame.regions

      entered : is_session (slots_of w) 0 ≡ true
      entered = ap (λ t. is_session t 0) slots ∙ i.entered

      kept : (b : Bool) (d : ℕ) → relocating (cond b (joined (slice_get w.contexts (0 * 8 + d))) None) ≡ relocating (cond b (joined (slice_get v.contexts (0 * 8 + d))) None)
      kept true d = rest.relocations (0 * 8 + d)
      kept false d = refl

      other : (d : ℕ) → d ≢ c → context_at w 0 d ≡ None
      other d n = none-mapped asked_by (context_at w 0 d) (frame.others 0 d (inr n) ∙ ap (option_map asked_by) (i.free d))

      free : (d : ℕ) (a b : Bool) → nat_lt d c ≡ a → nat_lt c d ≡ b → context_at w 0 d ≡ None
      free d true b p q = other d (λ e. absurd (let l : d < c = grind (arith, nat_tests) in omega arith))
      free d false true p q = other d (λ e. absurd (let l : c < d = grind (arith, nat_tests) in omega arith))
      free d false false p q = let same : d ≡ c = grind (arith, nat_tests) in rw same closed

  -- pages that move leave it
  pub idle-tidied : (keeps : Bool) (cmp : K → K → Ordering) (v w : PartitionView K V I) → IsIdle v 0 → IsTidied keeps cmp v w → StaysSettled v w → IsIdle w 0
  idle-tidied keeps cmp v w i t settles = record {
    entered = t.sessions 0 ∙ i.entered;
    settled = settles i.settled;
    free = λ c. ap on_key (held c) ∙ i.free c;
    relocations = λ c. ap relocating (held c) ∙ i.relocations c;
  }
    where
      held : (c : ℕ) → held_at w 0 c ≡ held_at v 0 c
      held c = ap (λ b. cond (b && nat_lt c 8) (joined (slice_get w.contexts (0 * 8 + c))) None) (t.sessions 0)
          ∙ ap (λ cs. cond (is_session (slots_of v) 0 && nat_lt c 8) (joined (slice_get cs (0 * 8 + c))) None) t.contexts

  -- so its lowest context is free, and an operation is issued there
  pub zero-free : (v : PartitionView K V I) → IsIdle v 0 → IsFree v 0 0
  zero-free v i = sym (inside (slots_of v) v.contexts 0 i.entered (omega arith)) ∙ none-held (held_at v 0 0) (i.free 0) (i.relocations 0)

  pub first-is-zero : (v : PartitionView K V I) (c : ℕ) → IsIdle v 0 → IsFirstFree v 0 (Some c) → c ≡ 0
  first-is-zero v c i f = by (nat_lt 0 c) refl
    where
      by : (b : Bool) → nat_lt 0 c ≡ b → c ≡ 0
      by true p = absurd (f.2 0 (grind (arith, nat_tests)) (zero-free v i))
      by false p = grind (arith, nat_tests)

  pub stays-tidied : {keeps : Bool} {cmp : K → K → Ordering} {u v w : PartitionView K V I} → StaysIdle keeps cmp u v → IsTidied keeps cmp v w → StaysSettled v w → StaysIdle keeps cmp u w
  stays-tidied {keeps} {cmp} {u} {v} {w} s t settles = record {
    number = t.number ∙ s.number;
    count = t.count ∙ s.count;
    idle = idle-tidied keeps cmp v w s.idle t settles;
    live = λ k q. t.live k q ∙ s.live k q;
  }

module _ {K V I : Type 0} {keeps : Bool} {cmp : K → K → Ordering} where
  pub stays-new : {u v : PartitionView K V I} → IsIdle u 0 → IsTidied keeps cmp u v → StaysSettled u v → StaysIdle keeps cmp u v
  stays-new {u} {v} i t settles = record { number = t.number; count = t.count; idle = idle-tidied keeps cmp u v i t settles; live = t.live }

  -- an operation that begins later
  pub runs-since : {O : Type 0} {f : Meanings K V I O} {op : KeyedOp K V I} {u v w : PartitionView K V I} (r : Result (Answer O) Refused) → StaysIdle keeps cmp u v → Runs keeps cmp f v w op r → Runs keeps cmp f u w op r
  runs-since {O} {f} {op} {u} {v} {w} (Ok a) s h = record {
    number = h.number ∙ s.number;
    count = h.count ∙ s.count;
    idle = h.idle;
    effect = λ k. (let maps = same_map (live_of cmp v) (live_of cmp u) (s.live k) in
        (subst (λ m. Same (live_of cmp w) (after cmp f m op)) maps (h.effect k).0, subst (λ m. a ≡ answer f m op) maps (h.effect k).1));
  }
  runs-since (Err e) s h = record { number = h.number ∙ s.number; count = h.count ∙ s.count; idle = h.idle; effect = λ k q. h.effect k q ∙ s.live k q }

  -- on any device, so on this one
  pub runs-any : {O : Type 0} {f : Meanings K V I O} {op : KeyedOp K V I} {u w : PartitionView K V I} {r : Result (Answer O) Refused} → Runs true cmp f u w op r → Runs keeps cmp f u w op r
  runs-any h = record { number = h.number; count = h.count; idle = h.idle; effect = λ k. h.effect refl }

-- ---- an operation that is refused leaves the live map
over-stays : {K V I : Type 0} {keeps : Bool} {cmp : K → K → Ordering} (u v w : PartitionView K V I) (c : ℕ) → StaysIdle keeps cmp u v → IsOver v w 0 c → IsPassedOn v w → StaysIdle keeps cmp u w
over-stays {K} {V} {I} {keeps} {cmp} u v w c s over rest = record {
  number = over.frame.number ∙ s.number;
  count = over.frame.count ∙ s.count;
  idle = idle-left v w c w.moment s.idle over.frame rest over.closed;
  live = λ k q. ap (λ r. live cmp r.text q) over.records ∙ s.live k q;
}

module _ {K V I : Type 0} {keeps merges : Bool} {op : KeyedOp K V I} {tail clock : ℕ} {e : Refused} where
  -- by the partition's own event, over this log
  stopped : {before after_ writes writes_now : ℕ} → IsStop keeps tail before after_ e → writes_now ≡ writes → IsStopped keeps merges op tail clock (both writes before) (both writes_now after_) e
  stopped (IsStop.memory a b) same = IsStopped.unworked (IsWorkRefusal.no_memory a (same-both same b))
  stopped (IsStop.worn a b d) same = IsStopped.unworked (IsWorkRefusal.no_address a b (same-both same d))
  stopped (IsStop.device page a b) same = IsStopped.unworked (IsWorkRefusal.unread page (inl (inr (a, b))) same)
  stopped (IsStop.damaged page a b) same = IsStopped.unworked (IsWorkRefusal.unread page (inr (a, b)) same)
  stopped (IsStop.misspelled page loose a b) same = IsStopped.unworked (IsWorkRefusal.misspelled page loose a (same-both same b))

  -- or since pages are not moved
  pub move-stopped : {writes writes_now before after_ : ℕ} → IsMoveRefusal clock writes writes_now e → after_ ≡ before → IsStopped keeps merges op tail clock (both writes before) (both writes_now after_) e
  move-stopped h same = IsStopped.unworked (move-work h same)

  -- from counts that are the same
  pub stopped-from : {w w_now r r_now w_first r_first : ℕ} → w ≡ w_first → r ≡ r_first → IsStopped keeps merges op tail clock (both w r) (both w_now r_now) e → IsStopped keeps merges op tail clock (both w_first r_first) (both w_now r_now) e
  stopped-from {w} {w_now} {r} {r_now} p q h = subst (λ f. IsStopped keeps merges op tail clock f (both w_now r_now) e) (same-both p q) h

  -- after a compaction that began by itself
  pub refused-by : {W P : Type 0} {writes : W → ℕ} {reads : P → ℕ} {keeps_log : Bool} {writer writer_now : W} {reader reader_now : P} (writer_then : W) (reader_then : P) → IsBeside keeps_log (failures_of writes reads writer reader) (failures_of writes reads writer_then reader_then)
      → IsStopped keeps merges op tail clock (failures_of writes reads writer_then reader_then) (failures_of writes reads writer_now reader_now) e → IsRefusedBy keeps merges keeps_log writes reads op tail clock writer reader writer_now reader_now e
  refused-by writer_then reader_then beside h = record { writer_then = writer_then; reader_then = reader_then; beside = beside; stopped = h }

  module _ {W P : Type 0} {writes : W → ℕ} {reads : P → ℕ} {keeps_log : Bool} {writer writer_now : W} {reader reader_now : P} where
    pub move-refused : IsMoveRefusal clock (writes writer) (writes writer_now) e → reads reader_now ≡ reads reader → IsRefusedBy keeps merges keeps_log writes reads op tail clock writer reader writer_now reader_now e
    move-refused h same = record { writer_then = writer; reader_then = reader; beside = inl refl; stopped = move-stopped h same }

    pub worn-refused : (writer_then : W) → IsBeside keeps_log (failures_of writes reads writer reader) (failures_of writes reads writer_then reader_now) → writes writer_now ≡ writes writer_then → (e ≡ Worn) × (2 ^ 64 ≤ clock + 2)
        → IsRefusedBy keeps merges keeps_log writes reads op tail clock writer reader writer_now reader_now e
    worn-refused writer_then beside same h = record { writer_then = writer_then; reader_then = reader_now; beside = beside; stopped = IsStopped.unworked (worn-work h.0 h.1 same refl) }

unissued : {K V I : Type 0} {keeps merges : Bool} {op : KeyedOp K V I} {code : K → ℕ} {tail clock before after_ writes writes_now : ℕ} (v w : PartitionView K V I) (now : ℕ) (e : Refused) → IsIdle v 0 → partition_of v.count (code (key_of op)) ≡ v.number → v.merges ≡ merges → IssuesOnKey code v w 0 op now (Err e) → after_ ≡ before → writes_now ≡ writes → IsStopped keeps merges op tail clock (both writes before) (both writes_now after_) e
unissued v w now e i own m (IssuesOnKey.unknown a b r) s t = let bad : false ≡ true = sym a ∙ i.entered in absurd (cc)
unissued v w now e i own m (IssuesOnKey.stranger a b d r) s t = absurd (b own)
unissued v w now e i own m (IssuesOnKey.unmerged a b d n g r) s t = IsStopped.unmerged (cc) d (sym m ∙ n) (same-both t s)
unissued v w now e i own m (IssuesOnKey.full a b q d g r) s t = absurd (d 0 (omega arith) (zero-free v i))
unissued v w now e i own m (IssuesOnKey.issues c a b q d g r) s t = absurd (cc)

-- what was counted beside an operation, of a writer that is the same
pub beside-then : {W P : Type 0} (keeps_log : Bool) (writes : W → ℕ) (reads : P → ℕ) {writer_then writer_now : W} (writer : W) (reader reader_now : P) → writer_now ≡ writer_then → IsBeside keeps_log (failures_of writes reads writer reader) (failures_of writes reads writer_then reader_now)
    → IsBeside keeps_log (failures_of writes reads writer reader) (failures_of writes reads writer_now reader_now)
beside-then keeps_log writes reads writer reader reader_now same h = subst (λ w. IsBeside keeps_log (failures_of writes reads writer reader) (failures_of writes reads w reader_now)) (sym same) h

is-given_up : {K V I : Type 0} (v w : PartitionView K V I) (now : ℕ) (r : Result (Unit {0}) Refused) (x : Context K V I) → context_at v 0 0 ≡ Some x → GivesUp v w 0 0 now r → OnOk r (IsGiveUp v w 0 0 now) → IsGiveUp v w 0 0 now
is-given_up v w now (Ok t) x here g event = event
is-given_up v w now (Err e) x here (GivesUp.unknown n s q) event = let bad : None ≡ Some x = sym n ∙ here in absurd (cc)
is-given_up v w now (Err e) x here (GivesUp.gives_up y a b d q) event = absurd (cc)
is-given_up v w now (Err e) x here (GivesUp.cancels y p a b d q) event = absurd (cc)

pub record IsLeft {K V I : Type 0} (keeps merges : Bool) (cmp : K → K → Ordering) (op : KeyedOp K V I) (u w : PartitionView K V I) (clock writes writes_now reads reads_now : ℕ) (e : Refused) : Type 0 where
  pub stays : StaysIdle keeps cmp u w
  pub why : IsStopped keeps merges op w.records.log.tail clock (both writes reads) (both writes_now reads_now) e

-- of the records of an operation that is given up the words of the index alone may be others
words-as : {K V : Type 0} (v : RecordsView K V) {w x : RecordsView K V} → w ≡ x → x ≡ record v { words = x.words } → w ≡ record v { words = w.words }
words-as {K} {V} v e h = subst (λ (r : RecordsView K V). r ≡ record v { words = r.words }) (sym e) h

given-words : {K V I : Type 0} {v w : PartitionView K V I} {slot c now : ℕ} {r : Result (Unit {0}) Refused} → GivesUp v w slot c now r → w.records ≡ record v.records { words = w.records.words }
given-words {K} {V} {I} {v} (GivesUp.unknown n s q) = words-as v.records (ap (λ (x : PartitionView K V I). x.records) s) refl
given-words {K} {V} {I} {v} (GivesUp.gives_up x a b d q) = words-as v.records (ap (λ (x : PartitionView K V I). x.records) d) refl
given-words {K} {V} {I} {v} (GivesUp.cancels x p a b d q) = words-as v.records (ap (λ (x : PartitionView K V I). x.records) d) refl

-- the words of the index play no part in it
full-before : {K V : Type 0} (v w : RecordsView K V) → w ≡ record v { words = w.words } → IsFull w.log → IsFull v.log
full-before {K} {V} v w is full = subst (λ (r : RecordsView K V). IsFull r.log) is full

-- a refused operation, by what it leaves
pub left-runs : {K V I O : Type 0} {keeps : Bool} {cmp : K → K → Ordering} {f : Meanings K V I O} {u w : PartitionView K V I} {op : KeyedOp K V I} {e : Refused} → StaysIdle keeps cmp u w → Runs keeps cmp f u w op (Err e)
left-runs s = record { number = s.number; count = s.count; idle = s.idle; effect = s.live }

module _ {K V I O R : Type 0} {keeps : Bool} {cmp : K → K → Ordering} {join : V → V → V} {f : Meanings K V I O} {code : K → ℕ} {op : KeyedOp K V I} where
  -- ---- how an operation ends of which nothing was open before
  module _ {u v w : PartitionView K V I} {start end before after_ : ℕ} (s : StaysIdle keeps cmp u v) (own : partition_of v.count (code (key_of op)) ≡ v.number) (rest : IsPassedOn v w) (begun : 0 < start) (within : end < 2 ^ 64) where
    pub done-runs : {a : Answer O} {at : ℕ} → Ends {R = R} keeps cmp join f code op v w 0 (2 ^ 64 - 1) start end before after_ (Ok (Done a at)) → Runs keeps cmp f u w op (Ok a)
    done-runs (Ends.barred b n e t r) = absurd (cc)
    done-runs (Ends.late b d n e t r) = absurd (cc)
    done-runs (Ends.unissued why b i n e t r) = absurd (cc)
    done-runs {a} {at} (Ends.done c a2 effect opens d m t r) =
        let same : a ≡ a2 = cc in
        record {
          number = d.frame.number ∙ s.number;
          count = d.frame.count ∙ s.count;
          idle = idle-left v w c w.moment s.idle d.frame rest d.closed;
          effect = λ k. (let maps = same_map (live_of cmp v) (live_of cmp u) (s.live k) in
              (subst (λ m. Same (live_of cmp w) (after cmp f m op)) maps (d.live k), subst (λ m. a ≡ answer f m op) maps (same ∙ d.answers k)));
        }
    done-runs (Ends.waits c why opens d m t r) = absurd (cc)
    done-runs (Ends.refused c why opens d m t r) = absurd (cc)
    done-runs (Ends.stalled c opens d m t r) = absurd (cc)
    done-runs (Ends.exhausted c opens d m b t r) = absurd (cc)

    pub err-left : {merges : Bool} {writes writes_now : ℕ} {e : Refused} → v.merges ≡ merges → writes_now ≡ writes → Ends {O = O} {R = R} keeps cmp join f code op v w 0 (2 ^ 64 - 1) start end before after_ (Err e) → IsLeft keeps merges cmp op u w end writes writes_now before after_ e
    err-left m same (Ends.barred b n e t r) = absurd (omega arith)
    err-left m same (Ends.late b d n e t r) = record { stays = subst (StaysIdle keeps cmp u) (sym n) s; why = IsStopped.unworked (worn-work (cc) (omega arith) same t) }
    err-left {merges} {writes} {writes_now} {e} m same (Ends.unissued why b i n ends t r) = record {
      stays = subst (StaysIdle keeps cmp u) (sym n) s;
      why = subst (λ x. IsStopped keeps merges op w.records.log.tail end (both writes before) (both writes_now after_) x) (let q : why ≡ e = cc in q) (unissued v w (start + 1) why s.idle own m i t same);
    }
    err-left m same (Ends.done c a2 effect opens d b t r) = absurd (cc)
    err-left m same (Ends.waits c why opens d b t r) = absurd (cc)
    err-left {merges} {writes} {writes_now} {e} m same (Ends.refused c why opens d b st r) = record {
      stays = over-stays u v w c s d rest;
      why = subst (λ x. IsStopped keeps merges op w.records.log.tail end (both writes before) (both writes_now after_) x) (let q : why ≡ e = cc in q)
          (subst (λ n. IsStopped keeps merges op n end (both writes before) (both writes_now after_) why) (sym (ap (λ x. x.log.tail) d.records)) (stopped st same));
    }
    -- more events than a clock has moments
    err-left m same (Ends.stalled c opens d b t r) = absurd (omega arith)
    err-left m same (Ends.exhausted c opens d last b t r) = record { stays = over-stays u v w c s d rest; why = IsStopped.unworked (worn-work (cc) (omega arith) same t) }

    -- ---- no failure of the reader is counted where it waits
    pub steady-waits : {why : Wait} → Ends {O = O} {R = R} keeps cmp join f code op v w 0 (2 ^ 64 - 1) start end before after_ (Ok (Waits why)) → after_ ≡ before
    steady-waits (Ends.barred b n e t r) = t
    steady-waits (Ends.late b d n e t r) = t
    steady-waits (Ends.unissued why b i n e t r) = t
    steady-waits (Ends.done c a2 effect opens d b t r) = t
    steady-waits (Ends.waits c why2 opens d b t r) = t
    steady-waits (Ends.refused c why2 opens d b st r) = absurd (cc)
    steady-waits (Ends.stalled c opens d b t r) = t
    steady-waits (Ends.exhausted c opens d last b t r) = t

    -- ---- an operation that waits, and is given up
    waited : {why : Wait} → Ends {O = O} {R = R} keeps cmp join f code op v w 0 (2 ^ 64 - 1) start end before after_ (Ok (Waits why)) → IsWaiting cmp join f code op v w 0 0 (start + 1) why
    waited (Ends.barred b n e t r) = absurd (cc)
    waited (Ends.late b d n e t r) = absurd (cc)
    waited (Ends.unissued why b i n e t r) = absurd (cc)
    waited (Ends.done c a2 effect opens d m t r) = absurd (cc)
    waited {why} (Ends.waits c why2 opens d m t r) =
        let zero_c : c ≡ 0 = first-is-zero v c s.idle opens.free in
        let same : why2 ≡ why = cc in
        subst (λ x. IsWaiting cmp join f code op v w 0 0 (start + 1) x) same (subst (λ x. IsWaiting cmp join f code op v w 0 x (start + 1) why2) zero_c d)
    waited (Ends.refused c why opens d m t r) = absurd (cc)
    waited (Ends.stalled c opens d m t r) = absurd (cc)
    waited (Ends.exhausted c opens d m b t r) = absurd (cc)

    -- it finds no room
    pub waits-room : {why : Wait} → Ends {O = O} {R = R} keeps cmp join f code op v w 0 (2 ^ 64 - 1) start end before after_ (Ok (Waits why)) → IsFull v.records.log
    waits-room {why} ends =
        let h = waited ends in
        let settled = s.idle.settled in
        let sees : seen_at w 0 ≡ view_of v.records.log.regions.offsets = ap (λ (r : RegionsView). view_at r.views 0) h.open_is.frame.regions ∙ settled.sees in
        let same : (seen_at w 0).safe_read_only ≡ (seen_at w 0).read_only = ap (λ (x : View). x.safe_read_only) sees ∙ settled.safe ∙ sym (ap (λ (x : View). x.read_only) sees) in
        full-before v.records w.records h.open_is.records (waits-full cmp join f code w 0 same 0 h.operation why h.reason)

    -- its issue took a moment
    pub waits-later : {why : Wait} → Ends {O = O} {R = R} keeps cmp join f code op v w 0 (2 ^ 64 - 1) start end before after_ (Ok (Waits why)) → start + 1 ≤ w.moment
    waits-later ends = (waited ends).open_is.begun

    -- and leaves the log as it was
    pub wait-log : {why : Wait} {x : PartitionView K V I} {m : ℕ} {r : Result (Unit {0}) Refused} → Ends {O = O} {R = R} keeps cmp join f code op v w 0 (2 ^ 64 - 1) start end before after_ (Ok (Waits why)) → GivesUp w x 0 0 m r → IsSameLog keeps v x
    wait-log {why} {x} ends gives = log-then {v = w} (log-words {v = v} {w = w} (waited ends).open_is.records) (log-words {v = w} {w = x} (given-words gives))

    pub wait-given_up : {why : Wait} {x : PartitionView K V I} {m : ℕ} {r : Result (Unit {0}) Refused} → Ends {O = O} {R = R} keeps cmp join f code op v w 0 (2 ^ 64 - 1) start end before after_ (Ok (Waits why)) → GivesUp w x 0 0 m r → OnOk r (IsGiveUp w x 0 0 m) → IsPassedOn w x → StaysIdle keeps cmp u x
    wait-given_up {why} {x} {m} {r} ends gives event passed =
        let h = waited ends in
        let given = is-given_up w x m r h.operation h.open_is.here gives event in
        let o = h.open_is in
        record {
          number = given.frame.number ∙ o.frame.number ∙ s.number;
          count = given.frame.count ∙ o.frame.count ∙ s.count;
          idle = idle-left v x 0 x.moment s.idle (record {
            others = λ a d n. given.frame.others a d n ∙ o.frame.others a d n;
            number = given.frame.number ∙ o.frame.number;
            count = given.frame.count ∙ o.frame.count;
            begin = given.frame.begin ∙ o.frame.begin;
            regions = given.frame.regions ∙ o.frame.regions;
            rises = omega arith;
            moment = refl;
          }) (rest-then v w x rest passed) (none-mapped asked_by (context_at x 0 0) given.closed);
          live = λ k q. ap (λ t. live cmp t q) given.text ∙ ap (λ r. live cmp r.text q) o.records ∙ s.live k q;
        }
