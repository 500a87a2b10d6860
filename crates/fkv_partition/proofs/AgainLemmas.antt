-- What appending the record of a place again leaves: the live map, what operations are to find, and a record that is superseded.
use Rattle.std.proofs.Common.{◌≡◌, ◌==◌, ◌+◌, ◌*◌, ◌<◌, ℕ, Bool, cond, IsTrue, Option, Some, None, option_map, slice_get, refl, sym, ap, ◌∙◌, arith, false}
use Rattle.std.proofs.lemmas.Bool.{eqb-true}
use Rattle.std.specs.declared.cmp.Ordering.{Ordering}
use Rattle.fkv_functions.specs.Plain.{IsKeyOrder}
use Rattle.fkv_texts.specs.declared.entries.Entry.{Entry}
use Rattle.fkv_texts.specs.Text.{entry_at, newest, live, value_of}
use Rattle.fkv_texts.proofs.LastWhere.{last_where-found}
use Rattle.fkv_texts.proofs.TextLemmas.{entry_at-old, newest-below}
use Rattle.fkv_index.specs.Words.{address_of}
use Rattle.fkv_index.specs.Places.{word_at}
use Rattle.fkv_operations.specs.declared.entries.IndexEntry.{IndexEntry}
use Rattle.fkv_operations.specs.declared.operations.KeyedOp.{KeyedOp}
use Rattle.fkv_operations.specs.declared.operations.KeyedOp.TheVariants.{Read, Upsert, Rmw, Delete, Merge}
use Rattle.fkv_texts.specs.Deltas.{IsSuperseded}
use Rattle.fkv_lookups.specs.RecordsViews.{RecordsView, class_in, entry_of, IsEntryOf, with_record}
use Rattle.fkv_lookups.specs.declared.payloads.Payload.TheVariants.{Whole}
use Rattle.fkv_lookups.proofs.TracedLemmas.{entry-stands, traced-held}
use Rattle.fkv_lookups.proofs.ClearedLemmas.{superseded-renewed, lives-renewed}
use Rattle.fkv_partition.specs.declared.contexts.Context.{Context}
use Rattle.fkv_partition.specs.declared.contexts.Loading.{Loading}
use Rattle.fkv_partition.specs.declared.contexts.Phase.{Phase}
use Rattle.fkv_partition.specs.declared.contexts.Phase.TheVariants as phase
use Rattle.fkv_partition.specs.Contexts.{joined, on_key, relocating, claim_at}
use Rattle.fkv_partition.specs.KeyEffect.{asked_by}
use Rattle.fkv_partition.specs.Pending.{pending_by, pending_of, AllPend}
use Rattle.fkv_partition.specs.KeySound.{IsLoading, StandsFor, IsSound}
use Rattle.fkv_partition.specs.Views.{PartitionView, slots_of, context_at, with_appended, relocation_at, again_at}
use Rattle.fkv_partition.specs.Writes.{IsWrite}
use Rattle.fkv_partition.proofs.AskedLemmas.{context-other, keyless-claims, shown-stays}
use Rattle.fkv_partition.proofs.EventLemmas.{stands-at}
use Rattle.fkv_partition.specs.declared.contexts.OpenWork.{OpenWork}
use Rattle.fkv_partition.specs.declared.relocations.Relocation.{Relocation}
use Rattle.fkv_partition.specs.declared.relocations.Stage.{Stage}
use Rattle.fkv_partition.specs.declared.relocations.Stage.TheVariants.{Fresh, Reading, Tracing, Ready}
use Rattle.fkv_partition.specs.Stages.{StageStands}
use Rattle.fkv_partition.specs.Sound.{IsCompacting}
use Rattle.fkv_partition.specs.Relocating.{IsRelocating}
use Rattle.fkv_partition.proofs.MoveLemmas.{past-place, open-here, keyless-here, stands-here}

-- ---- a moment passes
moment-stage : {K V I : Type 0} (keeps : Bool) (cmp : K → K → Ordering) (join : V → V → V) (code : K → ℕ) (v : PartitionView K V I) (now place : ℕ) (stage : Stage K V) → StageStands keeps cmp join code v place stage → StageStands keeps cmp join code (record v { moment = now }) place stage
moment-stage keeps cmp join code v now place Fresh h = tt
moment-stage keeps cmp join code v now place (Reading begin) h = h
moment-stage keeps cmp join code v now place (Tracing entry l) h = h
moment-stage keeps cmp join code v now place (Ready entry kept) h = h

pub keep-moment : {K V I : Type 0} {keeps : Bool} {cmp : K → K → Ordering} {join : V → V → V} {code : K → ℕ} (v : PartitionView K V I) → IsCompacting keeps cmp join code v → (now : ℕ) → IsCompacting keeps cmp join code (record v { moment = now })
keep-moment {keeps = keeps} {cmp = cmp} {join = join} {code = code} v s now = record {
  begun = s.begun;
  low = s.low;
  place = s.place;
  cleared = s.cleared;
  stands = λ p x h. (let was = s.stands p x h in record { place = was.place; frozen = was.frozen; issued = was.issued; stage = moment-stage keeps cmp join code v now x.target x.stage was.stage });
}

-- ---- what look-ups that wait for a page are to find
module _ {K V : Type 0} (keeps : Bool) (cmp : K → K → Ordering) (join : V → V → V) (code : K → ℕ) (r : RecordsView K V) (e : IndexEntry) (key : K) (value : Option V) where
  kept-same : (k : K) (l : Loading V) → IsLoading keeps cmp join code r k l → newest cmp (with_record r e key value).text k (address_of l.kept.word) ≡ newest cmp r.text k (address_of l.kept.word)
  kept-same k l h = newest-below cmp r.text (record { address = r.log.tail; previous = address_of e.word; key = key; value = value; delta = false }) k (address_of l.kept.word) h.low

  pending-same : {I : Type 0} (op : KeyedOp K V I) (p : Phase V) → StandsFor keeps cmp join code r op p → pending_by cmp (with_record r e key value) op p ≡ pending_by cmp r op p
  pending-same op phase.Fresh h = refl
  pending-same op (phase.Confirm q) h = refl
  pending-same op (phase.Prepared b s) h = refl
  pending-same (Read k i) (phase.Load l) h = ap (λ o. cond (l.begin == r.log.begin) (Some (record { moment = l.looked; value = value_of o })) None) (kept-same k l h)
  pending-same (Upsert k u) (phase.Load l) h = absurd h
  pending-same (Rmw k i) (phase.Load l) h = ap (λ o. cond (l.begin == r.log.begin) (Some (record { moment = l.looked; value = value_of o })) None) (kept-same k l h)
  pending-same (Delete k) (phase.Load l) h = absurd h
  pending-same (Merge k i) (phase.Load l) h = absurd h

module _ {K V I : Type 0} {keeps : Bool} (cmp : K → K → Ordering) (join : V → V → V) (code : K → ℕ) (v : PartitionView K V I) (s : IsCompacting keeps cmp join code v) (slot c now : ℕ) (x : Relocation K V) (h : relocation_at v slot c ≡ Some x) where
  pub unclaimed : claim_at v.contexts (slot * 8 + c) ≡ None
  unclaimed = keyless-claims (joined (slice_get v.contexts (slot * 8 + c))) (keyless-here v slot c x h)

  contexts-same : (a d : ℕ) (e : IndexEntry) (key : K) (value : Option V) → context_at (with_appended v slot c e key value now) a d ≡ context_at v a d
  contexts-same a d e key value = shown-stays {A = OpenWork K V I} on_key refl (slots_of v) v.contexts slot c a d None (keyless-here v slot c x h) refl

  all-pend : IsSound keeps cmp join code v → (e : IndexEntry) (key : K) (value : Option V) → AllPend cmp v (with_appended v slot c e key value now)
  all-pend p e key value a d = ap (pending_of cmp (with_record v.records e key value)) (contexts-same a d e key value) ∙ by_context (context_at v a d) refl
    where
      by_context : (o : Option (Context K V I)) → context_at v a d ≡ o → pending_of cmp (with_record v.records e key value) o ≡ pending_of cmp v.records o
      by_context None g = refl
      by_context (Some y) g = pending-same keeps cmp join code v.records e key value y.op y.phase (stands-at cmp join code v p a d y g)

  module _ (p : IsSound keeps cmp join code v) (e : Entry K V) (kept : IndexEntry) (stands : StageStands keeps cmp join code v x.target (Ready e kept)) (holds : word_at v.records.words kept.place ≡ kept.word) where
    -- the entry stands as that of the record's class
    entry-here : IsEntryOf v.records (class_in code v.records e.key) kept
    entry-here = let was = stands.1.is_kept.entry in record { bucket = was.bucket; place = was.place; word = holds; final = was.final; tag = was.tag }

    pub writes-again : IsWrite code v (record { entry = kept; key = e.key; payload = Whole e.value })
    writes-again = record { own = stands.0; entry = entry-here }

    leads : entry_of v.records (class_in code v.records e.key) ≡ Some (address_of kept.word)
    leads =
        let class = class_in code v.records e.key in
        entry-stands v.records.words class.bucket class.tag kept.place kept.word p.traced.map entry-here

    -- on a device that keeps its key has its value
    held : IsKeyOrder cmp → IsTrue keeps → live cmp v.records.text e.key ≡ e.value
    held order yes_keeps = ap value_of (sym (traced-held cmp code v.records e.key order p.traced (address_of kept.word) leads)) ∙ stands.1.is_kept.value yes_keeps holds

    -- the record of the place is superseded then
    pub superseded-again : IsKeyOrder cmp → IsTrue keeps → (d : Entry K V) → entry_at (with_record v.records kept e.key e.value).log.text x.target ≡ Some d → IsSuperseded cmp (with_record v.records kept e.key e.value).log.text d
    superseded-again order yes_keeps d there =
        let r = v.records in
        let n : Entry K V = record { address = r.log.tail; previous = address_of kept.word; key = e.key; value = e.value; delta = false } in
        let frozen = (stands-here v slot c x h s).frozen in
        let o = p.traced.regions.agree.in_order in
        let low : x.target < r.log.tail = omega (arith, frozen, o.safe, p.traced.regions.read_only) in
        let was : entry_at r.log.text x.target ≡ Some d = sym (entry_at-old r.log.text n x.target (λ same. omega arith)) ∙ there in
        let at = eqb-true d.address x.target (last_where-found (λ y. y.address == x.target) r.log.text d was) in
        superseded-renewed cmp r.log.text order n d (sym (stands.1.own yes_keeps d was)) refl (omega arith)

    pub event-again : IsKeyOrder cmp → IsRelocating keeps cmp v (again_at v slot c x.target kept e now) slot c now
    event-again order = record {
      same = λ a d. ap (option_map asked_by) (contexts-same a d kept e.key e.value);
      pend = λ yes_keeps. all-pend p kept e.key e.value;
      live = λ yes_keeps. lives-renewed cmp v.records.text order (record { address = v.records.log.tail; previous = address_of kept.word; key = e.key; value = e.value; delta = false }) (held order yes_keeps);
      others = λ a d other. ap relocating (context-other (slots_of v) v.contexts slot c a d None (open-here v slot c x h).low other);
      rises = (past-place v x.target p.traced (stands-here v slot c x h s).place).0;
      number = refl;
      count = refl;
      begin = refl;
      regions = refl;
      moment = refl;
    }
