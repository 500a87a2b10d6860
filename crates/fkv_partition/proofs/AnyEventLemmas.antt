-- What every event of a partition leaves, relocations among them.
use Rattle.std.proofs.Common.{◌≡◌, ◌≤◌, ℕ, Bool, IsTrue, List, Option, Some, Result, Err, refl, ◌∙◌, ap, subst}
use Rattle.std.specs.declared.cmp.Ordering.{Ordering}
use Rattle.fkv_functions.specs.Meanings.{Meanings}
use Rattle.fkv_functions.specs.Plain.{IsKeyOrder}
use Rattle.fkv_functions.specs.declared.refusals.Refused.{Refused}
use Rattle.fkv_functions.specs.declared.refusals.Refused.TheVariants.{NoMemory}
use Rattle.fkv_records.specs.Places.{start_at}
use Rattle.fkv_device.specs.Standing.{Standing, Joined}
use Rattle.fkv_texts.specs.declared.entries.Entry.{Entry}
use Rattle.fkv_texts.specs.Deltas.{IsCleared}
use Rattle.fkv_index.specs.Places.{IsPlace}
use Rattle.fkv_operations.specs.declared.entries.IndexEntry.{IndexEntry}
use Rattle.fkv_operations.specs.declared.operations.KeyedOp.{KeyedOp}
use Rattle.fkv_lookups.specs.RecordsViews.{class_in, with_written}
use Rattle.fkv_hybrid.specs.Views.{IsTruncationDue}
use Rattle.fkv_lookups.specs.declared.payloads.Payload.{Payload}
use Rattle.fkv_lookups.specs.declared.payloads.Payload.TheVariants.{Whole}
use Rattle.fkv_partition.specs.declared.contexts.Progress.{Progress}
use Rattle.fkv_partition.specs.declared.relocations.Relocation.{Relocation}
use Rattle.fkv_partition.specs.declared.relocations.Stage.{Stage}
use Rattle.fkv_partition.specs.declared.relocations.Stage.TheVariants.{Tracing, Ready}
use Rattle.fkv_partition.specs.KeyGoing as core_going
use Rattle.fkv_partition.specs.Cutting as core_truncating
use Rattle.fkv_partition.specs.KeyLoading.{ReadsBy}
use Rattle.fkv_partition.specs.AnyEvent.{Event}
use Rattle.fkv_partition.specs.Beginning.{IssuesOnKey, Relocates, LeavesAll, Drops}
use Rattle.fkv_partition.specs.Checking.{Ends, Asks, ChecksLiveness, renewed}
use Rattle.fkv_partition.specs.Events.{Issues, Goes, Installs, Loads, LoadsBy, GivesUp}
use Rattle.fkv_partition.specs.Going.{GoesOn}
use Rattle.fkv_partition.specs.Grown.{IsPreserved}
use Rattle.fkv_partition.specs.Reading.{LoadsOn}
use Rattle.fkv_partition.specs.Sound.{IsPartition}
use Rattle.fkv_partition.specs.Stages.{StageStands}
use Rattle.fkv_partition.specs.Truncating.{Truncates}
use Rattle.fkv_partition.specs.Views.{PartitionView, relocation_at}
use Rattle.fkv_partition.proofs.MoveLemmas.{stands-here}
use Rattle.fkv_partition.proofs.PreservedLemmas.{borne-same, borne-record, found-place, installs-bear, loads-bear, gives-up-bear, enters-bear, leaves-bear, refreshes-bear, shifts-bear, evicts-bear, flushes-bear}
use Rattle.fkv_partition.proofs.TruncateLemmas.{cleared-below}

module _ {K V I : Type 0} {keeps : Bool} (cmp : K → K → Ordering) (join : V → V → V) (code : K → ℕ) (v : PartitionView K V I) (s : IsPartition keeps cmp join code v) (new : PartitionView K V I)
    (grows : (e : IndexEntry) (key : K) (payload : Payload V) (has : Option V) (limit : ℕ) → limit ≤ v.records.log.tail → IsCleared cmp v.records.log.text limit → IsCleared cmp (with_written v.records e key payload has).log.text limit) where
  -- the records stay
  same : new.records ≡ v.records → IsPreserved keeps cmp join code v new
  same is = borne-same cmp join code v s.sound new is

  -- what an open relocation stands for
  stage-here : (slot c : ℕ) (x : Relocation K V) → relocation_at v slot c ≡ Some x → (stage : Stage K V) → x.stage ≡ stage → StageStands keeps cmp join code v x.target stage
  stage-here slot c x h stage is = subst (λ t. StageStands keeps cmp join code v x.target t) is (stands-here v slot c x h s.compacting).stage

  -- ---- relocations
  module _ {O R : Type 0} (slot c now : ℕ) (x : Relocation K V) where
    ends-bear : (entry : Entry K V) (kept : IndexEntry) (result : Result (Progress K V I O R) Refused) → IsPlace v.records.words kept.place → Ends v new slot c x entry kept now result → IsPreserved keeps cmp join code v new
    ends-bear entry kept result place (Ends.moved h is r) = same (ap (λ (u : PartitionView K V I). u.records) is)
    ends-bear entry kept result place (Ends.worn h at is r) = same (ap (λ (u : PartitionView K V I). u.records) is)
    ends-bear entry kept result place (Ends.full h full is r) = same (ap (λ (u : PartitionView K V I). u.records) is)
    ends-bear entry kept result place (Ends.appends h room free is r) =
        borne-record cmp join code v s.sound new kept entry.key (Whole entry.value) entry.value place (grows kept entry.key (Whole entry.value) entry.value) (ap (λ (u : PartitionView K V I). u.records) is)

    asks-bear : (stands : R → Standing) (asking : PartitionView K V I) (wanted : ℕ) (result : Result (Progress K V I O R) Refused) → asking.records ≡ v.records → Asks stands v new asking wanted result → IsPreserved keeps cmp join code v new
    asks-bear stands asking wanted result still (Asks.asks r held is t) = same (ap (λ (u : PartitionView K V I). u.records) is ∙ still)
    asks-bear stands asking wanted result still (Asks.unshared is r) = same (ap (λ (u : PartitionView K V I). u.records) is)

    checks-bear : (stands : R → Standing) (entry : Entry K V) (result : Result (Progress K V I O R) Refused) → ChecksLiveness stands cmp join code v new slot c x entry now result → IsPreserved keeps cmp join code v new
    checks-bear stands entry result (ChecksLiveness.superseded n is r) = same (ap (λ (u : PartitionView K V I). u.records) is)
    checks-bear stands entry result (ChecksLiveness.last kept parts checked ends) =
        let class = class_in code v.records entry.key in
        ends-bear (renewed join entry parts) kept result (found-place v.records.words class.bucket class.tag kept checked.leads) ends
    checks-bear stands entry result (ChecksLiveness.further kept b parts checked then) = asks-bear stands _ b result refl then

  goes-on-bears : {O R : Type 0} (stands : R → Standing) (slot c now : ℕ) (result : Result (Progress K V I O R) Refused) → GoesOn stands cmp join code v new slot c now result → IsPreserved keeps cmp join code v new
  goes-on-bears stands slot c now result (GoesOn.unknown h is r) = same (ap (λ (u : PartitionView K V I). u.records) is)
  goes-on-bears stands slot c now result (GoesOn.not_ready x a h waits is r) = same (ap (λ (u : PartitionView K V I). u.records) is)
  goes-on-bears stands slot c now result (GoesOn.again x entry kept h stage ends) =
      ends-bear slot c now x entry kept result (stage-here slot c x h (Ready entry kept) stage).1.is_kept.entry.place ends
  goes-on-bears stands slot c now result (GoesOn.passed x h stage low is r) = same (ap (λ (u : PartitionView K V I). u.records) is)
  goes-on-bears stands slot c now result (GoesOn.checks x entry h stage at low here checks) = checks-bear slot c now x stands entry result checks
  goes-on-bears stands slot c now result (GoesOn.reads x h stage at low then) = asks-bear slot c now x stands _ x.target result refl then

  loads-on-bears : {O R : Type 0} (stands : R → Standing) (spells : ℕ → List ℕ → ℕ → Entry K V → Type 0) (slot c : ℕ) (came : Result (Joined R) Refused) (now : ℕ) (result : Result (Progress K V I O R) Refused)
      → LoadsOn stands spells cmp join code v new slot c came now result
      → IsPreserved keeps cmp join code v new
  loads-on-bears stands spells slot c came now result (LoadsOn.unknown h is r) = same (ap (λ (u : PartitionView K V I). u.records) is)
  loads-on-bears stands spells slot c came now result (LoadsOn.not_ready x h waits is r) = same (ap (λ (u : PartitionView K V I). u.records) is)
  loads-on-bears stands spells slot c came now result (LoadsOn.moved x a h waits begin is r) = same (ap (λ (u : PartitionView K V I). u.records) is)
  loads-on-bears stands spells slot c came now result (LoadsOn.failed x wanted why h at n is r) = same (ap (λ (u : PartitionView K V I). u.records) is)
  loads-on-bears stands spells slot c came now result (LoadsOn.unread x wanted h at is r) = same (ap (λ (u : PartitionView K V I). u.records) is)
  loads-on-bears stands spells slot c came now result (LoadsOn.stranger x wanted p st h at own n is r) = same (ap (λ (u : PartitionView K V I). u.records) is)
  loads-on-bears stands spells slot c came now result (LoadsOn.checks x begin p e stage h at spelled checks) = checks-bear slot c now x stands e result checks
  loads-on-bears stands spells slot c came now result (LoadsOn.damaged x begin p stage h at none is r) = same (ap (λ (u : PartitionView K V I). u.records) is)
  loads-on-bears stands spells slot c came now result (LoadsOn.newer x e l p found stage h at to live is r) = same (ap (λ (u : PartitionView K V I). u.records) is)
  loads-on-bears stands spells slot c came now result (LoadsOn.ends x e l p found parts stage h at to live ends) =
      ends-bear slot c now x (renewed join e parts) l.kept result (stage-here slot c x h.awaits.here (Tracing e l) stage).1.loading.entry.place ends
  loads-on-bears stands spells slot c came now result (LoadsOn.further x e l p b parts stage h at to high start then) = asks-bear slot c now x stands _ b result refl then
  loads-on-bears stands spells slot c came now result (LoadsOn.bad_record x e l p why stage h at to is r) = same (ap (λ (u : PartitionView K V I). u.records) is)
  loads-on-bears stands spells slot c came now result (LoadsOn.bad_link x e l p b parts stage h at to high start is r) = same (ap (λ (u : PartitionView K V I). u.records) is)

  drops-bear : (slot c now : ℕ) (result : Result (Unit {0}) Refused) → Drops v new slot c now result → IsPreserved keeps cmp join code v new
  drops-bear slot c now result (Drops.unknown h is r) = same (ap (λ (u : PartitionView K V I). u.records) is)
  drops-bear slot c now result (Drops.drops x h is r) = same (ap (λ (u : PartitionView K V I). u.records) is)

  relocates-bear : (slot now : ℕ) (result : Result ℕ Refused) → Relocates v new slot now result → IsPreserved keeps cmp join code v new
  relocates-bear slot now result (Relocates.unknown h is r) = same (ap (λ (u : PartitionView K V I). u.records) is)
  relocates-bear slot now result (Relocates.not_due h low is r) = same (ap (λ (u : PartitionView K V I). u.records) is)
  relocates-bear slot now result (Relocates.full h low none is r) = same (ap (λ (u : PartitionView K V I). u.records) is)
  relocates-bear slot now result (Relocates.relocates c h low first is r) = same (ap (λ (u : PartitionView K V I). u.records) is)

  -- ---- operations on keys, sessions and pages
  issues-on-key-bear : (slot : ℕ) (op : KeyedOp K V I) (now : ℕ) (result : Result ℕ Refused) → IssuesOnKey code v new slot op now result → IsPreserved keeps cmp join code v new
  issues-on-key-bear slot op now result (IssuesOnKey.unknown h is r) = same (ap (λ (u : PartitionView K V I). u.records) is)
  issues-on-key-bear slot op now result (IssuesOnKey.stranger h n is r) = same (ap (λ (u : PartitionView K V I). u.records) is)
  issues-on-key-bear slot op now result (IssuesOnKey.unmerged h own merge lacks is r) = same (ap (λ (u : PartitionView K V I). u.records) is)
  issues-on-key-bear slot op now result (IssuesOnKey.full h own merge none is r) = same (ap (λ (u : PartitionView K V I). u.records) is)
  issues-on-key-bear slot op now result (IssuesOnKey.issues c h own merge first is r) = same (ap (λ (u : PartitionView K V I). u.records) is)

  leaves-all-bears : (slot now : ℕ) (result : Result (Unit {0}) Refused) → LeavesAll keeps v new slot now result → IsPreserved keeps cmp join code v new
  leaves-all-bears slot now result (LeavesAll.busy c x h is r) = same (ap (λ (u : PartitionView K V I). u.records) is)
  leaves-all-bears slot now result (LeavesAll.leaves none gone) = leaves-bear cmp join code v s.sound new slot now result gone

  module _ {O R : Type 0} (stands : R → Standing) (spells : ℕ → List ℕ → ℕ → Entry K V → Type 0) (f : Meanings K V I O) where
    loads-bear-all : (slot c : ℕ) (came : Result (Joined R) Refused) (now : ℕ) (result : Result (Progress K V I O R) Refused)
        → Loads stands spells cmp join f code v new slot c came now result
        → IsPreserved keeps cmp join code v new
    loads-bear-all slot c came now result (Loads.on_key none loads rest) = loads-bear cmp join code v s.sound new slot c now stands spells f came result loads
    loads-bear-all slot c came now result (Loads.relocation x h loads) = loads-on-bears stands spells slot c came now result loads

    reads-bear : (slot c now before after : ℕ) (result : Result (Progress K V I O R) Refused)
        → LoadsBy stands spells cmp join f code v new slot c now before after result
        → IsPreserved keeps cmp join code v new
    reads-bear slot c now before after result (ReadsBy.idle none loads count) = loads-bear-all slot c (Err NoMemory) now result (loads (Err NoMemory))
    reads-bear slot c now before after result (ReadsBy.came page p awaits held loads count) = loads-bear-all slot c _ now result loads
    reads-bear slot c now before after result (ReadsBy.failed page why awaits fails is r) = same (ap (λ (u : PartitionView K V I). u.records) is)

    module _ (order : IsKeyOrder cmp) (is_partition : IsPartition keeps cmp join code new)
        (goes-bear : (slot c now : ℕ) (result : Result (Progress K V I O R) Refused) → core_going.Goes stands cmp join f code v new slot c now result → IsPreserved keeps cmp join code v new)
        (truncates-bear : (page now : ℕ) (result : Result (Unit {0}) Refused) → (IsTrue keeps → IsTruncationDue v.records.log page → IsCleared cmp v.records.log.text (start_at v.records.log.bits page)) → core_truncating.Truncates keeps v new page now result → IsPreserved keeps cmp join code v new) where
      cuts-bear : (page now : ℕ) (result : Result (Unit {0}) Refused) → Truncates keeps v new page now result → IsPreserved keeps cmp join code v new
      cuts-bear page now result (Truncates.not_due n is r) = same (ap (λ (u : PartitionView K V I). u.records) is)
      cuts-bear page now result (Truncates.truncates due is r) =
          let old = v.records in
          truncates-bear page now result
          (λ yes_keeps at. cleared-below cmp old.log.text (start_at old.log.bits page) v.cleared due.cleared (s.compacting.cleared yes_keeps))
          (core_truncating.Truncates.truncates due.due is r)

      pub event-bears : Event keeps stands spells cmp join f code v new → IsPreserved keeps cmp join code v new
      event-bears (Event.enters now result h) = enters-bear cmp join code v s.sound new now result h.does
      event-bears (Event.leaves slot now result h) = leaves-all-bears slot now result h
      event-bears (Event.refreshes slot now result h) = refreshes-bear cmp join code v s.sound new slot now result h.does
      event-bears (Event.issues slot op now result (Issues.on_key o is h)) = issues-on-key-bear slot o now result h
      event-bears (Event.issues slot op now result (Issues.relocation is h)) = relocates-bear slot now result h
      event-bears (Event.goes slot c now result (Goes.on_key none h rest)) = goes-bear slot c now result h
      event-bears (Event.goes slot c now result (Goes.relocation x h goes)) = goes-on-bears stands slot c now result goes
      event-bears (Event.installs slot c ask now result (Installs.on_key none h rest)) =
          installs-bear cmp join code v s.sound new slot c now f ask result grows h
      event-bears (Event.installs slot c ask now result (Installs.relocation x h is r)) = same (ap (λ (u : PartitionView K V I). u.records) is)
      event-bears (Event.loads slot c came now result h) = loads-bear-all slot c came now result h
      event-bears (Event.loads_by slot c now before after result h) = reads-bear slot c now before after result h
      event-bears (Event.gives_up slot c now result (GivesUp.on_key none h rest)) = gives-up-bear cmp join code v s.sound new slot c now result h
      event-bears (Event.gives_up slot c now result (GivesUp.relocation x h dropped)) = drops-bear slot c now result dropped
      event-bears (Event.shifts page now result h) = shifts-bear cmp join code v s.sound new page now result h.does
      event-bears (Event.evicts page now result h) = evicts-bear cmp join code v s.sound new page now result h.does
      event-bears (Event.flushes st bytes now result h) = flushes-bear cmp join code v s.sound new st bytes now result h.does
      event-bears (Event.truncates page now result h) = cuts-bear page now result h
      event-bears (Event.takes now is) = same (ap (λ (u : PartitionView K V I). u.records) is)
      event-bears (Event.takes_none is) = same (ap (λ (u : PartitionView K V I). u.records) is)
