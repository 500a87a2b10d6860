-- What `resume_load` does with a page that was read for a relocation, or with what came in its place: a rule for each case, in
-- the order of the tests.
use Rattle.std.specs.Prelude.{◌≡◌, ◌≢◌, ◌<◌, ◌+◌, ℕ, List, Option, Some, None, Result, Ok, Err}
use Rattle.std.specs.declared.cmp.Ordering.{Ordering}
use Rattle.fkv_functions.specs.declared.refusals.Refused.{Refused}
use Rattle.fkv_functions.specs.declared.refusals.Refused.TheVariants.{Unknown, NotReady, Stranger, Damaged, NoMemory}
use Rattle.fkv_functions.specs.declared.refusals.What.TheVariants as what
use Rattle.fkv_records.specs.Places.{page_at, IsRecordStart}
use Rattle.fkv_device.specs.Standing.{Standing, Joined}
use Rattle.fkv_texts.specs.declared.entries.Entry.{Entry}
use Rattle.fkv_texts.specs.declared.entries.ChainPosition.TheVariants.{Below}
use Rattle.fkv_hybrid.specs.Loads.{IsHeldBy, first_place}
use Rattle.fkv_lookups.specs.declared.chain_results.ChainResult.{ChainResult}
use Rattle.fkv_lookups.specs.Lookups.{ComesToInPage}
use Rattle.fkv_partition.specs.KeyLoading.{ReadsBy}
use Rattle.fkv_partition.specs.declared.contexts.Loading.{Loading}
use Rattle.fkv_partition.specs.declared.relocations.Relocation.{Relocation}
use Rattle.fkv_partition.specs.declared.relocations.Stage.TheVariants.{Fresh, Reading, Tracing}
use Rattle.fkv_partition.specs.declared.relocations.Liveness.TheVariants.{Superseded, Last}
use Rattle.fkv_partition.specs.declared.contexts.Progress.{Progress}
use Rattle.fkv_partition.specs.declared.contexts.Progress.TheVariants.{Done, Next}
use Rattle.fkv_operations.specs.declared.operations.Answer.TheVariants.{Cleared}
use Rattle.fkv_partition.specs.Views.{PartitionView, relocation_at, with_relocation, at_stage, done_at}
use Rattle.fkv_partition.specs.Checking.{higher_of, liveness, renewed, Ends, Asks, ChecksLiveness}
use Rattle.fkv_partition.specs.Going.{Awaited, awaited}

-- the relocation that is open in a context waits for the page of this address, and Begin has not moved since
pub record AwaitsPage {K V I : Type 0} (v : PartitionView K V I) (slot c : ℕ) (x : Relocation K V) (wanted : ℕ)
    : Type 0 where
  pub here : relocation_at v slot c ≡ Some x
  pub awaits : awaited x ≡ Some (record { begin = v.records.log.begin; wanted = wanted })

-- and the page is the one that is kept of that address
pub record HasPage {K V I : Type 0} (v : PartitionView K V I) (slot c : ℕ) (x : Relocation K V) (wanted : ℕ)
    (s : Standing) : Type 0 where
  pub awaits : AwaitsPage v slot c x wanted
  pub own : IsHeldBy v.records.log.receipts (page_at v.records.log.bits wanted) s

-- from the address wanted, with the parts that were collected, the records that the page's bytes spell above a place come to
-- this
abbrev pub TracesTo : {K V I : Type 0} → (ℕ → List ℕ → ℕ → Entry K V → Type 0) → (K → K → Ordering) → (V → V → V)
    → PartitionView K V I → ℕ → K → Loading V → List ℕ → Result (ChainResult K V) Refused → Type 0
TracesTo entry cmp join v place k l bytes reached = ComesToInPage join (entry v.records.log.bits bytes) cmp k
    v.records.log.bits
    (higher_of (place + 1) (first_place v.records.log.bits (page_at v.records.log.bits l.wanted)))
    l.wanted l.parts reached

pub data LoadsOn {K V I O R : Type 0} (stands : R → Standing) (spells : ℕ → List ℕ → ℕ → Entry K V → Type 0)
    (cmp : K → K → Ordering) (join : V → V → V) (code : K → ℕ) (old new : PartitionView K V I) (slot c : ℕ)
    (came : Result (Joined R) Refused) (now : ℕ) (result : Result (Progress K V I O R) Refused) : Type 0 where
  unknown : relocation_at old slot c ≡ None
      → new ≡ old
      → result ≡ Err Unknown
      → LoadsOn stands spells cmp join code old new slot c came now result
  not_ready : (x : Relocation K V)
      → relocation_at old slot c ≡ Some x
      → awaited x ≡ None
      → new ≡ old
      → result ≡ Err NotReady
      → LoadsOn stands spells cmp join code old new slot c came now result
  -- Begin has moved since the page was asked for: whatever was handed in, the relocation is to begin anew
  moved : (x : Relocation K V) (a : Awaited)
      → relocation_at old slot c ≡ Some x
      → awaited x ≡ Some a
      → a.begin ≢ old.records.log.begin
      → new ≡ with_relocation old slot c (Some (at_stage x Fresh)) now
      → result ≡ Ok Next
      → LoadsOn stands spells cmp join code old new slot c came now result
  -- the page could not be read: the relocation ends without effect, unless it was memory that was wanted
  failed : (x : Relocation K V) (wanted : ℕ) (why : Refused)
      → AwaitsPage old slot c x wanted
      → came ≡ Err why
      → why ≢ NoMemory
      → new ≡ with_relocation old slot c None now
      → result ≡ Err why
      → LoadsOn stands spells cmp join code old new slot c came now result
  unread : (x : Relocation K V) (wanted : ℕ)
      → AwaitsPage old slot c x wanted
      → came ≡ Err NoMemory
      → new ≡ old
      → result ≡ Err NoMemory
      → LoadsOn stands spells cmp join code old new slot c came now result
  -- the page was read by another receipt than the one that is kept of it
  stranger : (x : Relocation K V) (wanted : ℕ) (p : Joined R) (s : Standing)
      → AwaitsPage old slot c x wanted
      → came ≡ Ok p
      → IsHeldBy old.records.log.receipts (page_at old.records.log.bits wanted) s
      → s ≢ stands p.receipt
      → new ≡ old
      → result ≡ Err (Stranger what.Receipt s.number (stands p.receipt).number)
      → LoadsOn stands spells cmp join code old new slot c came now result
  -- it is the page of its place: the record that the bytes spell there is checked, or they spell none, and the relocation
  -- ends without effect
  checks : (x : Relocation K V) (begin : ℕ) (p : Joined R) (e : Entry K V)
      → x.stage ≡ Reading begin
      → HasPage old slot c x x.target (stands p.receipt)
      → came ≡ Ok p
      → spells old.records.log.bits p.bytes x.target e
      → ChecksLiveness stands cmp join code old new slot c x e now result
      → LoadsOn stands spells cmp join code old new slot c came now result
  damaged : (x : Relocation K V) (begin : ℕ) (p : Joined R)
      → x.stage ≡ Reading begin
      → HasPage old slot c x x.target (stands p.receipt)
      → came ≡ Ok p
      → ((e : Entry K V) → spells old.records.log.bits p.bytes x.target e → ⊥)
      → new ≡ with_relocation old slot c None now
      → result ≡ Err (Damaged (page_at old.records.log.bits x.target))
      → LoadsOn stands spells cmp join code old new slot c came now result
  -- it is a page on the way from the entry to its place: a newer record of the key that is no delta is met
  newer : (x : Relocation K V) (e : Entry K V) (l : Loading V) (p : Joined R) (r : ChainResult K V)
      → x.stage ≡ Tracing e l
      → HasPage old slot c x l.wanted (stands p.receipt)
      → came ≡ Ok p
      → TracesTo spells cmp join old x.target e.key l p.bytes (Ok r)
      → liveness x.target r ≡ Superseded
      → new ≡ done_at old slot c x.target now
      → result ≡ Ok (Done Cleared now)
      → LoadsOn stands spells cmp join code old new slot c came now result
  -- or none above the place: the record is appended, joined with the parts of the deltas
  ends : (x : Relocation K V) (e : Entry K V) (l : Loading V) (p : Joined R) (r : ChainResult K V) (parts : Option V)
      → x.stage ≡ Tracing e l
      → HasPage old slot c x l.wanted (stands p.receipt)
      → came ≡ Ok p
      → TracesTo spells cmp join old x.target e.key l p.bytes (Ok r)
      → liveness x.target r ≡ Last parts
      → Ends old new slot c x (renewed join e parts) l.kept now result
      → LoadsOn stands spells cmp join code old new slot c came now result
  -- or the way goes on in another page above the place
  further : (x : Relocation K V) (e : Entry K V) (l : Loading V) (p : Joined R) (b : ℕ) (parts : Option V)
      → x.stage ≡ Tracing e l
      → HasPage old slot c x l.wanted (stands p.receipt)
      → came ≡ Ok p
      → TracesTo spells cmp join old x.target e.key l p.bytes (Ok (record { parts = parts; position = Below b }))
      → x.target < b
      → IsRecordStart old.records.log.bits old.records.record_size b
      → Asks stands old new (with_relocation old slot c
      (Some (at_stage x (Tracing e (record l { wanted = b; parts = parts })))) now) b result
      → LoadsOn stands spells cmp join code old new slot c came now result
  -- or its bytes spell no record on the way, or lead to an address that is no place: the relocation ends without effect
  bad_record : (x : Relocation K V) (e : Entry K V) (l : Loading V) (p : Joined R) (why : Refused)
      → x.stage ≡ Tracing e l
      → HasPage old slot c x l.wanted (stands p.receipt)
      → came ≡ Ok p
      → TracesTo spells cmp join old x.target e.key l p.bytes (Err why)
      → new ≡ with_relocation old slot c None now
      → result ≡ Err (Damaged (page_at old.records.log.bits l.wanted))
      → LoadsOn stands spells cmp join code old new slot c came now result
  bad_link : (x : Relocation K V) (e : Entry K V) (l : Loading V) (p : Joined R) (b : ℕ) (parts : Option V)
      → x.stage ≡ Tracing e l
      → HasPage old slot c x l.wanted (stands p.receipt)
      → came ≡ Ok p
      → TracesTo spells cmp join old x.target e.key l p.bytes (Ok (record { parts = parts; position = Below b }))
      → x.target < b
      → ¬ IsRecordStart old.records.log.bits old.records.record_size b
      → new ≡ with_relocation old slot c None now
      → result ≡ Err (Damaged (page_at old.records.log.bits l.wanted))
      → LoadsOn stands spells cmp join code old new slot c came now result

-- the relocation that is open in a context waits for this page, and Begin has not moved since
pub record WaitsOn {K V I : Type 0} (v : PartitionView K V I) (slot c page : ℕ) : Type 0 where
  pub relocation : Relocation K V
  pub wanted : ℕ
  pub awaits : AwaitsPage v slot c relocation wanted
  pub page_is : page ≡ page_at v.records.log.bits wanted

-- and the same where the page is read by the receipt that is kept of it
abbrev pub LoadsOnBy : {K V I O R : Type 0} → (R → Standing) → (ℕ → List ℕ → ℕ → Entry K V → Type 0)
    → (K → K → Ordering) → (V → V → V) → (K → ℕ) → PartitionView K V I → PartitionView K V I → ℕ → ℕ → ℕ → ℕ → ℕ
    → Result (Progress K V I O R) Refused → Type 0
LoadsOnBy stands spells cmp join code old new slot c now before after result = ReadsBy stands old.records.log.receipts
    (WaitsOn old slot c) (λ came. LoadsOn stands spells cmp join code old new slot c came now result) old new before after
    result
