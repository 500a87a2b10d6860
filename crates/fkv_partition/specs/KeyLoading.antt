-- What `load` does with a page that was read, or with what came in its place: a rule for each case, in the order of the
-- tests.
use Rattle.std.specs.Prelude.{◌≡◌, ◌≢◌, ◌<◌, ◌≤◌, ◌⊎◌, ℕ, List, Option, Some, None, Result, Ok, Err}
use Rattle.std.specs.declared.cmp.Ordering.{Ordering}
use Rattle.fkv_functions.specs.Meanings.{Meanings}
use Rattle.fkv_functions.specs.declared.refusals.Refused.{Refused}
use Rattle.fkv_functions.specs.declared.refusals.Refused.TheVariants.{Unknown, NotReady, Stranger, Damaged, NoMemory}
use Rattle.fkv_functions.specs.declared.refusals.What.TheVariants as what
use Rattle.fkv_records.specs.Places.{page_at, IsRecordStart}
use Rattle.fkv_device.specs.Standing.{Standing, Joined}
use Rattle.fkv_device.specs.Failing.{ReadFailsBy}
use Rattle.fkv_texts.specs.declared.entries.Entry.{Entry}
use Rattle.fkv_texts.specs.declared.entries.ChainPosition.TheVariants.{Found, Below}
use Rattle.fkv_texts.specs.Deltas.{combined}
use Rattle.fkv_hybrid.specs.Loads.{IsHeldBy, first_place}
use Rattle.fkv_lookups.specs.declared.chain_results.ChainResult.{ChainResult}
use Rattle.fkv_lookups.specs.Lookups.{ComesToInPage}
use Rattle.fkv_operations.specs.After.{key_of, shown_of}
use Rattle.fkv_operations.specs.declared.operations.KeyedOp.{KeyedOp}
use Rattle.fkv_operations.specs.declared.operations.KeyedOp.TheVariants.{Read, Rmw}
use Rattle.fkv_partition.specs.declared.contexts.Context.{Context}
use Rattle.fkv_partition.specs.declared.contexts.Loading.{Loading}
use Rattle.fkv_partition.specs.declared.contexts.Phase.TheVariants.{Fresh, Prepared, Load}
use Rattle.fkv_partition.specs.declared.contexts.Progress.{Progress}
use Rattle.fkv_partition.specs.declared.contexts.Progress.TheVariants.{Done, Next, NeedsBuild, NeedsLoad}
use Rattle.fkv_partition.specs.Contexts.{at_phase, loading_by}
use Rattle.fkv_partition.specs.Views.{PartitionView, context_at, with_context}

-- what the records on the way tell of the key: the value of its first record that is no delta, or none at the end of the way,
-- below Begin, joined with the parts of its deltas
pub data Tells {K V : Type 0} (join : V → V → V) (begin : ℕ) : ChainResult K V → Option V → Type 0 where
  found : (e : Entry K V) (parts : Option V)
      → Tells join begin (record { parts = parts; position = Found e }) (combined join e.value parts)
  ended : (b : ℕ) (parts : Option V) → b < begin → Tells join begin (record { parts = parts; position = Below b }) parts

-- a read or an update: no other operation waits for a page
abbrev pub MayLoad : {K V I : Type 0} → KeyedOp K V I → Type 0
MayLoad {K} {V} {I} op = (i : I) × ((op ≡ Read (key_of op) i) ⊎ (op ≡ Rmw (key_of op) i))

-- the operation that is open in a context waits for a page, and Begin has not moved since
pub record AwaitsPage {K V I : Type 0} (v : PartitionView K V I) (slot c : ℕ) (x : Context K V I) (l : Loading V)
    : Type 0 where
  pub here : context_at v slot c ≡ Some x
  pub loading : x.phase ≡ Load l
  pub begin : l.begin ≡ v.records.log.begin

-- and the page is the one that is kept of the address that is wanted: from there, with the parts that were collected, the
-- records that its bytes spell come to this. `entry` says when the bytes of a page spell an entry at an address.
pub record ReadsOn {K V I : Type 0} (entry : ℕ → List ℕ → ℕ → Entry K V → Type 0) (cmp : K → K → Ordering)
    (join : V → V → V) (v : PartitionView K V I) (slot c : ℕ) (x : Context K V I) (l : Loading V) (s : Standing)
    (bytes : List ℕ) (reached : Result (ChainResult K V) Refused) : Type 0 where
  pub awaits : AwaitsPage v slot c x l
  pub own : IsHeldBy v.records.log.receipts (page_at v.records.log.bits l.wanted) s
  pub reads : ComesToInPage join (entry v.records.log.bits bytes) cmp (key_of x.op) v.records.log.bits
      (first_place v.records.log.bits (page_at v.records.log.bits l.wanted)) l.wanted l.parts reached

-- what a page that came tells an operation of its key
pub record IsTold {K V I R : Type 0} (stands : R → Standing) (entry : ℕ → List ℕ → ℕ → Entry K V → Type 0)
    (cmp : K → K → Ordering) (join : V → V → V) (v : PartitionView K V I) (slot c : ℕ) (x : Context K V I) (l : Loading V)
    (p : Joined R) (value : Option V) : Type 0 where
  pub reached : ChainResult K V
  pub reads : ReadsOn entry cmp join v slot c x l (stands p.receipt) p.bytes (Ok reached)
  pub tells : Tells join v.records.log.begin reached value

pub data Loads {K V I O R : Type 0} (stands : R → Standing) (entry : ℕ → List ℕ → ℕ → Entry K V → Type 0)
    (cmp : K → K → Ordering) (join : V → V → V) (f : Meanings K V I O) (old new : PartitionView K V I) (slot c : ℕ)
    (came : Result (Joined R) Refused) (now : ℕ) (result : Result (Progress K V I O R) Refused) : Type 0 where
  -- nothing is open there
  unknown : context_at old slot c ≡ None
      → new ≡ old
      → result ≡ Err Unknown
      → Loads stands entry cmp join f old new slot c came now result
  -- the operation waits for no page
  not_ready : (x : Context K V I)
      → context_at old slot c ≡ Some x
      → loading_by x.phase ≡ None
      → new ≡ old
      → result ≡ Err NotReady
      → Loads stands entry cmp join f old new slot c came now result
  -- Begin has moved since the look-up: whatever was handed in, the operation looks again
  moved : (x : Context K V I) (l : Loading V)
      → context_at old slot c ≡ Some x
      → x.phase ≡ Load l
      → l.begin ≢ old.records.log.begin
      → new ≡ with_context old slot c (Some (at_phase x Fresh)) now
      → result ≡ Ok Next
      → Loads stands entry cmp join f old new slot c came now result
  -- the page could not be read: the operation ends without effect, unless it was memory that was wanted
  failed : (x : Context K V I) (l : Loading V) (why : Refused)
      → AwaitsPage old slot c x l
      → came ≡ Err why
      → why ≢ NoMemory
      → new ≡ with_context old slot c None now
      → result ≡ Err why
      → Loads stands entry cmp join f old new slot c came now result
  unread : (x : Context K V I) (l : Loading V)
      → AwaitsPage old slot c x l
      → came ≡ Err NoMemory
      → new ≡ old
      → result ≡ Err NoMemory
      → Loads stands entry cmp join f old new slot c came now result
  -- the page was read by another receipt than the one that is kept of it
  stranger : (x : Context K V I) (l : Loading V) (p : Joined R) (s : Standing)
      → AwaitsPage old slot c x l
      → came ≡ Ok p
      → IsHeldBy old.records.log.receipts (page_at old.records.log.bits l.wanted) s
      → s ≢ stands p.receipt
      → new ≡ old
      → result ≡ Err (Stranger what.Receipt s.number (stands p.receipt).number)
      → Loads stands entry cmp join f old new slot c came now result
  -- its bytes spell no record on the way, or lead to an address at or above Begin that is no place: the operation ends
  -- without effect
  damaged : (x : Context K V I) (l : Loading V) (p : Joined R) (why : Refused)
      → ReadsOn entry cmp join old slot c x l (stands p.receipt) p.bytes (Err why)
      → came ≡ Ok p
      → new ≡ with_context old slot c None now
      → result ≡ Err (Damaged (page_at old.records.log.bits l.wanted))
      → Loads stands entry cmp join f old new slot c came now result
  bad_link : (x : Context K V I) (l : Loading V) (p : Joined R) (b : ℕ) (parts : Option V)
      → ReadsOn entry cmp join old slot c x l (stands p.receipt) p.bytes (Ok (record { parts = parts; position = Below b }))
      → came ≡ Ok p
      → old.records.log.begin ≤ b
      → ¬ IsRecordStart old.records.log.bits old.records.record_size b
      → new ≡ with_context old slot c None now
      → result ≡ Err (Damaged (page_at old.records.log.bits l.wanted))
      → Loads stands entry cmp join f old new slot c came now result
  -- a read is done, its effect being at its look-up
  done : (x : Context K V I) (l : Loading V) (p : Joined R) (k : K) (i : I) (value : Option V)
      → IsTold stands entry cmp join old slot c x l p value
      → came ≡ Ok p
      → x.op ≡ Read k i
      → new ≡ with_context old slot c None now
      → result ≡ Ok (Done (shown_of f k i value) l.looked)
      → Loads stands entry cmp join f old new slot c came now result
  -- an update asks for the new value
  prepares : (x : Context K V I) (l : Loading V) (p : Joined R) (k : K) (i : I) (value : Option V)
      → IsTold stands entry cmp join old slot c x l p value
      → came ≡ Ok p
      → x.op ≡ Rmw k i
      → new ≡ with_context old slot c (Some (at_phase x (Prepared l.kept value))) now
      → result ≡ Ok (NeedsBuild (record { number = x.number; key = k; source = value; input = i }))
      → Loads stands entry cmp join f old new slot c came now result
  -- the way goes on in another page, which is asked for; or the memory to share its receipt is refused
  goes_on : (x : Context K V I) (l : Loading V) (p : Joined R) (b : ℕ) (parts : Option V) (r : R)
      → ReadsOn entry cmp join old slot c x l (stands p.receipt) p.bytes (Ok (record { parts = parts; position = Below b }))
      → came ≡ Ok p
      → old.records.log.begin ≤ b
      → IsRecordStart old.records.log.bits old.records.record_size b
      → IsHeldBy old.records.log.receipts (page_at old.records.log.bits b) (stands r)
      → new ≡ with_context old slot c (Some (at_phase x (Load (record l { wanted = b; parts = parts })))) now
      → result ≡ Ok (NeedsLoad r b)
      → Loads stands entry cmp join f old new slot c came now result
  unshared : (x : Context K V I) (l : Loading V) (p : Joined R) (b : ℕ) (parts : Option V)
      → ReadsOn entry cmp join old slot c x l (stands p.receipt) p.bytes (Ok (record { parts = parts; position = Below b }))
      → came ≡ Ok p
      → old.records.log.begin ≤ b
      → IsRecordStart old.records.log.bits old.records.record_size b
      → new ≡ old
      → result ≡ Err NoMemory
      → Loads stands entry cmp join f old new slot c came now result

-- what comes of a load that reads for itself, by the receipt that is kept of a page. `awaits` says which page is waited for,
-- and `loads` what comes of what is handed in.
pub data ReadsBy {R S A : Type 0} (stands : R → Standing) (receipts : List (Option Standing)) (awaits : ℕ → Type 0)
    (loads : Result (Joined R) Refused → Type 0) (old new : S) (before after : ℕ) (result : Result A Refused)
    : Type 0 where
  -- no page is waited for: whatever was handed in would do the same
  idle : ((page : ℕ) → awaits page → ⊥)
      → ((came : Result (Joined R) Refused) → loads came)
      → after ≡ before
      → ReadsBy stands receipts awaits loads old new before after result
  -- the page was read, and handed in
  came : (page : ℕ) (p : Joined R)
      → awaits page
      → IsHeldBy receipts page (stands p.receipt)
      → loads (Ok p)
      → after ≡ before
      → ReadsBy stands receipts awaits loads old new before after result
  -- the read failed, and nothing changes
  failed : (page : ℕ) (why : Refused)
      → awaits page
      → ReadFailsBy page before after why
      → new ≡ old
      → result ≡ Err why
      → ReadsBy stands receipts awaits loads old new before after result

-- the operation that is open in a context waits for this page, and Begin has not moved since
pub record WaitsFor {K V I : Type 0} (v : PartitionView K V I) (slot c page : ℕ) : Type 0 where
  pub operation : Context K V I
  pub loading : Loading V
  pub awaits : AwaitsPage v slot c operation loading
  pub page_is : page ≡ page_at v.records.log.bits loading.wanted

abbrev pub LoadsBy : {K V I O R : Type 0} → (R → Standing) → (ℕ → List ℕ → ℕ → Entry K V → Type 0)
    → (K → K → Ordering) → (V → V → V) → Meanings K V I O → PartitionView K V I → PartitionView K V I → ℕ → ℕ → ℕ → ℕ → ℕ
    → Result (Progress K V I O R) Refused → Type 0
LoadsBy stands entry cmp join f old new slot c now before after result = ReadsBy stands old.records.log.receipts
    (WaitsFor old slot c) (λ came. Loads stands entry cmp join f old new slot c came now result) old new before after result
