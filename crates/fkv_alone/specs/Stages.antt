-- How far an operation is that was issued in a context, between its events: what it has told, and what of the partition
-- is as it was before the issue.
use Rattle.std.specs.Prelude.{◌≡◌, ◌<◌, ◌≤◌, ◌⊎◌, ℕ, Bool, IsTrue, Some, None}
use Rattle.std.specs.declared.cmp.Ordering.{Ordering}
use Rattle.fkv_functions.specs.Meanings.{Meanings, updated}
use Rattle.fkv_functions.specs.Plain.{Same}
use Rattle.fkv_functions.specs.declared.asks.Ask.{Ask}
use Rattle.fkv_records.specs.Places.{page_at}
use Rattle.fkv_device.specs.Standing.{Standing}
use Rattle.fkv_index.specs.declared.words.Place.{Place}
use Rattle.fkv_index.specs.Places.{word_at}
use Rattle.fkv_hybrid.specs.Loads.{IsHeldBy}
use Rattle.fkv_operations.specs.After.{key_of, after, answer}
use Rattle.fkv_operations.specs.declared.entries.IndexEntry.{IndexEntry}
use Rattle.fkv_operations.specs.declared.operations.KeyedOp.{KeyedOp}
use Rattle.fkv_operations.specs.declared.operations.Answer.{Answer}
use Rattle.fkv_partition.specs.declared.contexts.Context.{Context}
use Rattle.fkv_partition.specs.declared.contexts.Loading.{Loading}
use Rattle.fkv_partition.specs.declared.contexts.Phase.TheVariants.{Fresh, Confirm}
use Rattle.fkv_partition.specs.declared.contexts.Progress.{Progress}
use Rattle.fkv_partition.specs.declared.contexts.Progress.TheVariants.{Done, Next, NeedsBuild, NeedsLoad, Waits}
use Rattle.fkv_hybrid.specs.Views.{IsFull}
use Rattle.fkv_lookups.specs.declared.decisions.Decision.TheVariants as decided
use Rattle.fkv_lookups.specs.declared.payloads.Payload.{Payload}
use Rattle.fkv_partition.specs.declared.contexts.Wait.{Wait}
use Rattle.fkv_partition.specs.declared.contexts.Wait.TheVariants as wait
use Rattle.fkv_partition.specs.Contexts.{question_in}
use Rattle.fkv_partition.specs.KeyEffect.{LeavesOthers}
use Rattle.fkv_partition.specs.KeyGoing.{Decides}
use Rattle.fkv_partition.specs.KeyLoading.{AwaitsPage}
use Rattle.fkv_partition.specs.Pending.{pending}
use Rattle.fkv_partition.specs.Views.{PartitionView, context_at, live_of}

-- the operation is open in its context, and of the records the words of the index alone may be others than before
pub record IsOpen {K V I : Type 0} (op : KeyedOp K V I) (old v : PartitionView K V I) (slot c started : ℕ) (x : Context K V I)
    : Type 0 where
  pub here : context_at v slot c ≡ Some x
  pub number : x.number ≡ started
  pub op_is : x.op ≡ op
  pub records : v.records ≡ record old.records { words = v.records.words }
  pub begun : started ≤ v.moment
  pub frame : LeavesOthers old v slot c v.moment

-- it waits for nothing from outside
pub record IsReady {K V I : Type 0} (op : KeyedOp K V I) (old v : PartitionView K V I) (slot c started : ℕ) : Type 0 where
  pub operation : Context K V I
  pub open_is : IsOpen op old v slot c started operation
  pub ready : (operation.phase ≡ Fresh) ⊎ ((p : Place) × (operation.phase ≡ Confirm p))

-- it asks this to be built
pub record AsksToBuild {K V I : Type 0} (op : KeyedOp K V I) (old v : PartitionView K V I) (slot c started : ℕ) (ask : Ask K V I)
    : Type 0 where
  pub operation : Context K V I
  pub open_is : IsOpen op old v slot c started operation
  pub kept : IndexEntry
  pub question : question_in operation ≡ Some (kept, ask)

-- it asks for the page of an address, by the receipt that is kept of it; on a device that keeps it is to find what the
-- live map said of its key before
pub record IsFetching {K V I : Type 0} (keeps : Bool) (cmp : K → K → Ordering) (op : KeyedOp K V I)
    (old v : PartitionView K V I) (slot c started : ℕ) (s : Standing) (a : ℕ) : Type 0 where
  pub operation : Context K V I
  pub open_is : IsOpen op old v slot c started operation
  pub loading : Loading V
  pub awaits : AwaitsPage v slot c operation loading
  pub wanted : loading.wanted ≡ a
  pub held : IsHeldBy v.records.log.receipts (page_at v.records.log.bits a) s
  pub looked : started < loading.looked
  pub past : loading.looked ≤ v.moment
  pub finds : IsTrue keeps
      → pending cmp v slot c ≡ Some (record { moment = loading.looked; value = live_of cmp old (key_of op) })

-- why the operation in a context has to wait
pub data IsHeldUp {K V I O : Type 0} (cmp : K → K → Ordering) (join : V → V → V) (f : Meanings K V I O) (code : K → ℕ)
    (v : PartitionView K V I) (slot c : ℕ) (x : Context K V I) : Wait → Type 0 where
  -- by what it meets it is to wait, as an update does over a fuzzy value, and nothing else
  fuzzy : Decides cmp join f code v slot c x decided.Wait → IsHeldUp cmp join f code v slot c x wait.Fuzzy
  -- by what it meets it is to append a record, and there is no room for one
  full : (payload : Payload V) (a : Answer O)
      → Decides cmp join f code v slot c x (decided.Append payload a)
      → IsFull v.records.log
      → IsHeldUp cmp join f code v slot c x wait.Full
  -- or it is an update, the entry is still the one that it kept, and there is no room for the value that was built
  built : (kept : IndexEntry) (ask : Ask K V I) (value : V)
      → question_in x ≡ Some (kept, ask)
      → word_at v.records.words kept.place ≡ kept.word
      → updated f ask.key ask.input ask.source ≡ Some value
      → IsFull v.records.log
      → IsHeldUp cmp join f code v slot c x wait.Full

-- it cannot go on yet
pub record IsWaiting {K V I O : Type 0} (cmp : K → K → Ordering) (join : V → V → V) (f : Meanings K V I O) (code : K → ℕ)
    (op : KeyedOp K V I) (old v : PartitionView K V I) (slot c started : ℕ) (why : Wait) : Type 0 where
  pub operation : Context K V I
  pub open_is : IsOpen op old v slot c started operation
  pub reason : IsHeldUp cmp join f code v slot c operation why

-- it is done, and its context is free: on a device that keeps, the live map is what the operation makes of it, once,
-- and the answer is the plain map's; its effect is after its issue
pub record IsDone {K V I O : Type 0} (keeps : Bool) (cmp : K → K → Ordering) (f : Meanings K V I O) (op : KeyedOp K V I)
    (old new : PartitionView K V I) (slot c started : ℕ) (a : Answer O) (effect : ℕ) : Type 0 where
  pub closed : context_at new slot c ≡ None
  pub live : IsTrue keeps → Same (live_of cmp new) (after cmp f (live_of cmp old) op)
  pub answers : IsTrue keeps → a ≡ answer f (live_of cmp old) op
  pub begun : started < effect
  pub past : effect ≤ new.moment
  pub frame : LeavesOthers old new slot c new.moment

-- what it told last
abbrev pub HasCome : {K V I O R : Type 0} → Bool → (R → Standing) → (K → K → Ordering) → (V → V → V)
    → Meanings K V I O → (K → ℕ)
    → KeyedOp K V I → PartitionView K V I → PartitionView K V I → ℕ → ℕ → ℕ → Progress K V I O R → Type 0
HasCome keeps stands cmp join f code op old v slot c started (Done a effect) =
    IsDone keeps cmp f op old v slot c started a effect
HasCome keeps stands cmp join f code op old v slot c started Next = IsReady op old v slot c started
HasCome keeps stands cmp join f code op old v slot c started (NeedsBuild ask) = AsksToBuild op old v slot c started ask
HasCome keeps stands cmp join f code op old v slot c started (NeedsLoad r a) =
    IsFetching keeps cmp op old v slot c started (stands r) a
HasCome keeps stands cmp join f code op old v slot c started (Waits why) =
    IsWaiting cmp join f code op old v slot c started why
