-- What becomes of a relocation whose record was read.
use Rattle.std.specs.Prelude.{◌≡◌, ◌≢◌, ◌+◌, ◌^◌, ℕ, cond, nat_le, nat_lt, Option, Some, None, false, Result, Ok, Err}
use Rattle.std.specs.declared.cmp.Ordering.{Ordering}
use Rattle.fkv_functions.specs.declared.refusals.Refused.{Refused}
use Rattle.fkv_functions.specs.declared.refusals.Refused.TheVariants.{Worn, NoMemory}
use Rattle.fkv_records.specs.Places.{page_at}
use Rattle.fkv_device.specs.Standing.{Standing}
use Rattle.fkv_texts.specs.declared.entries.Entry.{Entry}
use Rattle.fkv_texts.specs.declared.entries.ChainPosition.{ChainPosition}
use Rattle.fkv_texts.specs.declared.entries.ChainPosition.TheVariants.{Found, Below}
use Rattle.fkv_texts.specs.Deltas.{combined}
use Rattle.fkv_hybrid.specs.Loads.{IsHeldBy}
use Rattle.fkv_lookups.specs.declared.chain_results.ChainResult.{ChainResult}
use Rattle.fkv_lookups.specs.Decisions.{low_of}
use Rattle.fkv_index.specs.Places.{word_at}
use Rattle.fkv_operations.specs.declared.entries.IndexEntry.{IndexEntry}
use Rattle.fkv_hybrid.specs.Views.{IsFull}
use Rattle.fkv_partition.specs.Views.{PartitionView, partition_of, found_for, entry_for, seen_at, reached_from, with_relocation, at_stage, done_at, again_at}
use Rattle.fkv_partition.specs.declared.relocations.Relocation.{Relocation}
use Rattle.fkv_partition.specs.declared.relocations.Liveness.{Liveness}
use Rattle.fkv_partition.specs.declared.relocations.Liveness.TheVariants.{Superseded, Last, Further}
use Rattle.fkv_partition.specs.declared.relocations.Stage.TheVariants.{Fresh, Tracing, Ready}
use Rattle.fkv_partition.specs.declared.contexts.Progress.{Progress}
use Rattle.fkv_partition.specs.declared.contexts.Progress.TheVariants.{Done, Next, NeedsLoad, Waits}
use Rattle.fkv_operations.specs.declared.operations.Answer.TheVariants.{Cleared}
use Rattle.fkv_partition.specs.declared.contexts.Wait.TheVariants.{Full}

-- the higher of two addresses
abbrev pub higher_of : ℕ → ℕ → ℕ
higher_of a b = cond (nat_le a b) b a

-- by where it stands, with these parts
abbrev pub liveness_at : {K V : Type 0} → ℕ → Option V → ChainPosition K V → Liveness V
liveness_at place parts (Found e) = cond (nat_lt place e.address) Superseded (Last parts)
liveness_at place parts (Below b) = cond (nat_lt place b) (Further b parts) (Last parts)

-- what the way from the entry of a record's class, as far as it was followed above its place, tells of the record: a newer
-- one of its key that is no delta was met; or none above the place, with these parts of deltas; or the way goes on above the
-- place, at this address
abbrev pub liveness : {K V : Type 0} → ℕ → ChainResult K V → Liveness V
liveness place g = liveness_at place g.parts g.position

-- the lowest address to which the session at a slot follows that way in memory
abbrev pub above : {K V I : Type 0} → PartitionView K V I → ℕ → ℕ → ℕ
above v slot place = higher_of (place + 1) (low_of v.records.log.begin (seen_at v slot))

-- what its look-up tells of a record of this key
abbrev pub told_above : {K V I : Type 0} → (K → K → Ordering) → (V → V → V) → (K → ℕ) → PartitionView K V I → ℕ → ℕ → K
    → Liveness V
told_above cmp join code v slot place k =
    liveness place (reached_from cmp join code v slot k (above v slot place) (entry_for code v k))

-- why a record is not appended again: it is a tombstone; its key belongs elsewhere, or has no entry, which only untrue
-- bytes of a device bring; or a newer record of its key that is no delta is met in memory
pub data NeedsNoCopy {K V I : Type 0} (cmp : K → K → Ordering) (join : V → V → V) (code : K → ℕ) (v : PartitionView K V I)
    (slot place : ℕ) (entry : Entry K V) : Type 0 where
  tombstone : entry.value ≡ None → NeedsNoCopy cmp join code v slot place entry
  foreign : partition_of v.count (code entry.key) ≢ v.number → NeedsNoCopy cmp join code v slot place entry
  nowhere : found_for code v entry.key ≡ None → NeedsNoCopy cmp join code v slot place entry
  newer : told_above cmp join code v slot place entry.key ≡ Superseded → NeedsNoCopy cmp join code v slot place entry

-- a record with a value or a part whose key belongs here and has this entry, from which the look-up in memory tells this of
-- it
pub record IsChecked {K V I : Type 0} (cmp : K → K → Ordering) (join : V → V → V) (code : K → ℕ) (v : PartitionView K V I)
    (slot place : ℕ) (entry : Entry K V) (kept : IndexEntry) (outcome : Liveness V) : Type 0 where
  pub some : entry.value ≢ None
  pub own : partition_of v.count (code entry.key) ≡ v.number
  pub leads : found_for code v entry.key ≡ Some kept
  pub outcome_is : told_above cmp join code v slot place entry.key ≡ outcome

-- the record that is appended for one: its value, joined with the parts of later deltas
abbrev pub renewed : {K V : Type 0} → (V → V → V) → Entry K V → Option V → Entry K V
renewed join entry parts = record entry { value = combined join entry.value parts; delta = false }

-- the last part: where the entry stands as it was kept, the record is appended and its place is cleared, in one
-- event, or waits where there is no room; where it has moved, the relocation is to begin anew
pub data Ends {K V I O R : Type 0} (old new : PartitionView K V I) (slot c : ℕ) (x : Relocation K V) (entry : Entry K V)
    (kept : IndexEntry) (now : ℕ) (result : Result (Progress K V I O R) Refused) : Type 0 where
  moved : word_at old.records.words kept.place ≢ kept.word
      → new ≡ with_relocation old slot c (Some (at_stage x Fresh)) now
      → result ≡ Ok Next
      → Ends old new slot c x entry kept now result
  worn : word_at old.records.words kept.place ≡ kept.word
      → old.records.log.tail ≡ 2 ^ 48
      → new ≡ old
      → result ≡ Err Worn
      → Ends old new slot c x entry kept now result
  full : word_at old.records.words kept.place ≡ kept.word
      → IsFull old.records.log
      → new ≡ with_relocation old slot c (Some (at_stage x (Ready entry kept))) now
      → result ≡ Ok (Waits Full)
      → Ends old new slot c x entry kept now result
  appends : word_at old.records.words kept.place ≡ kept.word
      → old.records.log.tail ≢ 2 ^ 48
      → (IsFull old.records.log → ⊥)
      → new ≡ again_at old slot c x.target kept entry now
      → result ≡ Ok (Done Cleared now)
      → Ends old new slot c x entry kept now result

-- the page of an address on the way is asked for, or the memory to share its receipt is refused
pub data Asks {K V I O R : Type 0} (stands : R → Standing) (old new asking : PartitionView K V I) (wanted : ℕ)
    (result : Result (Progress K V I O R) Refused) : Type 0 where
  asks : (r : R)
      → IsHeldBy old.records.log.receipts (page_at old.records.log.bits wanted) (stands r)
      → new ≡ asking
      → result ≡ Ok (NeedsLoad r wanted)
      → Asks stands old new asking wanted result
  unshared : new ≡ old → result ≡ Err NoMemory → Asks stands old new asking wanted result

pub data ChecksLiveness {K V I O R : Type 0} (stands : R → Standing) (cmp : K → K → Ordering) (join : V → V → V) (code : K → ℕ)
    (old new : PartitionView K V I) (slot c : ℕ) (x : Relocation K V) (entry : Entry K V) (now : ℕ)
    (result : Result (Progress K V I O R) Refused) : Type 0 where
  superseded : NeedsNoCopy cmp join code old slot x.target entry
      → new ≡ done_at old slot c x.target now
      → result ≡ Ok (Done Cleared now)
      → ChecksLiveness stands cmp join code old new slot c x entry now result
  last : (kept : IndexEntry) (parts : Option V)
      → IsChecked cmp join code old slot x.target entry kept (Last parts)
      → Ends old new slot c x (renewed join entry parts) kept now result
      → ChecksLiveness stands cmp join code old new slot c x entry now result
  further : (kept : IndexEntry) (b : ℕ) (parts : Option V)
      → IsChecked cmp join code old slot x.target entry kept (Further b parts)
      → Asks stands old new (with_relocation old slot c (Some (at_stage x (Tracing entry
      (record { begin = old.records.log.begin; kept = kept; wanted = b; parts = parts; looked = now })))) now) b result
      → ChecksLiveness stands cmp join code old new slot c x entry now result
