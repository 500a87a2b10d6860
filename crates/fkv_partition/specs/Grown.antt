-- What events leave for one who keeps, beside a partition, entries, look-ups, records and addresses of its own.
use Rattle.std.specs.Prelude.{◌≡◌, ◌<◌, ◌≤◌, Bool, IsTrue, true, ℕ, Option, slice_get}
use Rattle.std.specs.declared.cmp.Ordering.{Ordering}
use Rattle.fkv_records.specs.Places.{page_at}
use Rattle.fkv_device.specs.Standing.{Standing}
use Rattle.fkv_hybrid.specs.Loads.{IsHeldBy}
use Rattle.fkv_regions.specs.Agree.{IsRaised}
use Rattle.fkv_texts.specs.declared.entries.Entry.{Entry}
use Rattle.fkv_texts.specs.Text.{entry_at}
use Rattle.fkv_texts.specs.Chains.{IsIn}
use Rattle.fkv_index.specs.declared.words.Place.{Place}
use Rattle.fkv_index.specs.Places.{IsPlace}
use Rattle.fkv_operations.specs.declared.entries.IndexEntry.{IndexEntry}
use Rattle.fkv_operations.specs.KeptWords.{ReusesNoAddress}
use Rattle.fkv_lookups.specs.RecordsViews.{RecordsView, indexed}
use Rattle.fkv_texts.specs.Deltas.{IsCleared}
use Rattle.fkv_partition.specs.declared.contexts.Loading.{Loading}
use Rattle.fkv_partition.specs.Contexts.{joined, is_session, relocating}
use Rattle.fkv_partition.specs.KeySound.{IsKept, IsLoading}
use Rattle.fkv_partition.specs.Views.{PartitionView, slots_of}

-- what a prepared update of any key kept, and what a look-up of any key that waits for a page is to find, whether or not
-- the partition has a context of it
pub record Bears {K V : Type 0} (keeps : Bool) (cmp : K → K → Ordering) (join : V → V → V) (code : K → ℕ) (old new : RecordsView K V)
    : Type 0 where
  pub kept : (k : K) (e : IndexEntry) (source : Option V)
      → IsKept keeps cmp code old k e source
      → IsKept keeps cmp code new k e source
  pub loading : (k : K) (l : Loading V) → IsLoading keeps cmp join code old k l → IsLoading keeps cmp join code new k l

-- what is set once for all
pub record IsSameShape {K V : Type 0} (old new : RecordsView K V) : Type 0 where
  pub partition_bits : new.partition_bits ≡ old.partition_bits
  pub bucket_bits : new.bucket_bits ≡ old.bucket_bits
  pub page_bits : new.log.bits ≡ old.log.bits
  pub record_size : new.record_size ≡ old.record_size
  pub frames : new.log.frames ≡ old.log.frames

-- nothing falls, what is flushed stays so, by the same receipt where Begin is now or above, and what is frozen stays as it is, where the text begins now or above; on a
-- device that keeps, what was cleared is cleared; and a record at an address that was taken is of the key that it was of, and
-- a delta where it was one
pub record IsGrown {K V : Type 0} (keeps : Bool) (cmp : K → K → Ordering) (old new : RecordsView K V) : Type 0 where
  pub shape : IsSameShape old new
  pub begin : old.log.begin ≤ new.log.begin
  pub tail : old.log.tail ≤ new.log.tail
  pub raised : IsRaised old.log.regions.offsets new.log.regions.offsets
  pub receipts : (page : ℕ) (s : Standing)
      → page_at new.log.bits new.log.begin ≤ page
      → IsHeldBy old.log.receipts page s
      → IsHeldBy new.log.receipts page s
  pub stay : (a : ℕ)
      → new.log.from ≤ a
      → a < old.log.regions.offsets.safe_read_only
      → entry_at new.log.text a ≡ entry_at old.log.text a
  pub clear : (limit : ℕ)
      → limit ≤ old.log.tail
      → IsTrue keeps
      → IsCleared cmp old.log.text limit
      → IsCleared cmp new.log.text limit
  pub places : (p : Place) → IsPlace old.words p → IsPlace new.words p
  pub were : (e : Entry K V)
      → IsIn new.log.text e
      → e.address < old.log.tail
      → (d : Entry K V) × IsIn old.log.text d × (d.address ≡ e.address) × (d.key ≡ e.key) × (d.delta ≡ e.delta)

-- both of an event; and on a device that keeps, no address is used twice
pub record IsPreserved {K V I : Type 0} (keeps : Bool) (cmp : K → K → Ordering) (join : V → V → V) (code : K → ℕ)
    (old new : PartitionView K V I) : Type 0 where
  pub bears : Bears keeps cmp join code old.records new.records
  pub grown : IsGrown keeps cmp old.records new.records
  pub next : IsTrue keeps → ReusesNoAddress cmp (indexed old.records) (indexed new.records)

-- relocations stay in their contexts
abbrev pub RelocationsStay : {K V I : Type 0} → PartitionView K V I → PartitionView K V I → Type 0
RelocationsStay old new =
    (p : ℕ) → relocating (joined (slice_get new.contexts p)) ≡ relocating (joined (slice_get old.contexts p))

-- so does what is cleared
pub record IsPassedOn {K V I : Type 0} (old new : PartitionView K V I) : Type 0 where
  pub cleared : new.cleared ≡ old.cleared
  pub relocations : RelocationsStay old new

-- who was entered is
abbrev pub AllStay : {K V I : Type 0} → PartitionView K V I → PartitionView K V I → Type 0
AllStay old new = (s : ℕ) → is_session (slots_of old) s ≡ true → is_session (slots_of new) s ≡ true
