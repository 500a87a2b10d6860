-- What moves of a partition while its live map stays, and why that is refused.
use Rattle.std.specs.Prelude.{◌≡◌, ◌≤◌, ◌+◌, ◌^◌, ℕ, Bool, IsTrue}
use Rattle.std.specs.declared.cmp.Ordering.{Ordering}
use Rattle.fkv_functions.specs.Plain.{Same}
use Rattle.fkv_functions.specs.declared.refusals.Refused.{Refused}
use Rattle.fkv_functions.specs.declared.refusals.Refused.TheVariants.{NoMemory, Worn}
use Rattle.fkv_records.specs.Places.{page_at}
use Rattle.fkv_device.specs.Failing.{FailsOnlyBy}
use Rattle.fkv_regions.specs.Settled.{IsSettled}
use Rattle.fkv_partition.specs.Contexts.{is_session}
use Rattle.fkv_partition.specs.Views.{live_of, slots_of, PartitionView}

-- the pages of a partition move: each session and what is open in its contexts stay as they are, and so does Begin, and, on a device
-- that keeps, the live map
pub record IsTidied {K V I : Type 0} (keeps : Bool) (cmp : K → K → Ordering) (old new : PartitionView K V I)
    : Type 0 where
  pub number : new.number ≡ old.number
  pub count : new.count ≡ old.count
  pub sessions : (s : ℕ) → is_session (slots_of new) s ≡ is_session (slots_of old) s
  pub contexts : new.contexts ≡ old.contexts
  pub begin : new.records.log.begin ≡ old.records.log.begin
  pub live : IsTrue keeps → Same (live_of cmp new) (live_of cmp old)

-- a session that was the only one and had seen all, is and has
abbrev pub StaysSettled : {K V I : Type 0} → PartitionView K V I → PartitionView K V I → Type 0
StaysSettled old new = IsSettled old.records.log.regions → IsSettled new.records.log.regions

-- pages have the size that they had, and neither Head nor what is cleared has fallen
pub record IsOnward {K V I : Type 0} (old new : PartitionView K V I) : Type 0 where
  pub bits : new.records.log.regions.bits ≡ old.records.log.regions.bits
  pub head : old.records.log.regions.offsets.head ≤ new.records.log.regions.offsets.head
  pub cleared : old.cleared ≤ new.cleared

-- the log has the size, the tail and the frames that it had, its index the same buckets, and, on a device that keeps, the log the
-- same records
pub record IsSameLog {K V I : Type 0} (keeps : Bool) (old new : PartitionView K V I) : Type 0 where
  pub page_bits : new.records.log.bits ≡ old.records.log.bits
  pub tail : new.records.log.tail ≡ old.records.log.tail
  pub frames : new.records.log.frames ≡ old.records.log.frames
  pub partition_bits : new.records.partition_bits ≡ old.records.partition_bits
  pub bucket_bits : new.records.bucket_bits ≡ old.records.bucket_bits
  pub entries : IsTrue keeps → new.records.log.text ≡ old.records.log.text

-- each page below that of SafeReadOnly is written
abbrev pub IsWritten : {K V I : Type 0} → PartitionView K V I → Type 0
IsWritten v = page_at v.records.log.regions.bits v.records.log.regions.offsets.safe_read_only ≤ v.records.log.regions.flushed

-- the partition's last moment is past, and the clock has not gone back
pub record IsPassed (last clock clock_now : ℕ) : Type 0 where
  pub past : last ≤ clock_now
  pub later : clock ≤ clock_now

-- Why pages are not moved on: no two moments are left, or no memory, which counts no failure; or a page is not written.
pub data IsMoveRefusal (clock writes writes_now : ℕ) (why : Refused) : Type 0 where
  worn : why ≡ Worn → 2 ^ 64 ≤ clock + 2 → writes_now ≡ writes → IsMoveRefusal clock writes writes_now why
  no_memory : why ≡ NoMemory → writes_now ≡ writes → IsMoveRefusal clock writes writes_now why
  unwritten : (page : ℕ) → FailsOnlyBy 2 page writes writes_now why → IsMoveRefusal clock writes writes_now why
