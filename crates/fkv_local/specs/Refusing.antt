-- Why an operation is refused, and a compaction.
use Rattle.std.specs.Prelude.{◌≡◌, ◌≢◌, ◌≤◌, ◌<◌, ◌+◌, ◌^◌, ℕ, Bool, IsTrue, true, false, Some, slice_get, length, map}
use Rattle.fkv_functions.specs.declared.refusals.Refused.{Refused}
use Rattle.fkv_functions.specs.declared.refusals.Refused.TheVariants.{NoMemory, NoMerge, Worn, Damaged}
use Rattle.fkv_device.specs.Failing.{FailsOnlyBy, ReadFailsBy}
use Rattle.fkv_operations.specs.After.{key_of, is_merge}
use Rattle.fkv_operations.specs.declared.operations.KeyedOp.{KeyedOp}
use Rattle.fkv_partition.specs.Views.{partition_of, PartitionView}
use Rattle.fkv_local.specs.Failures.{Failures, failures_of, IsBeside}
use Rattle.fkv_local.specs.Storing.{StoreView}

-- Why work at a partition is refused, on a device that keeps or not, by the failures of its writer and its reader before and after:
-- the tail of its log and the clock are what they are then.
pub data IsWorkRefusal (keeps : Bool) (tail clock : ℕ) (old now : Failures) (why : Refused) : Type 0 where
  no_memory : why ≡ NoMemory → now ≡ old → IsWorkRefusal keeps tail clock old now why
  -- a page is not written
  unwritten : (page : ℕ)
      → FailsOnlyBy 2 page old.writes now.writes why
      → now.reads ≡ old.reads
      → IsWorkRefusal keeps tail clock old now why
  -- a page is not read
  unread : (page : ℕ)
      → ReadFailsBy page old.reads now.reads why
      → now.writes ≡ old.writes
      → IsWorkRefusal keeps tail clock old now why
  -- the bytes that were read spell no record, or lead to no place, and the device told nothing of it: no keeping device comes to it
  misspelled : (page : ℕ)
      → (IsTrue keeps → ⊥)
      → why ≡ Damaged page
      → now ≡ old
      → IsWorkRefusal keeps tail clock old now why
  -- no address is left for a record
  no_address : why ≡ Worn → tail ≡ 2 ^ 48 → now ≡ old → IsWorkRefusal keeps tail clock old now why
  -- no two moments are left
  no_moment : why ≡ Worn → 2 ^ 64 ≤ clock + 2 → now ≡ old → IsWorkRefusal keeps tail clock old now why

-- Why an operation is refused of a partition, of functions that merge or not.
pub data IsStopped {K V I : Type 0} (keeps merges : Bool) (op : KeyedOp K V I) (tail clock : ℕ) (old now : Failures)
    (why : Refused) : Type 0 where
  unworked : IsWorkRefusal keeps tail clock old now why
      → IsStopped keeps merges op tail clock old now why
  -- a merge, of functions that don't
  unmerged : why ≡ NoMerge
      → is_merge op ≡ true
      → merges ≡ false
      → now ≡ old
      → IsStopped keeps merges op tail clock old now why

-- the same of an operation before which the store may have compacted the log by itself: of the partition's writer and reader as they
-- were when the call began, and as they are
pub record IsRefusedBy {K V I W P : Type 0} (keeps merges keeps_log : Bool) (writes : W → ℕ) (reads : P → ℕ) (op : KeyedOp K V I)
    (tail clock : ℕ) (writer : W) (reader : P) (writer_now : W) (reader_now : P) (why : Refused) : Type 0 where
  pub writer_then : W
  pub reader_then : P
  pub beside : IsBeside keeps_log (failures_of writes reads writer reader) (failures_of writes reads writer_then reader_then)
  pub stopped : IsStopped keeps merges op tail clock (failures_of writes reads writer_then reader_then)
      (failures_of writes reads writer_now reader_now) why

-- the writer and the reader at a place
abbrev pub HasEnds : {K V I W P : Type 0} → StoreView K V I W P → ℕ → W → P → Type 0
HasEnds store place writer reader =
    (slice_get store.writers place ≡ Some writer) × (slice_get store.readers place ≡ Some reader)

-- the writer and the reader at a place have failed as often as before
abbrev pub FailedAsBefore : {K V I W P : Type 0} → (W → ℕ) → (P → ℕ) → StoreView K V I W P → StoreView K V I W P → ℕ → Type 0
FailedAsBefore writes reads old new place =
    (slice_get (map writes new.writers) place ≡ slice_get (map writes old.writers) place)
    × (slice_get (map reads new.readers) place ≡ slice_get (map reads old.readers) place)

-- at a place are the partition, the writer and the reader that were there
pub record StaysAt {K V I W P : Type 0} (old new : StoreView K V I W P) (place : ℕ) : Type 0 where
  pub part : slice_get new.parts place ≡ slice_get old.parts place
  pub writer : slice_get new.writers place ≡ slice_get old.writers place
  pub reader : slice_get new.readers place ≡ slice_get old.readers place

-- the place of the partition of an operation's key
abbrev pub home_of : {K V I W P : Type 0} → (K → ℕ) → StoreView K V I W P → KeyedOp K V I → ℕ
home_of code store op = partition_of (length store.parts) (code (key_of op))

-- WHY AN OPERATION IS REFUSED: by the partition of its key, and what its writer and its reader counted in the call. All other
-- partitions are as they were, with their writers and readers.
pub record IsRefusal {K V I W P : Type 0} (keeps merges : Bool) (code : K → ℕ) (writes : W → ℕ) (reads : P → ℕ)
    (old new : StoreView K V I W P) (op : KeyedOp K V I) (why : Refused) : Type 0 where
  pub part : PartitionView K V I
  pub writer : W
  pub reader : P
  pub writer_now : W
  pub reader_now : P
  pub here : slice_get new.parts (home_of code new op) ≡ Some part
  pub ends : HasEnds old (home_of code new op) writer reader
  pub ends_now : HasEnds new (home_of code new op) writer_now reader_now
  pub others : (place : ℕ) → place ≢ home_of code new op → StaysAt old new place
  pub refused : IsRefusedBy keeps merges old.keeps_log writes reads op part.records.log.tail new.moments
      writer reader writer_now reader_now why

-- why the log at this place is not compacted, and what its writer and its reader counted
pub record IsUncompactedAt {K V I W P : Type 0} (keeps : Bool) (writes : W → ℕ) (reads : P → ℕ) (old new : StoreView K V I W P)
    (place : ℕ) (why : Refused) : Type 0 where
  pub part : PartitionView K V I
  pub writer : W
  pub reader : P
  pub writer_now : W
  pub reader_now : P
  pub here : slice_get new.parts place ≡ Some part
  pub ends : HasEnds old place writer reader
  pub ends_now : HasEnds new place writer_now reader_now
  pub refused : IsWorkRefusal keeps part.records.log.tail new.moments (failures_of writes reads writer reader)
      (failures_of writes reads writer_now reader_now) why

-- WHY A COMPACTION IS REFUSED: by the log at this place. No writer or reader before it has failed, and what is behind it is as it
-- was.
pub record IsUncompacted {K V I W P : Type 0} (keeps : Bool) (writes : W → ℕ) (reads : P → ℕ) (old new : StoreView K V I W P)
    (why : Refused) : Type 0 where
  pub place : ℕ
  pub here : IsUncompactedAt keeps writes reads old new place why
  pub passed : (p : ℕ) → p < place → FailedAsBefore writes reads old new p
  pub behind : (p : ℕ) → place < p → StaysAt old new p
