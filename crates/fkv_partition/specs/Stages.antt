-- What an open relocation stands for.
use Rattle.std.specs.Prelude.{◌≡◌, ◌<◌, ◌≤◌, ℕ, Bool, IsTrue, IsSome, Some}
use Rattle.std.specs.declared.cmp.Ordering.{Ordering}
use Rattle.fkv_records.specs.Places.{IsRecordStart}
use Rattle.fkv_index.specs.Words.{address_of}
use Rattle.fkv_texts.specs.declared.entries.Entry.{Entry}
use Rattle.fkv_texts.specs.Text.{entry_at}
use Rattle.fkv_texts.specs.Deltas.{AreDeltasBetween}
use Rattle.fkv_lookups.specs.RecordsViews.{RecordsView}
use Rattle.fkv_operations.specs.declared.entries.IndexEntry.{IndexEntry}
use Rattle.fkv_partition.specs.declared.contexts.Loading.{Loading}
use Rattle.fkv_partition.specs.KeySound.{IsKept, IsLoading}
use Rattle.fkv_partition.specs.Views.{PartitionView, partition_of}
use Rattle.fkv_partition.specs.declared.relocations.Relocation.{Relocation}
use Rattle.fkv_partition.specs.declared.relocations.Stage.{Stage}
use Rattle.fkv_partition.specs.declared.relocations.Stage.TheVariants.{Fresh, Reading, Tracing, Ready}

-- it waits for the page of its place, which was on disk when Begin was here
pub record IsReading {K V : Type 0} (r : RecordsView K V) (place begin : ℕ) : Type 0 where
  pub past : begin ≤ r.log.begin
  pub begun : begin ≤ place
  pub on_disk : place < r.log.regions.offsets.head

-- its record was read, and the way from the entry of its class goes on at an address above its place, in a page on disk,
-- with the parts of the key's deltas above.
-- On a device that keeps, while Begin stands, the record read is that of the place
pub record IsTracing {K V : Type 0} (keeps : Bool) (cmp : K → K → Ordering) (join : V → V → V) (code : K → ℕ) (r : RecordsView K V)
    (place : ℕ) (entry : Entry K V) (l : Loading V) : Type 0 where
  pub here : entry.address ≡ place
  pub some : IsSome entry.value
  pub begun : l.begin ≤ place
  pub above : place < l.wanted
  pub led : IsTrue keeps → place ≤ address_of l.kept.word
  pub loading : IsLoading keeps cmp join code r entry.key l
  pub is : IsTrue keeps → l.begin ≡ r.log.begin → entry_at r.log.text place ≡ Some entry

-- this record is to be appended. On a device that keeps, its key has its value while the entry stands as it was kept, the
-- record of the place has that key, and of the key's records only deltas stand after the place, up to where the kept entry
-- leads: to the last of them, while it stands
pub record IsReady {K V : Type 0} (keeps : Bool) (cmp : K → K → Ordering) (join : V → V → V) (code : K → ℕ) (r : RecordsView K V)
    (place : ℕ) (entry : Entry K V) (kept : IndexEntry) : Type 0 where
  pub here : entry.address ≡ place
  pub some : IsSome entry.value
  pub is_kept : IsKept keeps cmp code r entry.key kept entry.value
  pub own : IsTrue keeps → (d : Entry K V) → entry_at r.log.text place ≡ Some d → d.key ≡ entry.key
  pub between : IsTrue keeps → AreDeltasBetween cmp r.log.text entry.key place (address_of kept.word)

abbrev pub StageStands : {K V I : Type 0} → Bool → (K → K → Ordering) → (V → V → V) → (K → ℕ) → PartitionView K V I → ℕ → Stage K V
    → Type 0
StageStands keeps cmp join code v place Fresh = Unit {0}
StageStands keeps cmp join code v place (Reading begin) = IsReading v.records place begin
StageStands keeps cmp join code v place (Tracing entry l) =
    (partition_of v.count (code entry.key) ≡ v.number) × IsTracing keeps cmp join code v.records place entry l
StageStands keeps cmp join code v place (Ready entry kept) =
    (partition_of v.count (code entry.key) ≡ v.number) × IsReady keeps cmp join code v.records place entry kept

-- its place is that of a frozen record, and was not cleared when it was issued
pub record RelocationStands {K V I : Type 0} (keeps : Bool) (cmp : K → K → Ordering) (join : V → V → V) (code : K → ℕ)
    (v : PartitionView K V I) (cleared : ℕ) (x : Relocation K V) : Type 0 where
  pub place : IsRecordStart v.records.log.bits v.records.record_size x.target
  pub frozen : x.target < v.records.log.regions.offsets.safe_read_only
  pub issued : x.target ≤ cleared
  pub stage : StageStands keeps cmp join code v x.target x.stage
