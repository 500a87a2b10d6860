-- What every partition keeps: beside what its records and the operations on keys keep (`KeySound`), each record below `cleared` is
-- superseded, and each open relocation stands for what its stage says.
use Rattle.std.specs.Prelude.{◌≡◌, ◌^◌, ◌<◌, ◌≤◌, ℕ, Bool, IsTrue, Some, slice_get}
use Rattle.std.specs.declared.cmp.Ordering.{Ordering}
use Rattle.fkv_records.specs.Places.{IsRecordStart}
use Rattle.fkv_texts.specs.Deltas.{IsCleared}
use Rattle.fkv_partition.specs.declared.contexts.OpenWork.TheVariants.{Relocating}
use Rattle.fkv_partition.specs.declared.relocations.Relocation.{Relocation}
use Rattle.fkv_partition.specs.Views.{PartitionView}
use Rattle.fkv_partition.specs.KeySound.{IsSound}
use Rattle.fkv_partition.specs.Stages.{RelocationStands}

pub record IsCompacting {K V I : Type 0} (keeps : Bool) (cmp : K → K → Ordering) (join : V → V → V) (code : K → ℕ) (v : PartitionView K V I)
    : Type 0 where
  pub begun : v.records.log.begin ≤ v.cleared
  pub low : v.cleared ≤ v.records.log.tail
  pub place : v.cleared < 2 ^ 48 → IsRecordStart v.records.log.bits v.records.record_size v.cleared
  -- on a device that keeps: each record below is a tombstone, or a later value or tombstone of its key covers it
  pub cleared : IsTrue keeps → IsCleared cmp v.records.log.text v.cleared
  pub stands : (p : ℕ) (x : Relocation K V)
      → slice_get v.contexts p ≡ Some (Some (Relocating x))
      → RelocationStands keeps cmp join code v v.cleared x

-- all may be cleared up to here: no record is left behind, and on a device that keeps each below is superseded
pub record MayClear {K V I : Type 0} (keeps : Bool) (cmp : K → K → Ordering) (v : PartitionView K V I) (limit : ℕ) : Type 0 where
  pub higher : v.cleared ≤ limit
  pub low : limit ≤ v.records.log.tail
  pub place : limit < 2 ^ 48 → IsRecordStart v.records.log.bits v.records.record_size limit
  pub cleared : IsTrue keeps → IsCleared cmp v.records.log.text limit

-- what holds of every partition
pub record IsPartition {K V I : Type 0} (keeps : Bool) (cmp : K → K → Ordering) (join : V → V → V) (code : K → ℕ)
    (v : PartitionView K V I) : Type 0 where
  pub sound : IsSound keeps cmp join code v
  pub compacting : IsCompacting keeps cmp join code v
