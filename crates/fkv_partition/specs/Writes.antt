-- Records that are to be appended.
use Rattle.std.specs.Prelude.{◌≡◌, ℕ}
use Rattle.fkv_lookups.specs.RecordsViews.{class_in, IsEntryOf}
use Rattle.fkv_partition.specs.declared.changes.Write.{Write}
use Rattle.fkv_partition.specs.Views.{PartitionView, partition_of}

-- the key belongs here, and the entry stands as that of the key's class
pub record IsWrite {K V I : Type 0} (code : K → ℕ) (v : PartitionView K V I) (write : Write K V) : Type 0 where
  pub own : partition_of v.count (code write.key) ≡ v.number
  pub entry : IsEntryOf v.records (class_in code v.records write.key) write.entry
