-- How many pages an operation reads.
use Rattle.std.specs.Prelude.{◌≡◌, ◌≢◌, ◌≤◌, ◌+◌, ◌*◌, ℕ, Some, length, filter, slice_get}
use Rattle.fkv_operations.specs.Classes.{same_class}
use Rattle.fkv_operations.specs.After.{key_of}
use Rattle.fkv_operations.specs.declared.operations.KeyedOp.{KeyedOp}
use Rattle.fkv_lookups.specs.RecordsViews.{RecordsView, class_in}
use Rattle.fkv_partition.specs.Views.{PartitionView}
use Rattle.fkv_local.specs.Storing.{StoreView}
use Rattle.fkv_local.specs.Refusing.{home_of}

-- how many records of a key's class are in a log: those of keys that share its bucket and its tag
abbrev pub records_of : {K V : Type 0} → (K → ℕ) → RecordsView K V → K → ℕ
records_of code r k = length (filter (λ e. same_class (class_in code r e.key) (class_in code r k)) r.log.text)

-- HOW MANY PAGES AN OPERATION READS: at most two for each record of its key's class in the log of its partition, since one that finds
-- no room begins anew after pages moved on; and none of another partition
pub record ReadsFew {K V I W P : Type 0} (code : K → ℕ) (reads : P → ℕ) (old new : StoreView K V I W P) (op : KeyedOp K V I)
    : Type 0 where
  pub here : (part : PartitionView K V I) (reader reader_now : P)
      → slice_get old.parts (home_of code old op) ≡ Some part
      → slice_get old.readers (home_of code old op) ≡ Some reader
      → slice_get new.readers (home_of code old op) ≡ Some reader_now
      → reads reader_now ≤ reads reader + 2 * records_of code part.records (key_of op)
  pub others : (place : ℕ) → place ≢ home_of code old op → slice_get new.readers place ≡ slice_get old.readers place
