-- The fields behind a `PartitionView`.
use Rattle.std.specs.Prelude.{ℕ, Bool, List, Option}
use Rattle.fkv_lookups.specs.RecordsViews.{RecordsView}
use Rattle.fkv_partition.specs.declared.contexts.OpenWork.{OpenWork}
use Rattle.fkv_partition.specs.Views.{PartitionView}

abbrev pub view_of : {K V I : Type 0} → Bool → ℕ → ℕ → RecordsView K V → List (Option (OpenWork K V I)) → ℕ → ℕ
    → PartitionView K V I
view_of merges number count records contexts moment cleared = record {
  merges = merges;
  number = number;
  count = count;
  records = records;
  contexts = contexts;
  moment = moment;
  cleared = cleared;
}
