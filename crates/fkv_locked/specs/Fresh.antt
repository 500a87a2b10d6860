-- A locked partition to which nothing has happened.
use Rattle.std.specs.Prelude.{[], replicate}
use Rattle.fkv_partition.specs.Views.{PartitionView}
use Rattle.fkv_locked.specs.Locks.{LockedView}

abbrev pub fresh_lock : {K V I O : Type 0} → PartitionView K V I → LockedView K V I O
fresh_lock v = record {
  partition = v;
  entries = [];
  count = 0;
  lows = replicate 128 0;
  looks = replicate 128 0;
  clock = 0;
  book = 0;
  enters = 0;
}
