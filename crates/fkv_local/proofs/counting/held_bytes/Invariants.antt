use Rattle.std.proofs.Common.{◌≡◌, ◌-◌, ◌^◌, min, sum_by, take, map}
use Rattle.fkv_local.specs.Storing.{log_bytes, evicted_bytes}
use Rattle.fkv_local.proofs.counting.held_bytes.Given as goal

-- those of the partitions so far
abbrev pub invariant-loop-index : goal.invariant-loop-index
invariant-loop-index g l = record {
  bytes : l.bytes ≡ min (sum_by log_bytes (take l.index (map (λ shard. shard.part.partition) l.shards))) (2 ^ 64 - 1);
  evicted : l.evicted ≡ min (sum_by evicted_bytes (take l.index (map (λ shard. shard.part.partition) l.shards))) (2 ^ 64 - 1);
}
