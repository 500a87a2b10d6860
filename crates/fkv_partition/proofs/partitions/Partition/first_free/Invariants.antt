use Rattle.std.proofs.Common.{◌<◌, ℕ}
use Rattle.fkv_partition.specs.Beginning.{IsFree}
use Rattle.fkv_partition.proofs.partitions.Partition.first_free.Given as goal

abbrev pub invariant-loop-context : goal.invariant-loop-context
invariant-loop-context g l = (d : ℕ) → d < l.context → ¬ IsFree l.self l.slot d
