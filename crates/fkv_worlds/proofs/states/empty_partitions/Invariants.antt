use Rattle.std.proofs.Common.{◌≡◌}
use Rattle.fkv_records.specs.Records.{size_of}
use Rattle.fkv_worlds.specs.States.{empty_partitions}
use Rattle.fkv_worlds.proofs.states.empty_partitions.Given as goal

abbrev pub invariant-loop-number : goal.invariant-loop-number
invariant-loop-number g l = l.partitions.items ≡ empty_partitions g.F.Mergeable.MERGES l.config (size_of g.F.Key.Fixed.SIZE g.F.Value.Fixed.SIZE) l.number
