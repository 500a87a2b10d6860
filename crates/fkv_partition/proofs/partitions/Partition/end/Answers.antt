use Rattle.fkv_partition.proofs.MoveLemmas.{some-unclaimed}
use Rattle.fkv_partition.proofs.partitions.Partition.end.Goals as goal

pub free-requires-clause-unclaimed : goal.free-requires-clause-unclaimed
free-requires-clause-unclaimed g c =
    some-unclaimed c.args.self.now c.args.slot c.args.context (c.requires.here)
