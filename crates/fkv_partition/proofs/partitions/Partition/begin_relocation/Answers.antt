use Rattle.fkv_partition.proofs.MoveLemmas.{free-keyless}
use Rattle.fkv_partition.proofs.partitions.Partition.begin_relocation.Goals as goal

pub set_relocation-requires-clause-keyless : goal.set_relocation-requires-clause-keyless
set_relocation-requires-clause-keyless g c = (free-keyless c.args.self.now c.args.slot c.args.context c.requires.free)
