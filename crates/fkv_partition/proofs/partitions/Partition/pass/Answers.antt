use Rattle.fkv_partition.proofs.WholeLemmas.{whole-moment}
use Rattle.fkv_partition.proofs.partitions.Partition.pass.Goals as goal

pub invariant_of-self : goal.invariant_of-self
invariant_of-self g c = whole-moment _ c.self.invariant c.args.now
