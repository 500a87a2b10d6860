use Rattle.fkv_partition.specs.Inside.{view_of}
use Rattle.fkv_partition.specs.Sound.{MayClear}
use Rattle.fkv_partition.proofs.WholeLemmas.{whole-cleared}
use Rattle.fkv_partition.proofs.partitions.Partition.clear_to.Goals as goal

pub invariant_of-self : goal.invariant_of-self
invariant_of-self g c =
    let v = view_of g.F.Mergeable.MERGES c.self.inside.number c.self.inside.count c.self.inside.records c.self.inside.contexts.items c.self.inside.moment c.self.inside.cleared in
    let may : MayClear g.R.Receipt.keeps g.F.Key.Ord.cmp v c.args.address = rw (← c.self.view_is) at c.requires.clears in
    whole-cleared v c.self.invariant c.args.address may
