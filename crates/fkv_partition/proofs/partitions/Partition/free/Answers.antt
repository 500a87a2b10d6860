use Rattle.fkv_partition.proofs.SoundLemmas.{sound-freed}
use Rattle.fkv_partition.proofs.WholeLemmas.{whole-set, none-moves}
use Rattle.fkv_partition.specs.Inside.{view_of}
use Rattle.std.proofs.Common.{◌+◌, ◌*◌, None}
use Rattle.fkv_partition.proofs.partitions.Partition.free.Goals as goal

pub invariant_of-self : goal.invariant_of-self
invariant_of-self g c =
    let v = (view_of g.F.Mergeable.MERGES c.self.inside.number c.self.inside.count c.self.inside.records c.self.inside.contexts.items c.self.inside.moment c.self.inside.cleared) in
    rw c.set_context.ensures
    (whole-set v c.self.invariant (c.args.slot * 8 + c.args.context) c.args.now None (λ x e. none-moves x e)
    (sound-freed c.self.invariant.sound c.args.slot c.args.context c.args.now (rw (← c.self.view_is) at c.requires.unclaimed)))
