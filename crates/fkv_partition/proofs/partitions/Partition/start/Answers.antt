use Rattle.std.proofs.Common.{refl, ◌+◌, ◌*◌, Some}
use Rattle.fkv_partition.specs.declared.contexts.Phase.TheVariants.{Fresh}
use Rattle.fkv_partition.proofs.SoundLemmas.{sound-context}
use Rattle.fkv_partition.proofs.WholeLemmas.{whole-set, key-moves}
use Rattle.fkv_partition.specs.Inside.{view_of}
use Rattle.fkv_partition.specs.declared.contexts.Context.{Context}
use Rattle.fkv_partition.specs.declared.contexts.OpenWork.TheVariants.{OnKey}
use Rattle.fkv_partition.proofs.partitions.Partition.start.Goals as goal

pub invariant_of-self : goal.invariant_of-self
invariant_of-self g c =
    let v = (view_of g.F.Mergeable.MERGES c.self.inside.number c.self.inside.count c.self.inside.records c.self.inside.contexts.items c.self.inside.moment c.self.inside.cleared) in
    let x : Context _ _ _ = record { number = c.args.now; op = c.args.op; phase = Fresh } in
    rw c.set_context.ensures
    (whole-set v c.self.invariant (c.args.slot * 8 + c.args.context) c.args.now (Some (OnKey x)) (λ y e. key-moves x y e)
    (sound-context c.self.invariant.sound c.args.slot c.args.context c.args.now x
    (rw (← c.self.view_is) at c.requires.unclaimed) refl
    (record { inside = rw (← c.self.view_is) at c.requires.entered; low = c.requires.context })
    (record { stands = tt; own = rw (← c.self.view_is) at c.requires.own; merging = rw (← c.self.view_is) at c.requires.merging })))
