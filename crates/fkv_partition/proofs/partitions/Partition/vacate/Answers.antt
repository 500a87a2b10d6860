use Rattle.std.proofs.Common.{refl}
use Rattle.fkv_partition.specs.Inside.{view_of}
use Rattle.fkv_partition.proofs.SoundLemmas.{sound-moved, slots-moved}
use Rattle.fkv_partition.proofs.EventLemmas.{ok-on, idle-other}
use Rattle.fkv_partition.proofs.WholeLemmas.{whole-regions}
use Rattle.fkv_regions.specs.RegionsView.{left}
use Rattle.fkv_partition.proofs.partitions.Partition.vacate.Goals as goal

pub invariant_of-self : goal.invariant_of-self
invariant_of-self g c =
    let made = c.leave-left.ensures in
    let effect = ok-on c.leave-left.result (made.unknown.1 (rw (← c.self.view_is) at c.requires.entered)) made.effect in
    let idle = rw (← c.self.view_is) at c.requires.idle in
    let v = (view_of g.F.Mergeable.MERGES c.self.inside.number c.self.inside.count c.self.inside.records c.self.inside.contexts.items c.self.inside.moment c.self.inside.cleared) in
    whole-regions v c.self.invariant c.leave-left.new.self (left v.records.log.regions c.args.slot) c.args.now made.raised effect
    (sound-moved c.self.invariant.sound c.leave-left.new.self _ c.args.now c.facts.ensures.traced c.facts.ensures.resolved effect made.raised
    (λ t d x low here. slots-moved c.self.inside.records c.leave-left.new.self _ t effect (idle-other (view_of g.F.Mergeable.MERGES c.self.inside.number c.self.inside.count c.self.inside.records c.self.inside.contexts.items c.self.inside.moment c.self.inside.cleared) c.args.slot t d x idle low here (c.self.invariant.sound.housed t d x low here))))

pub returns : goal.returns
returns g c =
    let made = c.leave-left.ensures in
    let effect = ok-on c.leave-left.result (made.unknown.1 (rw (← c.self.view_is) at c.requires.entered)) made.effect in
    rw (← c.self.view_is) (record { moves = effect; is = refl })
