use Rattle.std.proofs.Common.{◌≡◌, ◌+◌, ◌*◌, Some}
use Rattle.fkv_partition.specs.Contexts.{context_in, at_phase, on_key}
use Rattle.fkv_partition.specs.Inside.{view_of}
use Rattle.fkv_partition.proofs.SoundLemmas.{sound-context}
use Rattle.fkv_partition.proofs.AskedLemmas.{key_at}
use Rattle.fkv_partition.proofs.EventLemmas.{own-at, claims-none}
use Rattle.fkv_partition.proofs.WholeLemmas.{whole-set, key-moves}
use Rattle.fkv_partition.specs.declared.contexts.OpenWork.TheVariants.{OnKey}
use Rattle.fkv_partition.proofs.partitions.Partition.set_phase.Goals as goal

pub invariant_of-self : goal.invariant_of-self
invariant_of-self g c =
    let x = c.args.operation.now in
    let at : on_key (context_in c.self.inside.records.log.regions.epochs.slots c.self.inside.contexts.items c.args.slot c.args.context) ≡ Some x = rw (← c.self.view_is) at c.requires.here in
    let here = key_at c.self.inside.records.log.regions.epochs.slots c.self.inside.contexts.items c.args.slot c.args.context x at in
    let v = (view_of g.F.Mergeable.MERGES c.self.inside.number c.self.inside.count c.self.inside.records c.self.inside.contexts.items c.self.inside.moment c.self.inside.cleared) in
    let y = at_phase x c.args.phase in
    rw (c.move_on.ensures)
    (whole-set v c.self.invariant (c.args.slot * 8 + c.args.context) c.args.now (Some (OnKey y)) (λ z e. key-moves y z e)
    (sound-context c.self.invariant.sound c.args.slot c.args.context c.args.now (at_phase x c.args.phase)
    (claims-none (view_of g.F.Mergeable.MERGES c.self.inside.number c.self.inside.count c.self.inside.records c.self.inside.contexts.items c.self.inside.moment c.self.inside.cleared) c.args.slot c.args.context x at c.requires.unclaimed) c.requires.claims_nothing
    (record { inside = here.inside; low = here.low })
    (record {
      stands = rw (← c.self.view_is) at c.requires.stands;
      own = own-at g.F.Key.Ord.cmp g.F.Mergeable.parts.joined g.F.Functions.code (view_of g.F.Mergeable.MERGES c.self.inside.number c.self.inside.count c.self.inside.records c.self.inside.contexts.items c.self.inside.moment c.self.inside.cleared) c.self.invariant.sound c.args.slot c.args.context x at;
      merging = c.self.invariant.sound.merging (c.args.slot * 8 + c.args.context) x here.here;
    })))

pub move_on-requires-clause-here : goal.move_on-requires-clause-here
move_on-requires-clause-here g c =
    let at : on_key (context_in c.self.inside.records.log.regions.epochs.slots c.self.inside.contexts.items c.args.slot c.args.context) ≡ Some c.args.operation.now = rw (← c.self.view_is) at c.requires.here in
    (key_at c.self.inside.records.log.regions.epochs.slots c.self.inside.contexts.items c.args.slot c.args.context c.args.operation.now at).here
