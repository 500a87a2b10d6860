use Rattle.std.proofs.Common.{◌≡◌, Some, ◌+◌, ◌*◌, slice_set, None, ap}
use Rattle.fkv_partition.specs.Contexts.{context_in, on_key}
use Rattle.fkv_partition.specs.Inside.{view_of}
use Rattle.fkv_functions.proofs.CallLemmas.{with_six}
use Rattle.fkv_partition.proofs.ChangeLemmas.{is-tentative, released-made, sound-cancels, reworded-released}
use Rattle.fkv_partition.proofs.WholeLemmas.{whole-records, set-resolved, none-moves}
use Rattle.fkv_partition.proofs.PreservedLemmas.{borne-released}
use Rattle.fkv_partition.proofs.partitions.Partition.cancel.Goals as goal

pub cancel-requires-whole : goal.cancel-requires-whole
cancel-requires-whole g c κs =
    let x = c.args.operation.now in
    let at : on_key (context_in c.self.inside.records.log.regions.epochs.slots c.self.inside.contexts.items c.args.slot c.args.context) ≡ Some x = rw (← c.self.view_is) at c.requires.here in
    with_six (
    is-tentative g.F.Key.Ord.cmp g.F.Mergeable.parts.joined g.F.Functions.code (view_of g.F.Mergeable.MERGES c.self.inside.number c.self.inside.count c.self.inside.records c.self.inside.contexts.items c.self.inside.moment c.self.inside.cleared) c.self.invariant.sound c.args.slot c.args.context c.args.now x at c.args.place c.requires.phase)

pub invariant_of-self : goal.invariant_of-self
invariant_of-self g c =
    let x = c.args.operation.now in
    let at : on_key (context_in c.self.inside.records.log.regions.epochs.slots c.self.inside.contexts.items c.args.slot c.args.context) ≡ Some x = rw (← c.self.view_is) at c.requires.here in
    let made = c.cancel.ensures in
    let is = is-tentative g.F.Key.Ord.cmp g.F.Mergeable.parts.joined g.F.Functions.code (view_of g.F.Mergeable.MERGES c.self.inside.number c.self.inside.count c.self.inside.records c.self.inside.contexts.items c.self.inside.moment c.self.inside.cleared) c.self.invariant.sound c.args.slot c.args.context c.args.now x at c.args.place c.requires.phase in
    let v = (view_of g.F.Mergeable.MERGES c.self.inside.number c.self.inside.count c.self.inside.records c.self.inside.contexts.items c.self.inside.moment c.self.inside.cleared) in
    let contexts = slice_set v.contexts (c.args.slot * 8 + c.args.context) None in
    let new = record v { records = c.cancel.new.self; contexts = contexts; moment = c.args.now } in
    rw c.set_context.ensures
    (whole-records v c.self.invariant c.cancel.new.self contexts c.args.now
    (sound-cancels g.F.Key.Ord.cmp g.F.Mergeable.parts.joined g.F.Functions.code (view_of g.F.Mergeable.MERGES c.self.inside.number c.self.inside.count c.self.inside.records c.self.inside.contexts.items c.self.inside.moment c.self.inside.cleared) c.self.invariant.sound c.args.slot c.args.context c.args.now x at
    c.cancel.new.self c.args.place c.requires.phase (reworded-released c.self.inside.records c.cancel.new.self c.args.place made.emptied) made.changes made.freed
    (released-made c.self.inside.records c.cancel.new.self c.args.place is made.emptied) c.facts.ensures.traced c.facts.ensures.resolved)
    (borne-released g.F.Key.Ord.cmp g.F.Mergeable.parts.joined g.F.Functions.code v c.self.invariant.sound new c.args.slot c.args.context c.args.now x at c.args.place c.requires.phase made.emptied)
    (ap (λ r. r.log.begin) made.emptied) (set-resolved v.contexts (c.args.slot * 8 + c.args.context) None none-moves))
