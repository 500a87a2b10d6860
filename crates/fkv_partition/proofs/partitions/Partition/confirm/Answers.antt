use Rattle.std.proofs.Common.{◌≡◌, Some, refl, ◌+◌, ◌*◌, slice_set}
use Rattle.std.proofs.lemmas.Bool.{OnTrue_at, OnTrue_from, OnFalse_at, OnFalse_from}
use Rattle.fkv_partition.specs.Contexts.{context_in, on_key, at_phase}
use Rattle.fkv_partition.specs.Inside.{view_of}
use Rattle.fkv_functions.proofs.CallLemmas.{with_six}
use Rattle.fkv_partition.proofs.ChangeLemmas.{is-tentative, settled-made, sound-settles, reworded-by}
use Rattle.fkv_partition.proofs.AskedLemmas.{key_at}
use Rattle.fkv_partition.proofs.WholeLemmas.{whole-settled, set-resolved, key-moves}
use Rattle.fkv_partition.specs.declared.contexts.Phase.TheVariants.{Fresh}
use Rattle.fkv_partition.specs.declared.contexts.OpenWork.TheVariants.{OnKey}
use Rattle.fkv_partition.proofs.partitions.Partition.confirm.Goals as goal

pub confirm-is_final-requires-whole : goal.confirm-is_final-requires-whole
confirm-is_final-requires-whole g c κs =
    let x = c.args.operation.now in
    let at : on_key (context_in c.self.inside.records.log.regions.epochs.slots c.self.inside.contexts.items c.args.slot c.args.context) ≡ Some x = rw (← c.self.view_is) at c.requires.here in
    with_six (
    is-tentative g.F.Key.Ord.cmp g.F.Mergeable.parts.joined g.F.Functions.code (view_of g.F.Mergeable.MERGES c.self.inside.number c.self.inside.count c.self.inside.records c.self.inside.contexts.items c.self.inside.moment c.self.inside.cleared) c.self.invariant.sound c.args.slot c.args.context c.args.now x at c.args.place c.requires.phase)

pub invariant_of-self : goal.invariant_of-self
invariant_of-self g c =
    let x = c.args.operation.now in
    let at : on_key (context_in c.self.inside.records.log.regions.epochs.slots c.self.inside.contexts.items c.args.slot c.args.context) ≡ Some x = rw (← c.self.view_is) at c.requires.here in
    let made = c.confirm-is_final.ensures in
    let is = is-tentative g.F.Key.Ord.cmp g.F.Mergeable.parts.joined g.F.Functions.code (view_of g.F.Mergeable.MERGES c.self.inside.number c.self.inside.count c.self.inside.records c.self.inside.contexts.items c.self.inside.moment c.self.inside.cleared) c.self.invariant.sound c.args.slot c.args.context c.args.now x at c.args.place c.requires.phase in
    let v = (view_of g.F.Mergeable.MERGES c.self.inside.number c.self.inside.count c.self.inside.records c.self.inside.contexts.items c.self.inside.moment c.self.inside.cleared) in
    let y = at_phase x Fresh in
    let contexts = slice_set v.contexts (c.args.slot * 8 + c.args.context) (Some (OnKey y)) in
    rw (c.move_on.ensures)
    (whole-settled v c.self.invariant c.args.slot c.args.context c.args.now x at c.args.place c.requires.phase c.confirm-is_final.new.self contexts c.confirm-is_final.result made.confirmed made.emptied
    (sound-settles g.F.Key.Ord.cmp g.F.Mergeable.parts.joined g.F.Functions.code (view_of g.F.Mergeable.MERGES c.self.inside.number c.self.inside.count c.self.inside.records c.self.inside.contexts.items c.self.inside.moment c.self.inside.cleared) c.self.invariant.sound c.args.slot c.args.context c.args.now x at
    c.confirm-is_final.new.self c.args.place c.requires.phase (reworded-by c.self.inside.records c.confirm-is_final.new.self c.args.place c.confirm-is_final.result made.confirmed made.emptied) made.changes made.freed
    (settled-made c.self.inside.records c.confirm-is_final.new.self c.args.place is c.confirm-is_final.result made.confirmed made.emptied) c.facts.ensures.traced c.facts.ensures.resolved)
    (set-resolved v.contexts (c.args.slot * 8 + c.args.context) (Some (OnKey y)) (key-moves y)))

pub returns-clause-alone : goal.returns-clause-alone
returns-clause-alone g c = rw (← c.self.view_is) c.confirm-is_final.ensures.alone

pub returns-clause-final_now : goal.returns-clause-final_now
returns-clause-final_now g c =
    OnTrue_from c.confirm-is_final.result _ (λ e. rw (c.move_on.ensures, OnTrue_at e c.confirm-is_final.ensures.confirmed, ← c.self.view_is) refl)

pub returns-clause-backed_off : goal.returns-clause-backed_off
returns-clause-backed_off g c =
    OnFalse_from c.confirm-is_final.result _ (λ e. rw (c.move_on.ensures, OnFalse_at e c.confirm-is_final.ensures.emptied, ← c.self.view_is) refl)

pub move_on-requires-clause-here : goal.move_on-requires-clause-here
move_on-requires-clause-here g c =
    let at : on_key (context_in c.self.inside.records.log.regions.epochs.slots c.self.inside.contexts.items c.args.slot c.args.context) ≡ Some c.args.operation.now = rw (← c.self.view_is) at c.requires.here in
    (key_at c.self.inside.records.log.regions.epochs.slots c.self.inside.contexts.items c.args.slot c.args.context c.args.operation.now at).here
