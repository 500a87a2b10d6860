use Rattle.std.proofs.Common.{◌≡◌, Some, refl, sym, ap, subst, ◌∙◌, ◌+◌, ◌*◌, slice_set}
use Rattle.std.specs.List.{list_any}
use Rattle.fkv_index.specs.Words.{is_empty}
use Rattle.fkv_index.specs.Places.{words_of}
use Rattle.fkv_operations.specs.declared.classes.Class.{Class}
use Rattle.fkv_lookups.specs.RecordsViews.{Claims}
use Rattle.fkv_partition.specs.Contexts.{context_in, on_key, at_phase}
use Rattle.fkv_partition.specs.Inside.{view_of}
use Rattle.fkv_partition.proofs.ChangeLemmas.{sound-claims}
use Rattle.fkv_partition.proofs.AskedLemmas.{key_at}
use Rattle.fkv_partition.proofs.WholeLemmas.{whole-records, set-resolved, key-moves}
use Rattle.fkv_partition.proofs.PreservedLemmas.{borne-claimed}
use Rattle.fkv_partition.specs.declared.contexts.Phase.TheVariants.{Confirm}
use Rattle.fkv_partition.specs.declared.contexts.OpenWork.TheVariants.{OnKey}
use Rattle.fkv_partition.proofs.partitions.Partition.claim.Goals as goal

pub invariant_of-self-2 : goal.invariant_of-self-2
invariant_of-self-2 g c =
    let x = c.args.operation.now in
    let at : on_key (context_in c.self.inside.records.log.regions.epochs.slots c.self.inside.contexts.items c.args.slot c.args.context) ≡ Some x = rw (← c.self.view_is) at c.requires.here in
    let made = c.in-Ok.ensures in
    let v = (view_of g.F.Mergeable.MERGES c.self.inside.number c.self.inside.count c.self.inside.records c.self.inside.contexts.items c.self.inside.moment c.self.inside.cleared) in
    let y = at_phase x (Confirm c.in-Ok.place) in
    let contexts = slice_set v.contexts (c.args.slot * 8 + c.args.context) (Some (OnKey y)) in
    let claims = subst (λ (d : Class). Claims v.records c.claim.new.self d c.in-Ok.place) (rw (← c.self.view_is) at c.requires.class) made.ok in
    rw (c.move_on.ensures)
    (whole-records v c.self.invariant c.claim.new.self contexts c.args.now
    (sound-claims g.F.Key.Ord.cmp g.F.Mergeable.parts.joined g.F.Functions.code (view_of g.F.Mergeable.MERGES c.self.inside.number c.self.inside.count c.self.inside.records c.self.inside.contexts.items c.self.inside.moment c.self.inside.cleared) c.self.invariant.sound c.args.slot c.args.context c.args.now x at
    c.claim.new.self c.args.class c.in-Ok.place c.requires.unclaimed (rw (← c.self.view_is) at c.requires.class) made.ok made.changes made.free made.bucket made.word made.taken c.facts.ensures.traced c.facts.ensures.resolved)
    (borne-claimed g.F.Key.Ord.cmp g.F.Mergeable.parts.joined g.F.Functions.code v c.self.invariant.sound (record v { records = c.claim.new.self; contexts = contexts; moment = c.args.now }) c.args.slot c.args.context c.args.now x
    (record { place = c.in-Ok.place; records = c.claim.new.self; claims = claims; is = refl }))
    (ap (λ r. r.log.begin) claims.is) (set-resolved v.contexts (c.args.slot * 8 + c.args.context) (Some (OnKey y)) (key-moves y)))

pub returns-clause-ok : goal.returns-clause-ok
returns-clause-ok g c =
    rw (c.move_on.ensures, ← c.self.view_is) (record {
      place = c.in-Ok.place;
      records = c.claim.new.self;
      claims = subst (λ (d : Class). Claims c.self.inside.records c.claim.new.self d c.in-Ok.place) (rw (← c.self.view_is) at c.requires.class) c.in-Ok.ensures.ok;
      is = refl;
    })

pub move_on-requires-clause-here : goal.move_on-requires-clause-here
move_on-requires-clause-here g c =
    let at : on_key (context_in c.self.inside.records.log.regions.epochs.slots c.self.inside.contexts.items c.args.slot c.args.context) ≡ Some c.args.operation.now = rw (← c.self.view_is) at c.requires.here in
    (key_at c.self.inside.records.log.regions.epochs.slots c.self.inside.contexts.items c.args.slot c.args.context c.args.operation.now at).here

pub invariant_of-self : goal.invariant_of-self
invariant_of-self g c = rw c.in-Err.ensures.unchanged c.self.invariant

pub returns-in-Err-clause-full : goal.returns-in-Err-clause-full
returns-in-Err-clause-full g c = ap (λ u. list_any is_empty (words_of u.records.words c.args.class.bucket)) (sym c.self.view_is) ∙ c.in-Err.ensures.full

pub returns-in-Err-clause-only : goal.returns-in-Err-clause-only
returns-in-Err-clause-only g c = c.in-Err.ensures.only

pub returns-in-Err-clause-unchanged : goal.returns-in-Err-clause-unchanged
returns-in-Err-clause-unchanged g c = ap (λ r. view_of g.F.Mergeable.MERGES c.self.inside.number c.self.inside.count r c.self.inside.contexts.items c.self.inside.moment c.self.inside.cleared) c.in-Err.ensures.unchanged ∙ c.self.view_is
