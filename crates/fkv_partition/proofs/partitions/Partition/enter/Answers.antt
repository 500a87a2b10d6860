use Rattle.std.proofs.Common.{◌<◌, Err, refl, sym, ap, subst, ◌∙◌, arith, Ok}
use Rattle.std.proofs.Math.Nat.{le_of_lt, le_refl}
use Rattle.fkv_regions.specs.RegionsView.{entered}
use Rattle.fkv_partition.specs.Inside.{view_of}
use Rattle.fkv_partition.specs.KeyBeginning.{full, enters}
use Rattle.fkv_partition.proofs.AskedLemmas.{renewed-stays}
use Rattle.fkv_partition.proofs.SoundLemmas.{sound-regions}
use Rattle.fkv_partition.proofs.EventLemmas.{event-enter, slot-none, slot-some}
use Rattle.fkv_partition.proofs.WholeLemmas.{whole-records}
use Rattle.fkv_partition.proofs.PreservedLemmas.{borne-regions}
use Rattle.fkv_lookups.specs.RecordsViews.{with_regions}
use Rattle.fkv_regions.specs.Agree.{IsRaised}
use Rattle.fkv_partition.proofs.EffectLemmas.{enters-done, quiet-passed}
use Rattle.fkv_partition.proofs.SeatLemmas.{enters-seats}
use Rattle.fkv_partition.proofs.StayLemmas.{enters-all}
use Rattle.fkv_partition.proofs.partitions.Partition.enter.Goals as goal

pub returns-in-Err-clause-effect : goal.returns-in-Err-clause-effect
returns-in-Err-clause-effect g c =
    let n = slot-none _ c.in-Err.refused c.in-Err.ensures.slot in
    rw (c.in-Err.ensures.unchanged, ← c.self.view_is) (enters-done _ _ c.args.now _ (full n.0 refl (ap Err n.1)))

pub returns-in-Err-clause-pends : goal.returns-in-Err-clause-pends
returns-in-Err-clause-pends g c =
    rw (c.in-Err.ensures.unchanged, ← c.self.view_is) (λ s d. refl)

pub invariant_of-self-2 : goal.invariant_of-self-2
invariant_of-self-2 g c =
    let v = (view_of g.F.Mergeable.MERGES c.self.inside.number c.self.inside.count c.self.inside.records c.self.inside.contexts.items c.self.inside.moment c.self.inside.cleared) in
    let was = c.self.inside.records.log.regions in
    let sound = c.self.invariant.sound in
    let regions = entered was c.in-Ok.slot in
    let up : IsRaised was.offsets regions.offsets = record { closed = omega arith; head = omega arith; safe = omega arith; read_only = omega arith } in
    rw c.in-Ok.ensures.effect
    (whole-records v c.self.invariant (with_regions v.records regions) v.contexts c.args.now
    (sound-regions sound regions c.args.now (rw c.in-Ok.ensures.effect at c.facts.ensures.traced) (rw c.in-Ok.ensures.effect at c.facts.ensures.resolved) up
    (λ t d x low here. renewed-stays was.epochs.slots c.in-Ok.slot t was.epochs.epoch (sound.housed t d x low here)))
    (borne-regions g.F.Key.Ord.cmp g.F.Mergeable.parts.joined g.F.Functions.code v sound (record v { records = with_regions v.records regions; moment = c.args.now }) regions up refl)
    refl (λ i x h. h))

pub returns-clause-effect : goal.returns-clause-effect
returns-clause-effect g c =
    rw (c.in-Ok.ensures.effect, ← c.self.view_is) (enters-done _ _ c.args.now _ (enters c.in-Ok.slot (slot-some _ c.in-Ok.slot c.in-Ok.ensures.slot) refl refl))

pub returns-clause-event : goal.returns-clause-event
returns-clause-event g c =
    let some = slot-some _ c.in-Ok.slot c.in-Ok.ensures.slot in
    rw (c.in-Ok.ensures.effect, ← c.self.view_is)
    (quiet-passed _ _ c.args.now c.self.invariant.sound (enters-seats _ _ c.args.now (Ok c.in-Ok.slot) (enters c.in-Ok.slot some refl refl))
    (event-enter g.F.Key.Ord.cmp g.F.Mergeable.parts.joined g.F.Functions.code _ c.self.invariant.sound c.in-Ok.slot c.args.now some))

pub returns-clause-pends : goal.returns-clause-pends
returns-clause-pends g c =
    rw (c.in-Ok.ensures.effect, ← c.self.view_is)
    (enters-all g.F.Key.Ord.cmp g.F.Mergeable.parts.joined g.F.Functions.code _ _ c.args.now (Ok c.in-Ok.slot) c.self.invariant.sound (enters c.in-Ok.slot (slot-some _ c.in-Ok.slot c.in-Ok.ensures.slot) refl refl))

pub invariant_of-self : goal.invariant_of-self
invariant_of-self g c = rw c.in-Err.ensures.unchanged c.self.invariant

pub returns-in-Err-clause-unchanged : goal.returns-in-Err-clause-unchanged
returns-in-Err-clause-unchanged g c = ap (λ r. view_of g.F.Mergeable.MERGES c.self.inside.number c.self.inside.count r c.self.inside.contexts.items c.self.inside.moment c.self.inside.cleared) c.in-Err.ensures.unchanged ∙ c.self.view_is

pub returns-in-Err-clause-moment : goal.returns-in-Err-clause-moment
returns-in-Err-clause-moment g c = le_of_lt (subst (λ u. u.moment < c.args.now) (sym c.self.view_is) c.requires.later)

pub returns-clause-moment : goal.returns-clause-moment
returns-clause-moment g c = le_refl c.args.now
