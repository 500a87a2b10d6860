use Rattle.fkv_partition.specs.Inside.{view_of}
use Rattle.std.proofs.Common.{◌<◌, Err, refl, sym, ap, subst, ◌∙◌, Ok}
use Rattle.std.proofs.Math.Nat.{le_of_lt, le_refl}
use Rattle.fkv_partition.specs.Moves.{unknown, refreshes}
use Rattle.fkv_partition.proofs.AskedLemmas.{renewed-stays}
use Rattle.fkv_partition.proofs.SoundLemmas.{sound-moved, slots-moved}
use Rattle.fkv_partition.proofs.EventLemmas.{event-moved, refreshed-same, not-entered}
use Rattle.fkv_partition.proofs.WholeLemmas.{whole-regions}
use Rattle.fkv_regions.specs.RegionsView.{refreshed}
use Rattle.fkv_partition.proofs.EffectLemmas.{refreshes-done, quiet-passed}
use Rattle.fkv_partition.proofs.SeatLemmas.{refreshes-seats}
use Rattle.fkv_partition.proofs.StayLemmas.{refreshes-all}
use Rattle.fkv_partition.proofs.partitions.Partition.refresh.Goals as goal

pub returns-in-Err-clause-effect : goal.returns-in-Err-clause-effect
returns-in-Err-clause-effect g c =
    let made = c.in-Err.ensures in
    rw (made.refused.1, ← c.self.view_is) (refreshes-done _ _ g.R.Receipt.keeps c.args.slot c.args.now _ (unknown (not-entered c.self.inside.records.log.regions.epochs.slots c.args.slot (λ e. let bad = made.unknown.1 e in cc)) refl (ap Err made.refused.0)))

pub returns-in-Err-clause-pends : goal.returns-in-Err-clause-pends
returns-in-Err-clause-pends g c =
    λ yes_keeps. rw (c.in-Err.ensures.refused.1, ← c.self.view_is) (λ s d. refl)

pub invariant_of-self-2 : goal.invariant_of-self-2
invariant_of-self-2 g c =
    let was = c.self.inside.records.log.regions in
    let made = c.in-Ok.ensures in
    let v = (view_of g.F.Mergeable.MERGES c.self.inside.number c.self.inside.count c.self.inside.records c.self.inside.contexts.items c.self.inside.moment c.self.inside.cleared) in
    whole-regions v c.self.invariant c.refresh.new.self (refreshed was c.args.slot) c.args.now made.raised made.effect
    (sound-moved c.self.invariant.sound c.refresh.new.self _ c.args.now c.facts.ensures.traced c.facts.ensures.resolved made.effect made.raised
    (λ t d x low here. slots-moved c.self.inside.records c.refresh.new.self _ t made.effect (renewed-stays was.epochs.slots c.args.slot t was.epochs.epoch (c.self.invariant.sound.housed t d x low here))))

pub returns-clause-effect : goal.returns-clause-effect
returns-clause-effect g c =
    rw (← c.self.view_is) (refreshes-done _ _ g.R.Receipt.keeps c.args.slot c.args.now _ (refreshes (c.in-Ok.ensures.unknown.0 refl) (record { moves = c.in-Ok.ensures.effect; is = refl }) refl))

pub returns-clause-event : goal.returns-clause-event
returns-clause-event g c =
    let v = (view_of g.F.Mergeable.MERGES c.self.inside.number c.self.inside.count c.self.inside.records c.self.inside.contexts.items c.self.inside.moment c.self.inside.cleared) in
    let on = c.in-Ok.ensures.unknown.0 refl in
    rw (← c.self.view_is)
    (quiet-passed v _ c.args.now c.self.invariant.sound (refreshes-seats v _ g.R.Receipt.keeps c.args.slot c.args.now (Ok tt) (refreshes on (record { moves = c.in-Ok.ensures.effect; is = refl }) refl))
    (event-moved g.R.Receipt.keeps v c.refresh.new.self _ c.args.now c.in-Ok.ensures.effect (refreshed-same v c.args.slot on)))

pub returns-clause-pends : goal.returns-clause-pends
returns-clause-pends g c =
    λ yes_keeps. rw (← c.self.view_is)
    (refreshes-all g.R.Receipt.keeps g.F.Key.Ord.cmp (view_of g.F.Mergeable.MERGES c.self.inside.number c.self.inside.count c.self.inside.records c.self.inside.contexts.items c.self.inside.moment c.self.inside.cleared) (view_of g.F.Mergeable.MERGES c.self.inside.number c.self.inside.count c.refresh.new.self c.self.inside.contexts.items c.args.now c.self.inside.cleared) c.args.slot c.args.now (Ok tt) yes_keeps (refreshes (c.in-Ok.ensures.unknown.0 refl) (record { moves = c.in-Ok.ensures.effect; is = refl }) refl))

pub invariant_of-self : goal.invariant_of-self
invariant_of-self g c = rw c.in-Err.ensures.refused.1 c.self.invariant

pub returns-in-Err-clause-unchanged : goal.returns-in-Err-clause-unchanged
returns-in-Err-clause-unchanged g c = ap (λ r. view_of g.F.Mergeable.MERGES c.self.inside.number c.self.inside.count r c.self.inside.contexts.items c.self.inside.moment c.self.inside.cleared) c.in-Err.ensures.refused.1 ∙ c.self.view_is

pub returns-in-Err-clause-moment : goal.returns-in-Err-clause-moment
returns-in-Err-clause-moment g c = le_of_lt (subst (λ u. u.moment < c.args.now) (sym c.self.view_is) c.requires.later)

pub returns-clause-moment : goal.returns-clause-moment
returns-clause-moment g c = le_refl c.args.now
