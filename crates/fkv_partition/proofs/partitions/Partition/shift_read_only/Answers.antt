use Rattle.std.proofs.Common.{◌<◌, Err, refl, sym, ap, subst, ◌∙◌, Ok}
use Rattle.std.proofs.Math.Nat.{le_of_lt, le_refl}
use Rattle.fkv_partition.specs.Inside.{view_of}
use Rattle.fkv_partition.specs.Moves.{shifts}
use Rattle.fkv_partition.proofs.SoundLemmas.{sound-moved, slots-moved}
use Rattle.fkv_partition.proofs.EventLemmas.{event-moved, shift-refused}
use Rattle.fkv_partition.proofs.WholeLemmas.{whole-regions}
use Rattle.fkv_regions.specs.RegionsView.{with_read_only}
use Rattle.fkv_records.specs.Places.{start_at}
use Rattle.fkv_partition.proofs.EffectLemmas.{shifts-done, quiet-passed}
use Rattle.fkv_partition.proofs.SeatLemmas.{shifts-seats}
use Rattle.fkv_partition.proofs.StayLemmas.{shifts-all}
use Rattle.fkv_partition.proofs.partitions.Partition.shift_read_only.Goals as goal

pub returns-in-Err-clause-effect : goal.returns-in-Err-clause-effect
returns-in-Err-clause-effect g c =
    let made = c.in-Err.ensures in
    rw (made.unchanged, ← c.self.view_is) (shifts-done _ _ g.R.Receipt.keeps c.args.page c.args.now _ (shift-refused g.R.Receipt.keeps _ c.args.page c.args.now (Err c.in-Err.refused) c.in-Err.refused refl made.not_due made.full made.only))

pub returns-in-Err-clause-pends : goal.returns-in-Err-clause-pends
returns-in-Err-clause-pends g c =
    λ yes_keeps. rw (c.in-Err.ensures.unchanged, ← c.self.view_is) (λ s d. refl)

pub invariant_of-self-2 : goal.invariant_of-self-2
invariant_of-self-2 g c =
    let made = c.in-Ok.ensures in
    let v = (view_of g.F.Mergeable.MERGES c.self.inside.number c.self.inside.count c.self.inside.records c.self.inside.contexts.items c.self.inside.moment c.self.inside.cleared) in
    whole-regions v c.self.invariant c.shift_read_only.new.self (with_read_only v.records.log.regions (start_at v.records.log.regions.bits c.args.page)) c.args.now made.raised made.effect
    (sound-moved c.self.invariant.sound c.shift_read_only.new.self _ c.args.now c.facts.ensures.traced c.facts.ensures.resolved made.effect made.raised
    (λ t d x low here. slots-moved c.self.inside.records c.shift_read_only.new.self _ t made.effect (c.self.invariant.sound.housed t d x low here)))

pub returns-clause-effect : goal.returns-clause-effect
returns-clause-effect g c =
    let due = c.in-Ok.ensures.ok.0 refl in
    rw (← c.self.view_is) (shifts-done _ _ g.R.Receipt.keeps c.args.page c.args.now _ (shifts due.0 due.1 (record { moves = c.in-Ok.ensures.effect; is = refl }) refl))

pub returns-clause-event : goal.returns-clause-event
returns-clause-event g c =
    let v = (view_of g.F.Mergeable.MERGES c.self.inside.number c.self.inside.count c.self.inside.records c.self.inside.contexts.items c.self.inside.moment c.self.inside.cleared) in
    let due = c.in-Ok.ensures.ok.0 refl in
    rw (← c.self.view_is)
    (quiet-passed v _ c.args.now c.self.invariant.sound (shifts-seats v _ g.R.Receipt.keeps c.args.page c.args.now (Ok tt) (shifts due.0 due.1 (record { moves = c.in-Ok.ensures.effect; is = refl }) refl))
    (event-moved g.R.Receipt.keeps v c.shift_read_only.new.self _ c.args.now c.in-Ok.ensures.effect (λ t d. refl)))

pub returns-clause-pends : goal.returns-clause-pends
returns-clause-pends g c =
    let due = c.in-Ok.ensures.ok.0 refl in
    λ yes_keeps. rw (← c.self.view_is)
    (shifts-all g.R.Receipt.keeps g.F.Key.Ord.cmp (view_of g.F.Mergeable.MERGES c.self.inside.number c.self.inside.count c.self.inside.records c.self.inside.contexts.items c.self.inside.moment c.self.inside.cleared) (view_of g.F.Mergeable.MERGES c.self.inside.number c.self.inside.count c.shift_read_only.new.self c.self.inside.contexts.items c.args.now c.self.inside.cleared) c.args.page c.args.now (Ok tt) yes_keeps (shifts due.0 due.1 (record { moves = c.in-Ok.ensures.effect; is = refl }) refl))

pub invariant_of-self : goal.invariant_of-self
invariant_of-self g c = rw c.in-Err.ensures.unchanged c.self.invariant

pub returns-in-Err-clause-unchanged : goal.returns-in-Err-clause-unchanged
returns-in-Err-clause-unchanged g c = ap (λ r. view_of g.F.Mergeable.MERGES c.self.inside.number c.self.inside.count r c.self.inside.contexts.items c.self.inside.moment c.self.inside.cleared) c.in-Err.ensures.unchanged ∙ c.self.view_is

pub returns-in-Err-clause-moment : goal.returns-in-Err-clause-moment
returns-in-Err-clause-moment g c = le_of_lt (subst (λ u. u.moment < c.args.now) (sym c.self.view_is) c.requires.later)

pub returns-clause-moment : goal.returns-clause-moment
returns-clause-moment g c = le_refl c.args.now
