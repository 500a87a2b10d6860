use Rattle.std.proofs.Common.{refl, sym, ◌∙◌}
use Rattle.fkv_partition.specs.KeyEnding.{unknown, busy, leaves}
use Rattle.fkv_partition.proofs.EventLemmas.{event-moved, left-same}
use Rattle.fkv_partition.proofs.partitions.Partition.leave_slot.Goals as goal

pub returns-then-not-is_session-clause-effect : goal.returns-then-not-is_session-clause-effect
returns-then-not-is_session-clause-effect g c = unknown (sym c.is_session.ensures.value ∙ c.if-not-is_session.true) refl refl

pub returns-in-Some-clause-effect : goal.returns-in-Some-clause-effect
returns-in-Some-clause-effect g c = busy c.in-Some._open (sym c.is_session.ensures.value ∙ c.if-not-is_session.false) (sym c.in-Some.ensures) refl refl

pub vacate-requires-clause-entered : goal.vacate-requires-clause-entered
vacate-requires-clause-entered g c = sym c.is_session.ensures.value ∙ c.if-not-is_session.false

pub returns-clause-effect : goal.returns-clause-effect
returns-clause-effect g c = leaves (sym c.is_session.ensures.value ∙ c.if-not-is_session.false) (sym c.in_default.ensures) c.vacate.ensures refl

pub returns-clause-event : goal.returns-clause-event
returns-clause-event g c =
    rw c.vacate.ensures.is (event-moved g.R.Receipt.keeps c.args.self.now _ _ c.args.now c.vacate.ensures.moves (left-same c.args.self.now c.args.slot (sym c.in_default.ensures)))
