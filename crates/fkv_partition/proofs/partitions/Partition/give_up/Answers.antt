use Rattle.fkv_partition.specs.Events.{GivesUp}
use Rattle.fkv_partition.proofs.EffectLemmas.{on-ok, key-give-up}
use Rattle.fkv_partition.proofs.OperationLemmas.{drops-event, drops-pend}
use Rattle.fkv_partition.proofs.SeatLemmas.{gives-up-seats}
use Rattle.fkv_partition.proofs.StayLemmas.{gives-up-others}
use Rattle.fkv_partition.proofs.partitions.Partition.give_up.Goals as goal

pub returns-else-holds_relocation-clause-effect : goal.returns-else-holds_relocation-clause-effect
returns-else-holds_relocation-clause-effect g c = GivesUp.on_key c.if-holds_relocation.ensures.none c.give_up_on_key.ensures.effect (gives-up-seats c.args.self.now c.give_up_on_key.new.self c.args.slot c.args.context c.args.now c.give_up_on_key.result c.give_up_on_key.ensures.effect).0

pub returns-else-holds_relocation-clause-event : goal.returns-else-holds_relocation-clause-event
returns-else-holds_relocation-clause-event g c =
    on-ok c.give_up_on_key.result (key-give-up c.args.self.now c.give_up_on_key.new.self c.args.slot c.args.context c.args.now c.if-holds_relocation.ensures.none (gives-up-seats c.args.self.now c.give_up_on_key.new.self c.args.slot c.args.context c.args.now c.give_up_on_key.result c.give_up_on_key.ensures.effect).0) c.give_up_on_key.ensures.event

pub returns-else-holds_relocation-clause-others : goal.returns-else-holds_relocation-clause-others
returns-else-holds_relocation-clause-others g c =
    gives-up-others g.F.Key.Ord.cmp c.args.self.now c.give_up_on_key.new.self c.args.slot c.args.context c.args.now c.give_up_on_key.result c.give_up_on_key.ensures.effect

pub returns-then-holds_relocation-clause-effect : goal.returns-then-holds_relocation-clause-effect
returns-then-holds_relocation-clause-effect g c = GivesUp.relocation c.if-holds_relocation.ensures.some.0 c.if-holds_relocation.ensures.some.1 c.drop_relocation.ensures.effect

pub returns-then-holds_relocation-clause-event : goal.returns-then-holds_relocation-clause-event
returns-then-holds_relocation-clause-event g c = drops-event g.R.Receipt.keeps g.F.Key.Ord.cmp c.args.self.now c.drop_relocation.new.self c.args.slot c.args.context c.args.now c.drop_relocation.result c.drop_relocation.ensures.effect

pub returns-then-holds_relocation-clause-others : goal.returns-then-holds_relocation-clause-others
returns-then-holds_relocation-clause-others g c = λ s d other. drops-pend g.F.Key.Ord.cmp c.args.self.now c.drop_relocation.new.self c.args.slot c.args.context c.args.now c.drop_relocation.result c.drop_relocation.ensures.effect s d
