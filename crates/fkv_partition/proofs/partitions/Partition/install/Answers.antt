use Rattle.std.proofs.Common.{refl}
use Rattle.fkv_partition.specs.Events.{Installs}
use Rattle.fkv_partition.proofs.OperationLemmas.{goes-event, goes-finds}
use Rattle.fkv_partition.proofs.SeatLemmas.{installs-seats}
use Rattle.fkv_partition.proofs.partitions.Partition.install.Goals as goal

pub returns-else-holds_relocation-clause-effect : goal.returns-else-holds_relocation-clause-effect
returns-else-holds_relocation-clause-effect g c = Installs.on_key c.if-holds_relocation.ensures.none c.install_on_key.ensures.effect (installs-seats c.args.self.now c.install_on_key.new.self c.args.slot c.args.context c.args.now g.F.Key.Ord.cmp g.F.Mergeable.parts.joined g.F.Functions.meaning g.F.Functions.code c.args.built c.install_on_key.result c.install_on_key.ensures.effect).0

pub returns-else-holds_relocation-clause-event : goal.returns-else-holds_relocation-clause-event
returns-else-holds_relocation-clause-event g c = λ yes_keeps.
    goes-event g.F.Key.Ord.cmp g.F.Functions.meaning c.args.self.now c.install_on_key.new.self c.args.slot c.args.context c.args.now c.if-holds_relocation.ensures.none (installs-seats c.args.self.now c.install_on_key.new.self c.args.slot c.args.context c.args.now g.F.Key.Ord.cmp g.F.Mergeable.parts.joined g.F.Functions.meaning g.F.Functions.code c.args.built c.install_on_key.result c.install_on_key.ensures.effect).0 c.install_on_key.result (c.install_on_key.ensures.event yes_keeps)

pub returns-else-holds_relocation-clause-others : goal.returns-else-holds_relocation-clause-others
returns-else-holds_relocation-clause-others g c = λ yes_keeps.
    c.pendings_stay.ensures.installs g.R.Receipt.keeps g.F.Key.Ord.cmp g.F.Mergeable.parts.joined g.F.Functions.meaning g.F.Functions.code c.args.self.now c.install_on_key.new.self c.args.slot c.args.context c.args.built c.args.now c.install_on_key.result yes_keeps c.facts.ensures.sound c.install_on_key.ensures.effect

pub returns-else-holds_relocation-clause-finds : goal.returns-else-holds_relocation-clause-finds
returns-else-holds_relocation-clause-finds g c = λ yes_keeps.
    goes-finds g.F.Key.Ord.cmp g.F.Functions.meaning c.args.self.now c.install_on_key.new.self c.args.slot c.args.context c.args.now c.if-holds_relocation.ensures.none (installs-seats c.args.self.now c.install_on_key.new.self c.args.slot c.args.context c.args.now g.F.Key.Ord.cmp g.F.Mergeable.parts.joined g.F.Functions.meaning g.F.Functions.code c.args.built c.install_on_key.result c.install_on_key.ensures.effect).0 c.install_on_key.result
    (λ p e. c.pendings_stay.ensures.built g.F.Key.Ord.cmp g.F.Mergeable.parts.joined g.F.Functions.meaning g.F.Functions.code c.args.self.now c.install_on_key.new.self c.args.slot c.args.context c.args.built c.args.now p (rw e at c.install_on_key.ensures.effect))

pub returns-then-holds_relocation-clause-effect : goal.returns-then-holds_relocation-clause-effect
returns-then-holds_relocation-clause-effect g c = Installs.relocation c.if-holds_relocation.ensures.some.0 c.if-holds_relocation.ensures.some.1 refl refl
