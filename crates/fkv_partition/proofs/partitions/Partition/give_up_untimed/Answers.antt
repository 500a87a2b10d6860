use Rattle.std.proofs.Common.{◌≡◌, ◌≤◌, OnOk, ap, subst}
use Rattle.fkv_partition.specs.KeyEffect.{IsGiveUp}
use Rattle.fkv_partition.specs.KeyEnding.{GivesUp}
use Rattle.fkv_partition.proofs.SeatLemmas.{gives-up-seats}
use Rattle.fkv_partition.proofs.partitions.Partition.give_up_untimed.Goals as goal

pub returns-clause-effect : goal.returns-clause-effect
returns-clause-effect g c =
    let same : c.self.inside.moment ≡ c.args.self.now.moment = ap (λ v. v.moment) c.self.view_is in
    subst (λ n. GivesUp c.args.self.now c.give_up_on_key.new.self c.args.slot c.args.context n c.give_up_on_key.result) same c.give_up_on_key.ensures.effect

pub returns-clause-event : goal.returns-clause-event
returns-clause-event g c =
    let same : c.self.inside.moment ≡ c.args.self.now.moment = ap (λ v. v.moment) c.self.view_is in
    subst (λ n. OnOk c.give_up_on_key.result (IsGiveUp c.args.self.now c.give_up_on_key.new.self c.args.slot c.args.context n)) same c.give_up_on_key.ensures.event

pub returns-clause-moment : goal.returns-clause-moment
returns-clause-moment g c =
    let same : c.self.inside.moment ≡ c.args.self.now.moment = ap (λ v. v.moment) c.self.view_is in
    subst (λ n. c.give_up_on_key.new.self.moment ≤ n) same c.give_up_on_key.ensures.moment

pub returns-clause-rest : goal.returns-clause-rest
returns-clause-rest g c = (gives-up-seats c.args.self.now c.give_up_on_key.new.self c.args.slot c.args.context c.self.inside.moment c.give_up_on_key.result c.give_up_on_key.ensures.effect).0
