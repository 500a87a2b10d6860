use Rattle.std.proofs.Common.{sym, ◌∙◌}
use Rattle.fkv_functions.proofs.KeyOrder.{key_order}
use Rattle.fkv_partition.specs.Events.{Goes}
use Rattle.fkv_partition.proofs.ApartLemmas.{nothing-some, none-held}
use Rattle.fkv_partition.proofs.ProceedLemmas.{goes_on-proceeds}
use Rattle.fkv_partition.proofs.OperationLemmas.{goes-event, goes-finds, relocation-event, relocation-finds, relocation-others, same-pends}
use Rattle.fkv_partition.proofs.SeatLemmas.{goes-seats}
use Rattle.fkv_partition.proofs.partitions.Partition.go.Goals as goal

pub returns-else-holds_relocation-clause-effect : goal.returns-else-holds_relocation-clause-effect
returns-else-holds_relocation-clause-effect g c = Goes.on_key c.if-holds_relocation.ensures.none c.go_on_key.ensures.effect (goes-seats c.args.self.now c.go_on_key.new.self c.args.slot c.args.context c.args.now g.R.Receipt.stands g.F.Key.Ord.cmp g.F.Mergeable.parts.joined g.F.Functions.meaning g.F.Functions.code c.go_on_key.result c.go_on_key.ensures.effect).0

pub returns-else-holds_relocation-clause-event : goal.returns-else-holds_relocation-clause-event
returns-else-holds_relocation-clause-event g c = λ yes_keeps.
    goes-event g.F.Key.Ord.cmp g.F.Functions.meaning c.args.self.now c.go_on_key.new.self c.args.slot c.args.context c.args.now c.if-holds_relocation.ensures.none (goes-seats c.args.self.now c.go_on_key.new.self c.args.slot c.args.context c.args.now g.R.Receipt.stands g.F.Key.Ord.cmp g.F.Mergeable.parts.joined g.F.Functions.meaning g.F.Functions.code c.go_on_key.result c.go_on_key.ensures.effect).0 c.go_on_key.result c.go_on_key.ensures.event

pub returns-else-holds_relocation-clause-others : goal.returns-else-holds_relocation-clause-others
returns-else-holds_relocation-clause-others g c = λ yes_keeps.
    let ord = g.met.F.Key.Ord in
    let facts = g.met.F.Key.FixedKey in
    let order = key_order g.F.Key.PartialEq.eq g.F.Key.Ord.cmp ord.matches_eq facts.exact ord.total in
    c.pendings_stay.ensures.goes g.R.Receipt.keeps g.R.Receipt.stands g.F.Key.Ord.cmp g.F.Mergeable.parts.joined g.F.Functions.meaning g.F.Functions.code c.args.self.now c.go_on_key.new.self c.args.slot c.args.context c.args.now c.go_on_key.result yes_keeps order c.facts.ensures.sound c.go_on_key.ensures.effect

pub returns-else-holds_relocation-clause-finds : goal.returns-else-holds_relocation-clause-finds
returns-else-holds_relocation-clause-finds g c = λ yes_keeps.
    let ord = g.met.F.Key.Ord in
    let facts = g.met.F.Key.FixedKey in
    let order = key_order g.F.Key.PartialEq.eq g.F.Key.Ord.cmp ord.matches_eq facts.exact ord.total in
    goes-finds g.F.Key.Ord.cmp g.F.Functions.meaning c.args.self.now c.go_on_key.new.self c.args.slot c.args.context c.args.now c.if-holds_relocation.ensures.none (goes-seats c.args.self.now c.go_on_key.new.self c.args.slot c.args.context c.args.now g.R.Receipt.stands g.F.Key.Ord.cmp g.F.Mergeable.parts.joined g.F.Functions.meaning g.F.Functions.code c.go_on_key.result c.go_on_key.ensures.effect).0 c.go_on_key.result
    (λ p e. c.pendings_stay.ensures.finds g.R.Receipt.keeps g.R.Receipt.stands g.F.Key.Ord.cmp g.F.Mergeable.parts.joined g.F.Functions.meaning g.F.Functions.code c.args.self.now c.go_on_key.new.self c.args.slot c.args.context c.args.now p order c.facts.ensures.sound (rw e at c.go_on_key.ensures.effect))

pub returns-else-holds_relocation-clause-cleared : goal.returns-else-holds_relocation-clause-cleared
returns-else-holds_relocation-clause-cleared g c = λ told. rw c.if-holds_relocation.ensures.none tt

pub returns-then-holds_relocation-clause-effect : goal.returns-then-holds_relocation-clause-effect
returns-then-holds_relocation-clause-effect g c = Goes.relocation c.if-holds_relocation.ensures.some.0 c.if-holds_relocation.ensures.some.1 c.go_on.ensures.effect

pub returns-then-holds_relocation-clause-on_key : goal.returns-then-holds_relocation-clause-on_key
returns-then-holds_relocation-clause-on_key g c = λ none. nothing-some (sym none ∙ c.if-holds_relocation.ensures.some.1)

pub returns-then-holds_relocation-clause-event : goal.returns-then-holds_relocation-clause-event
returns-then-holds_relocation-clause-event g c = λ yes_keeps.
    let here = c.if-holds_relocation.ensures.some.1 in
    relocation-event g.F.Key.Ord.cmp g.F.Functions.meaning c.args.self.now c.go_on.new.self c.args.slot c.args.context c.args.now c.if-holds_relocation.ensures.some.0 here yes_keeps c.go_on.result c.go_on.ensures.event
    (λ p e. goes_on-proceeds g.R.Receipt.stands g.F.Key.Ord.cmp g.F.Mergeable.parts.joined g.F.Functions.code c.args.self.now c.go_on.new.self c.args.slot c.args.context c.args.now p c.if-holds_relocation.ensures.some.0 here (rw e at c.go_on.ensures.effect))

pub returns-then-holds_relocation-clause-others : goal.returns-then-holds_relocation-clause-others
returns-then-holds_relocation-clause-others g c = λ yes_keeps.
    relocation-others g.F.Key.Ord.cmp g.F.Functions.meaning c.args.self.now c.go_on.new.self c.args.slot c.args.context c.args.now yes_keeps c.go_on.result c.go_on.ensures.event
    (same-pends g.F.Key.Ord.cmp c.args.self.now c.go_on.new.self c.go_on.result c.go_on.ensures.unchanged)

pub returns-then-holds_relocation-clause-finds : goal.returns-then-holds_relocation-clause-finds
returns-then-holds_relocation-clause-finds g c = λ yes_keeps.
    relocation-finds g.F.Key.Ord.cmp g.F.Functions.meaning c.args.self.now c.go_on.new.self c.args.slot c.args.context c.args.now c.if-holds_relocation.ensures.some.0 c.if-holds_relocation.ensures.some.1 g.R.Receipt.keeps c.go_on.result c.go_on.ensures.event

pub returns-else-holds_relocation-clause-relocating : goal.returns-else-holds_relocation-clause-relocating
returns-else-holds_relocation-clause-relocating g c = none-held _ c.if-holds_relocation.ensures.none

pub returns-then-holds_relocation-clause-relocating : goal.returns-then-holds_relocation-clause-relocating
returns-then-holds_relocation-clause-relocating g c = λ some. c.go_on.ensures.event
