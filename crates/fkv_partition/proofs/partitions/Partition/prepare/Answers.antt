use Rattle.std.proofs.Common.{refl, sym, ap, ◌∙◌}
use Rattle.fkv_functions.proofs.KeyOrder.{key_order}
use Rattle.fkv_index.specs.Words.{address_of}
use Rattle.fkv_operations.specs.After.{key_of}
use Rattle.fkv_lookups.specs.RecordsViews.{class_in}
use Rattle.fkv_operations.specs.declared.operations.KeyedOp.TheVariants.{Rmw}
use Rattle.fkv_partition.specs.Contexts.{claim_by}
use Rattle.fkv_lookups.specs.DecisionLaws.{prepare-met}
use Rattle.fkv_partition.specs.Views.{slots_of, met_at}
use Rattle.fkv_partition.proofs.AskedLemmas.{key_at}
use Rattle.fkv_partition.specs.KeyGoing.{prepares}
use Rattle.fkv_partition.proofs.EventLemmas.{asks-rmw, prepared-stands, event-prepares}
use Rattle.fkv_partition.proofs.partitions.Partition.prepare.Goals as goal

pub set_phase-requires-clause-unclaimed : goal.set_phase-requires-clause-unclaimed
set_phase-requires-clause-unclaimed g c = ap claim_by c.requires.decided.fresh

pub set_phase-requires-clause-stands : goal.set_phase-requires-clause-stands
set_phase-requires-clause-stands g c =
    let ord = g.met.F.Key.Ord in
    let facts = g.met.F.Key.FixedKey in
    let order = key_order g.F.Key.PartialEq.eq g.F.Key.Ord.cmp ord.matches_eq facts.exact ord.total in
    let v = c.args.self.now in
    let x = c.args.operation.now in
    let d = c.requires.decided in
    let class = class_in g.F.Functions.code v.records (key_of x.op) in
    let a = address_of c.args.kept.word in
    let inside = (key_at (slots_of v) v.contexts c.args.slot c.args.context x d.here).inside in
    let leads = c.entries_lead.ensures.found g.R.Receipt.keeps g.F.Functions.code v.records class c.args.kept c.facts.ensures.sound.traced c.requires.stands in
    let held = c.meetings_tell.ensures.held g.R.Receipt.keeps g.F.Key.Ord.cmp g.F.Mergeable.parts.joined g.F.Functions.code v.records (key_of x.op) c.args.slot order c.facts.ensures.sound.traced c.facts.ensures.sound.resolved inside in
    prepared-stands g.F.Key.Ord.cmp g.F.Mergeable.parts.joined g.F.Functions.meaning g.F.Functions.code v c.args.slot c.args.context c.args.now x d.here g.R.Receipt.keeps c.args.kept c.args.ask.source c.args.ask.input
    c.requires.stands
    (c.entries_lead.ensures.low g.R.Receipt.keeps g.F.Functions.code v.records class a c.facts.ensures.sound.traced leads)
    (c.entries_lead.ensures.held g.F.Key.Ord.cmp g.R.Receipt.keeps g.F.Functions.code v.records (key_of x.op) a order c.facts.ensures.sound.traced leads)
    (c.meetings_tell.ensures.still g.R.Receipt.keeps g.F.Key.Ord.cmp g.F.Mergeable.parts.joined g.F.Functions.code v.records (key_of x.op) c.args.slot order c.facts.ensures.sound.traced c.facts.ensures.sound.resolved inside
    (prepare-met g.F.Functions.meaning x.op (met_at g.F.Key.Ord.cmp g.F.Mergeable.parts.joined g.F.Functions.code v c.args.slot (key_of x.op)) c.args.ask.source c.args.ask.input d.decided))
    held
    d.decided
    c.facts.ensures.sound.traced

pub returns-clause-effect : goal.returns-clause-effect
returns-clause-effect g c =
    rw (c.set_phase.ensures, c.requires.number, c.requires.key)
    (prepares c.args.operation.now c.args.ask.source c.args.ask.input c.args.kept c.requires.decided c.requires.kept refl refl)

pub returns-clause-event : goal.returns-clause-event
returns-clause-event g c =
    let x = c.args.operation.now in
    let a = c.args.ask in
    let v = c.args.self.now in
    let d = c.requires.decided in
    let asks = asks-rmw g.F.Key.Ord.cmp g.F.Mergeable.parts.joined g.F.Functions.meaning g.F.Functions.code v c.args.slot c.args.context c.args.now x d.here a.source a.input d.decided in
    rw c.set_phase.ensures
    (event-prepares g.F.Key.Ord.cmp g.F.Mergeable.parts.joined g.F.Functions.meaning g.F.Functions.code v c.args.slot c.args.context c.args.now x d.here _ a c.requires.number (asks ∙ ap (λ k. Rmw k a.input) (sym c.requires.key)))
