use Rattle.std.proofs.Common.{◌≡◌, Err, refl, sym, ap, subst, ◌∙◌}
use Rattle.fkv_records.specs.Places.{page_at}
use Rattle.fkv_hybrid.specs.Loads.{HasReceipt, IsHeldBy}
use Rattle.fkv_functions.proofs.KeyOrder.{key_order}
use Rattle.fkv_index.specs.Words.{address_of}
use Rattle.fkv_operations.specs.After.{key_of}
use Rattle.fkv_lookups.specs.RecordsViews.{class_in}
use Rattle.fkv_lookups.specs.DecisionLaws.{load-met}
use Rattle.fkv_partition.specs.Contexts.{claim_by}
use Rattle.fkv_partition.specs.Views.{slots_of, met_at}
use Rattle.fkv_partition.specs.KeyGoing.{asks_page, unshared}
use Rattle.fkv_functions.proofs.CallLemmas.{with_six}
use Rattle.fkv_partition.proofs.AskedLemmas.{key_at}
use Rattle.fkv_partition.proofs.EventLemmas.{loading-stands, event-loads}
use Rattle.fkv_partition.proofs.DecidedLemmas.{page_flushed}
use Rattle.fkv_partition.proofs.partitions.Partition.ask_page.Goals as goal

pub receipt-requires-whole : goal.receipt-requires-whole
receipt-requires-whole g c κs =
    let ord = g.met.F.Key.Ord in
    let facts = g.met.F.Key.FixedKey in
    let order = key_order g.F.Key.PartialEq.eq g.F.Key.Ord.cmp ord.matches_eq facts.exact ord.total in
    let v = c.args.self.now in
    let x = c.args.operation.now in
    let d = c.requires.decided in
    let inside = (key_at (slots_of v) v.contexts c.args.slot c.args.context x d.here).inside in
    let met = load-met g.F.Functions.meaning x.op (met_at g.F.Key.Ord.cmp g.F.Mergeable.parts.joined g.F.Functions.code v c.args.slot (key_of x.op)) c.args.wanted c.args.parts d.decided in
    let w = c.meetings_tell.ensures.wanted g.R.Receipt.keeps g.F.Key.Ord.cmp g.F.Mergeable.parts.joined g.F.Functions.code v.records (key_of x.op) c.args.slot c.args.wanted c.args.parts order c.facts.ensures.sound.traced c.facts.ensures.sound.resolved inside met in
    with_six (
    rw c.page_of-page.ensures (subst (λ u. HasReceipt u.records.log.receipts (page_at u.records.log.bits c.args.wanted)) (sym c.self.view_is) (page_flushed v.records c.args.wanted c.facts.ensures.sound.traced w.begun w.low)))

pub set_phase-requires-clause-unclaimed : goal.set_phase-requires-clause-unclaimed
set_phase-requires-clause-unclaimed g c = ap claim_by c.requires.decided.fresh

pub set_phase-requires-clause-stands : goal.set_phase-requires-clause-stands
set_phase-requires-clause-stands g c =
    let ord = g.met.F.Key.Ord in
    let facts = g.met.F.Key.FixedKey in
    let order = key_order g.F.Key.PartialEq.eq g.F.Key.Ord.cmp ord.matches_eq facts.exact ord.total in
    let v = c.args.self.now in
    let x = c.args.operation.now in
    let d = c.requires.decided in
    let class = class_in g.F.Functions.code v.records (key_of x.op) in
    let a = address_of c.args.kept.word in
    let inside = (key_at (slots_of v) v.contexts c.args.slot c.args.context x d.here).inside in
    let leads = c.entries_lead.ensures.found g.R.Receipt.keeps g.F.Functions.code v.records class c.args.kept c.facts.ensures.sound.traced c.requires.stands in
    let met = load-met g.F.Functions.meaning x.op (met_at g.F.Key.Ord.cmp g.F.Mergeable.parts.joined g.F.Functions.code v c.args.slot (key_of x.op)) c.args.wanted c.args.parts d.decided in
    let begins : c.begin.result ≡ v.records.log.begin = c.begin.ensures ∙ ap (λ u. u.records.log.begin) c.self.view_is in
    rw begins (loading-stands g.F.Key.Ord.cmp g.F.Mergeable.parts.joined g.F.Functions.meaning g.F.Functions.code v c.args.slot c.args.context c.args.now x d.here g.R.Receipt.keeps c.args.kept c.args.wanted c.args.parts
    c.requires.stands
    (c.entries_lead.ensures.low g.R.Receipt.keeps g.F.Functions.code v.records class a c.facts.ensures.sound.traced leads)
    (c.entries_lead.ensures.held g.F.Key.Ord.cmp g.R.Receipt.keeps g.F.Functions.code v.records (key_of x.op) a order c.facts.ensures.sound.traced leads)
    (c.meetings_tell.ensures.wanted g.R.Receipt.keeps g.F.Key.Ord.cmp g.F.Mergeable.parts.joined g.F.Functions.code v.records (key_of x.op) c.args.slot c.args.wanted c.args.parts order c.facts.ensures.sound.traced c.facts.ensures.sound.resolved inside met)
    d.decided c.facts.ensures.sound.traced)

pub returns-in-Err-clause-effect : goal.returns-in-Err-clause-effect
returns-in-Err-clause-effect g c = unshared c.args.operation.now c.args.wanted c.args.parts c.requires.decided refl (ap Err c.in-Err.ensures.memory)

pub returns-clause-effect : goal.returns-clause-effect
returns-clause-effect g c =
    let v = c.args.self.now in
    let begins : c.begin.result ≡ v.records.log.begin = c.begin.ensures ∙ ap (λ u. u.records.log.begin) c.self.view_is in
    let held = subst (λ u. IsHeldBy u.records.log.receipts (page_at u.records.log.bits c.args.wanted) (g.R.Receipt.stands c.in-Ok.receipt)) c.self.view_is (rw c.page_of-page.ensures at c.in-Ok.ensures.stands) in
    rw (c.set_phase.ensures, begins) (asks_page c.args.operation.now c.args.wanted c.args.parts c.args.kept c.in-Ok.receipt c.requires.decided c.requires.kept held refl refl)

pub returns-clause-event : goal.returns-clause-event
returns-clause-event g c =
    rw c.set_phase.ensures
    (event-loads g.F.Key.Ord.cmp g.F.Mergeable.parts.joined g.F.Functions.meaning g.F.Functions.code c.args.self.now c.args.slot c.args.context c.args.now c.args.operation.now c.requires.decided.here _ c.in-Ok.receipt c.args.wanted)
