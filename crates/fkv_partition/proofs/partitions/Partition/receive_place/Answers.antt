use Rattle.std.proofs.Common.{Err, refl, sym, ap, subst, ◌∙◌}
use Rattle.fkv_functions.proofs.KeyOrder.{key_order}
use Rattle.fkv_functions.proofs.CallLemmas.{with_six}
use Rattle.fkv_records.specs.Places.{page_at}
use Rattle.fkv_hybrid.specs.Loads.{IsHeldBy}
use Rattle.fkv_partition.specs.Reading.{LoadsOn}
use Rattle.fkv_partition.proofs.ApartLemmas.{err-ok, no-later}
use Rattle.fkv_partition.proofs.ReadLemmas.{page-within, stranger-held}
use Rattle.fkv_partition.proofs.TraceLemmas.{awaited-flushed}
use Rattle.fkv_partition.proofs.DamageLemmas.{stranger-not}
use Rattle.fkv_partition.proofs.partitions.Partition.receive_place.Goals as goal

pub is_own-requires-whole : goal.is_own-requires-whole
is_own-requires-whole g c κs =
    let ord = g.met.F.Key.Ord in
    let facts = g.met.F.Key.FixedKey in
    let order = key_order g.F.Key.PartialEq.eq g.F.Key.Ord.cmp ord.matches_eq facts.exact ord.total in
    let there = awaited-flushed g.F.Key.Ord.cmp g.F.Mergeable.parts.joined g.F.Functions.code order c.args.self.now c.facts.ensures.sound c.facts.ensures.compacting c.args.slot c.args.context c.args.relocation.now c.args.wanted c.requires.awaits in
    with_six (
    page-within c.args.wanted c.page_of-page.ensures (c.records.ensures) (c.records-2.ensures) there)

pub returns-in-Err-clause-effect : goal.returns-in-Err-clause-effect
returns-in-Err-clause-effect g c =
    let ord = g.met.F.Key.Ord in
    let facts = g.met.F.Key.FixedKey in
    let order = key_order g.F.Key.PartialEq.eq g.F.Key.Ord.cmp ord.matches_eq facts.exact ord.total in
    let v = c.args.self.now in
    let x = c.args.relocation.now in
    let a = c.requires.awaits in
    let p = c.args.loaded in
    let there = awaited-flushed g.F.Key.Ord.cmp g.F.Mergeable.parts.joined g.F.Functions.code order v c.facts.ensures.sound c.facts.ensures.compacting c.args.slot c.args.context x c.args.wanted a in
    let page = c.page_of-page.ensures ∙ ap (λ r. page_at r.log.bits c.args.wanted) (c.records.ensures ∙ sym c.records-2.ensures) in
    let z = stranger-held c.records-2.result.now v.records c.page_of-page.result c.args.wanted (g.R.Receipt.stands p.receipt) c.in-Err.refused (c.records-2.ensures) page there c.in-Err.ensures.stranger in
    LoadsOn.stranger x c.args.wanted p z.0 a refl z.1 z.2 refl (ap Err z.3)

pub returns-in-Err-clause-cleared : goal.returns-in-Err-clause-cleared
returns-in-Err-clause-cleared g c = err-ok

pub returns-in-Err-clause-moment : goal.returns-in-Err-clause-moment
returns-in-Err-clause-moment g c = no-later c.requires.later

pub read_on-requires-clause-has : goal.read_on-requires-clause-has
read_on-requires-clause-has g c =
    let page = c.page_of-page.ensures ∙ ap (λ r. page_at r.log.bits c.args.wanted) (c.records.ensures) in
    let st = g.R.Receipt.stands c.args.loaded.receipt in
    let own = subst (λ n. IsHeldBy c.args.self.now.records.log.receipts n st) page (subst (λ r. IsHeldBy r.log.receipts c.page_of-page.result st) (c.records-2.ensures) (c.in_default.ensures.own.0 refl)) in
    (c.args.wanted, record { awaits = c.requires.awaits; own = own })

pub read_on-requires-clause-later : goal.read_on-requires-clause-later
read_on-requires-clause-later g c = c.requires.later

pub read_on-requires-clause-session : goal.read_on-requires-clause-session
read_on-requires-clause-session g c = c.requires.session

pub read_on-requires-clause-context : goal.read_on-requires-clause-context
read_on-requires-clause-context g c = c.requires.context

pub returns-clause-effect : goal.returns-clause-effect
returns-clause-effect g c = c.read_on.ensures.effect

pub returns-clause-event : goal.returns-clause-event
returns-clause-event g c = c.read_on.ensures.event

pub returns-clause-cleared : goal.returns-clause-cleared
returns-clause-cleared g c = c.read_on.ensures.cleared

pub returns-clause-moment : goal.returns-clause-moment
returns-clause-moment g c = c.read_on.ensures.moment

pub returns-in-Err-clause-undamaged : goal.returns-in-Err-clause-undamaged
returns-in-Err-clause-undamaged g c = λ yes_keeps page is.
    let ord = g.met.F.Key.Ord in
    let facts = g.met.F.Key.FixedKey in
    let order = key_order g.F.Key.PartialEq.eq g.F.Key.Ord.cmp ord.matches_eq facts.exact ord.total in
    let v = c.args.self.now in
    let there = awaited-flushed g.F.Key.Ord.cmp g.F.Mergeable.parts.joined g.F.Functions.code order v c.facts.ensures.sound c.facts.ensures.compacting c.args.slot c.args.context c.args.relocation.now c.args.wanted c.requires.awaits in
    let at = c.page_of-page.ensures ∙ ap (λ r. page_at r.log.bits c.args.wanted) (c.records.ensures ∙ sym c.records-2.ensures) in
    let z = stranger-held c.records-2.result.now v.records c.page_of-page.result c.args.wanted (g.R.Receipt.stands c.args.loaded.receipt) c.in-Err.refused (c.records-2.ensures) at there c.in-Err.ensures.stranger in
    stranger-not z.3 is

pub returns-clause-undamaged : goal.returns-clause-undamaged
returns-clause-undamaged g c = c.read_on.ensures.undamaged
