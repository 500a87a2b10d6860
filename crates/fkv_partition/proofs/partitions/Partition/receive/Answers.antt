use Rattle.std.proofs.Common.{Err, refl, sym, ap, subst}
use Rattle.std.proofs.Math.Nat.{le_of_lt}
use Rattle.fkv_functions.proofs.KeyOrder.{key_order}
use Rattle.fkv_functions.proofs.CallLemmas.{with_six}
use Rattle.fkv_records.specs.Places.{page_at}
use Rattle.fkv_hybrid.specs.Loads.{HasReceipt, IsHeldBy}
use Rattle.fkv_partition.specs.Inside.{view_of}
use Rattle.fkv_partition.specs.KeyLoading.{Loads}
use Rattle.fkv_partition.proofs.LoadLemmas.{stranger-kept, wanted-flushed}
use Rattle.fkv_partition.proofs.DamageLemmas.{stranger-not}
use Rattle.fkv_partition.proofs.partitions.Partition.receive.Goals as goal

pub is_own-requires-whole : goal.is_own-requires-whole
is_own-requires-whole g c κs =
    let ord = g.met.F.Key.Ord in
    let facts = g.met.F.Key.FixedKey in
    let order = key_order g.F.Key.PartialEq.eq g.F.Key.Ord.cmp ord.matches_eq facts.exact ord.total in
    let v = c.args.self.now in
    let x = c.args.operation.now in
    let l = c.args.loading in
    let a = c.requires.awaits in
    let p = c.args.loaded in
    let there = wanted-flushed g.F.Key.Ord.cmp g.F.Mergeable.parts.joined g.F.Functions.code order v c.facts.ensures.sound c.args.slot c.args.context x l a in
    with_six (
    rw c.page_of-page.ensures (subst (λ u. HasReceipt u.records.log.receipts (page_at u.records.log.bits l.wanted)) (sym c.self.view_is) there))

pub returns-in-Err-clause-effect : goal.returns-in-Err-clause-effect
returns-in-Err-clause-effect g c =
    let ord = g.met.F.Key.Ord in
    let facts = g.met.F.Key.FixedKey in
    let order = key_order g.F.Key.PartialEq.eq g.F.Key.Ord.cmp ord.matches_eq facts.exact ord.total in
    let v = c.args.self.now in
    let x = c.args.operation.now in
    let l = c.args.loading in
    let a = c.requires.awaits in
    let p = c.args.loaded in
    let there = wanted-flushed g.F.Key.Ord.cmp g.F.Mergeable.parts.joined g.F.Functions.code order v c.facts.ensures.sound c.args.slot c.args.context x l a in
    let s = stranger-kept (view_of g.F.Mergeable.MERGES c.self.inside.number c.self.inside.count c.self.inside.records c.self.inside.contexts.items c.self.inside.moment c.self.inside.cleared) v c.page_of-page.result l.wanted (g.R.Receipt.stands p.receipt) c.in-Err.refused c.self.view_is c.page_of-page.ensures there c.in-Err.ensures.stranger in
    Loads.stranger x l p s.0 a refl s.1 s.2 refl (ap Err s.3)

pub returns-in-Err-clause-moment : goal.returns-in-Err-clause-moment
returns-in-Err-clause-moment g c = le_of_lt c.requires.later

pub resume_look_up-requires-clause-own : goal.resume_look_up-requires-clause-own
resume_look_up-requires-clause-own g c =
    subst (λ v. IsHeldBy v.records.log.receipts (page_at v.records.log.bits c.args.loading.wanted) (g.R.Receipt.stands c.args.loaded.receipt)) c.self.view_is
    (rw c.page_of-page.ensures at (c.in_default.ensures.own.0 refl))

pub resume_look_up-requires-clause-awaits : goal.resume_look_up-requires-clause-awaits
resume_look_up-requires-clause-awaits g c = c.requires.awaits

pub resume_look_up-requires-clause-session : goal.resume_look_up-requires-clause-session
resume_look_up-requires-clause-session g c = c.requires.session

pub resume_look_up-requires-clause-context : goal.resume_look_up-requires-clause-context
resume_look_up-requires-clause-context g c = c.requires.context

pub resume_look_up-requires-clause-later : goal.resume_look_up-requires-clause-later
resume_look_up-requires-clause-later g c = c.requires.later

pub returns-clause-effect : goal.returns-clause-effect
returns-clause-effect g c = c.resume_look_up.ensures.effect

pub returns-clause-event : goal.returns-clause-event
returns-clause-event g c = c.resume_look_up.ensures.event

pub returns-clause-moment : goal.returns-clause-moment
returns-clause-moment g c = c.resume_look_up.ensures.moment

pub returns-in-Err-clause-undamaged : goal.returns-in-Err-clause-undamaged
returns-in-Err-clause-undamaged g c = λ yes_keeps page is.
    let ord = g.met.F.Key.Ord in
    let facts = g.met.F.Key.FixedKey in
    let order = key_order g.F.Key.PartialEq.eq g.F.Key.Ord.cmp ord.matches_eq facts.exact ord.total in
    let v = c.args.self.now in
    let x = c.args.operation.now in
    let l = c.args.loading in
    let there = wanted-flushed g.F.Key.Ord.cmp g.F.Mergeable.parts.joined g.F.Functions.code order v c.facts.ensures.sound c.args.slot c.args.context x l c.requires.awaits in
    let s = stranger-kept (view_of g.F.Mergeable.MERGES c.self.inside.number c.self.inside.count c.self.inside.records c.self.inside.contexts.items c.self.inside.moment c.self.inside.cleared) v c.page_of-page.result l.wanted (g.R.Receipt.stands c.args.loaded.receipt) c.in-Err.refused c.self.view_is c.page_of-page.ensures there c.in-Err.ensures.stranger in
    stranger-not s.3 is

pub returns-clause-undamaged : goal.returns-clause-undamaged
returns-clause-undamaged g c = c.resume_look_up.ensures.undamaged
