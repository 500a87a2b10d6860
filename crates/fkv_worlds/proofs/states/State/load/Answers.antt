use Rattle.std.proofs.Common.{refl, arith}
use Rattle.fkv_worlds.proofs.StateLemmas.{within-by}
use Rattle.fkv_worlds.proofs.ActsLemmas.{acts-untimely, there-behind, receipt-unasked, receipt-asked}
use Rattle.fkv_worlds.proofs.EventLemmas.{rows-of}
use Rattle.fkv_worlds.proofs.states.State.load.Goals as goal

pub returns-in-Err : goal.returns-in-Err
returns-in-Err g c = record { effect = acts-untimely _ _ g.F.Key.Ord.cmp g.F.Mergeable.parts.joined g.F.Functions.meaning g.F.Functions.code c.args.self.now _ c.in-Err.refused refl c.in-Err.ensures.refused }

pub has_receipt-requires-clause-partition : goal.has_receipt-requires-clause-partition
has_receipt-requires-clause-partition g c =
    let there = there-behind c.self.view_is c.in-Ok.ensures.ok.there in
    (rows-of g.F.Key.Ord.cmp g.F.Functions.meaning g.F.Functions.code _ c.self.invariant c.args.place.partition there).0

pub has_receipt-requires-clause-rows : goal.has_receipt-requires-clause-rows
has_receipt-requires-clause-rows g c =
    let there = there-behind c.self.view_is c.in-Ok.ensures.ok.there in
    within-by c.deref.ensures.value (rows-of g.F.Key.Ord.cmp g.F.Functions.meaning g.F.Functions.code _ c.self.invariant c.args.place.partition there).5

pub why_unloaded-requires-clause-there : goal.why_unloaded-requires-clause-there
why_unloaded-requires-clause-there g c = c.in-Ok.ensures.ok.there

pub why_unloaded-requires-clause-moment : goal.why_unloaded-requires-clause-moment
why_unloaded-requires-clause-moment g c =
    let next = c.in-Ok.ensures.ok.next in
    let fits = c.in-Ok.ensures.ok.fits in
    omega (arith, next, fits)

pub why_unloaded-requires-clause-unasked : goal.why_unloaded-requires-clause-unasked
why_unloaded-requires-clause-unasked g c = receipt-unasked c.self.view_is c.args.place c.deref.ensures.value c.has_receipt.ensures c.if-not-has_receipt.true

pub load_at-requires-clause-asked : goal.load_at-requires-clause-asked
load_at-requires-clause-asked g c = receipt-asked c.self.view_is c.args.place c.deref.ensures.value c.has_receipt.ensures c.if-not-has_receipt.false
