use Rattle.std.proofs.Common.{refl}
use Rattle.fkv_functions.proofs.KeyOrder.{key_order}
use Rattle.fkv_lookups.specs.Traced.{IsTraced}
use Rattle.fkv_lookups.proofs.LookupLemmas.{begun, raw-traced}
use Rattle.fkv_lookups.proofs.WayLemmas.{way-begins, way-chain, way-on, way-end, way-falls}
use Rattle.fkv_lookups.proofs.records.Records.gather.Goals as goal

pub loop-last-init : goal.loop-last-init
loop-last-init g c =
    let ord = g.met.F.Key.Ord in
    let facts = g.met.F.Key.FixedKey in
    let order = key_order g.F.Key.PartialEq.eq g.F.Key.Ord.cmp ord.matches_eq facts.exact ord.total in
    let traced : IsTraced g.R.Receipt.keeps g.F.Functions.code c.args.self.now = rw (← c.self.view_is) c.self.invariant in
    let t = raw-traced g.F.Key.Ord.cmp g.F.Mergeable.parts.joined c.args.self.now (rw (← c.self.view_is) refl) traced in
    let up = begun c.args.self.now c.args.low traced c.requires.in_frames c.requires.begin in
    way-begins g.F.Key.Ord.cmp g.F.Mergeable.parts.joined g.F.Functions.code c.args.self.now c.args.key.now order t c.args.low c.args.entry c.args.first up c.requires.entry c.requires.first

pub first_on_chain-position-requires-clause-chain :
    goal.first_on_chain-position-requires-clause-chain
first_on_chain-position-requires-clause-chain g c =
    (rw (← c.self.view_is) at (way-chain g.F.Key.Ord.cmp g.F.Mergeable.parts.joined g.F.Functions.code c.args.self.now c.args.key.now c.args.low c.args.entry c.loop-last.parts c.loop-last.position c.loop-last.invariant
    c.in-Some.last c.in-Some.ensures.some.0))

pub loop-last-smaller : goal.loop-last-smaller
loop-last-smaller g c =
    let ord = g.met.F.Key.Ord in
    let facts = g.met.F.Key.FixedKey in
    let order = key_order g.F.Key.PartialEq.eq g.F.Key.Ord.cmp ord.matches_eq facts.exact ord.total in
    let traced : IsTraced g.R.Receipt.keeps g.F.Functions.code c.args.self.now = rw (← c.self.view_is) c.self.invariant in
    let t = raw-traced g.F.Key.Ord.cmp g.F.Mergeable.parts.joined c.args.self.now (rw (← c.self.view_is) refl) traced in
    way-falls g.F.Key.Ord.cmp g.F.Mergeable.parts.joined g.F.Functions.code c.args.self.now c.args.key.now order t c.args.low c.args.entry c.loop-last.parts c.loop-last.position c.loop-last.invariant
    c.in-Some.last c.in-Some.ensures.some.0 c.first_on_chain-position.result (rw (← c.self.view_is) c.first_on_chain-position.ensures)

pub loop-last-preserved : goal.loop-last-preserved
loop-last-preserved g c =
    let some = c.in-Some.ensures.some in
    rw c.combined-parts.ensures (way-on g.F.Key.Ord.cmp g.F.Mergeable.parts.joined g.F.Functions.code c.args.self.now c.args.key.now c.args.low c.args.entry c.loop-last.parts c.loop-last.position c.loop-last.invariant
    c.in-Some.last some.0 some.1 c.first_on_chain-position.result (rw (← c.self.view_is) c.first_on_chain-position.ensures))

pub returns : goal.returns
returns g c =
    way-end g.F.Key.Ord.cmp g.F.Mergeable.parts.joined g.F.Functions.code c.args.self.now c.args.key.now c.args.low c.args.entry c.loop-last.parts c.loop-last.position c.loop-last.invariant
    (c.delta_at.ensures.none c.in_default.is)
