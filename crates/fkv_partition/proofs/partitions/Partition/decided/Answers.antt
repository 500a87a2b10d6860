use Rattle.std.proofs.Common.{sym, ap, ◌∙◌}
use Rattle.fkv_functions.proofs.KeyOrder.{key_order}
use Rattle.fkv_operations.specs.After.{key_of}
use Rattle.fkv_lookups.specs.Decisions.{low_of, decision}
use Rattle.fkv_partition.specs.Views.{seen_at}
use Rattle.fkv_partition.proofs.DecidedLemmas.{seen-begun, met-delta}
use Rattle.fkv_partition.proofs.partitions.Partition.decided.Goals as goal

pub returns-in-Some : goal.returns-in-Some
returns-in-Some g c =
    let ord = g.met.F.Key.Ord in
    let facts = g.met.F.Key.FixedKey in
    let order = key_order g.F.Key.PartialEq.eq g.F.Key.Ord.cmp ord.matches_eq facts.exact ord.total in
    let v = c.args.self.now in
    let op = c.args.op.now in
    let k = key_of op in
    let s = c.facts.ensures.sound in
    let up = seen-begun v c.args.slot s.traced c.requires.entered in
    let d = c.is_delta.ensures.0 c.if-is_delta.true in
    let m = met-delta g.F.Key.Ord.cmp g.F.Mergeable.parts.joined g.F.Functions.code v c.args.slot k (λ a entry. c.lookups_tell.ensures.first g.R.Receipt.keeps g.F.Key.Ord.cmp g.F.Mergeable.parts.joined g.F.Functions.code v.records k (low_of v.records.log.begin (seen_at v c.args.slot)) a order s.traced s.resolved entry up) d.0 (sym c.requires.first ∙ d.1) d.2 in
    c.in-Some.ensures.some m.entry v.records.log.begin (seen_at v c.args.slot) m.part m.position ∙ ap (decision g.F.Functions.meaning op) (sym m.met)
