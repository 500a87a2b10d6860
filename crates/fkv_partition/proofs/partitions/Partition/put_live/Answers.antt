use Rattle.std.proofs.Common.{◌∙◌}
use Rattle.std.specs.BTreeMap.{get}
use Rattle.std.proofs.lemmas.Result.{on_ok_weaker}
use Rattle.fkv_functions.proofs.KeyOrder.{key_order}
use Rattle.fkv_partition.proofs.ListingLemmas.{own-apart, said-live, others-stay}
use Rattle.fkv_partition.proofs.partitions.Partition.put_live.Goals as goal

pub returns-clause-map : goal.returns-clause-map
returns-clause-map g c = λ keeps.
    let ord = g.met.F.Key.Ord in
    let facts = g.met.F.Key.FixedKey in
    let order = key_order g.F.Key.PartialEq.eq g.F.Key.Ord.cmp ord.matches_eq facts.exact ord.total in
    rw (← c.self.view_is) (λ bare. c.put_live.ensures.ok keeps (own-apart g.F.Key.Ord.cmp g.F.Mergeable.parts.joined g.F.Functions.code order c.self.invariant.sound (get g.F.Key.Ord.cmp c.args.map.now) bare))

pub returns-clause-live : goal.returns-clause-live
returns-clause-live g c = λ keeps.
    let ord = g.met.F.Key.Ord in
    let facts = g.met.F.Key.FixedKey in
    let order = key_order g.F.Key.PartialEq.eq g.F.Key.Ord.cmp ord.matches_eq facts.exact ord.total in
    rw (← c.self.view_is) (λ bare. on_ok_weaker c.put_live.result
    (λ said k none. said k ∙ said-live g.F.Key.Ord.cmp (get g.F.Key.Ord.cmp c.args.map.now) c.self.inside.records.text k none)
    (c.put_live.ensures.ok keeps (own-apart g.F.Key.Ord.cmp g.F.Mergeable.parts.joined g.F.Functions.code order c.self.invariant.sound (get g.F.Key.Ord.cmp c.args.map.now) bare)))

pub returns-clause-others : goal.returns-clause-others
returns-clause-others g c = λ keeps.
    let ord = g.met.F.Key.Ord in
    let facts = g.met.F.Key.FixedKey in
    let order = key_order g.F.Key.PartialEq.eq g.F.Key.Ord.cmp ord.matches_eq facts.exact ord.total in
    rw (← c.self.view_is) (λ bare. on_ok_weaker c.put_live.result
    (λ said k off. said k ∙ others-stay g.F.Key.Ord.cmp g.F.Mergeable.parts.joined g.F.Functions.code order c.self.invariant.sound (get g.F.Key.Ord.cmp c.args.map.now) k off)
    (c.put_live.ensures.ok keeps (own-apart g.F.Key.Ord.cmp g.F.Mergeable.parts.joined g.F.Functions.code order c.self.invariant.sound (get g.F.Key.Ord.cmp c.args.map.now) bare)))

pub returns-clause-front : goal.returns-clause-front
returns-clause-front g c = λ keeps.
    let ord = g.met.F.Key.Ord in
    let facts = g.met.F.Key.FixedKey in
    let order = key_order g.F.Key.PartialEq.eq g.F.Key.Ord.cmp ord.matches_eq facts.exact ord.total in
    rw (← c.self.view_is) (λ bare. c.put_live.ensures.front keeps (own-apart g.F.Key.Ord.cmp g.F.Mergeable.parts.joined g.F.Functions.code order c.self.invariant.sound (get g.F.Key.Ord.cmp c.args.map.now) bare))

pub returns-clause-caused : goal.returns-clause-caused
returns-clause-caused g c = rw (← c.self.view_is) c.put_live.ensures.caused
