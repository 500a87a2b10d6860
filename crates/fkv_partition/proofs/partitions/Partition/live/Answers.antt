use Rattle.std.proofs.Common.{◌≡◌, ap, ◌∙◌}
use Rattle.std.specs.BTreeMap.{get, is_at}
use Rattle.std.specs.Map.{lookup}
use Rattle.std.proofs.lemmas.Result.{IfOk-weaker}
use Rattle.fkv_functions.proofs.KeyOrder.{key_order}
use Rattle.fkv_partition.proofs.ListingLemmas.{said-live, listed-own}
use Rattle.fkv_partition.proofs.partitions.Partition.live.Goals as goal

pub returns-clause-map : goal.returns-clause-map
returns-clause-map g c = λ keeps.
    rw (← c.self.view_is) (IfOk-weaker c.pairs_of.result (λ v. v.items ≡ c.put_live.new.map.entries) _
    (λ v h q. ap (lookup (is_at (g.F.Key.Ord.cmp q))) h ∙ c.in-Ok.ensures.ok keeps (λ k some. ap (lookup (is_at (g.F.Key.Ord.cmp k))) c.new-map.ensures.empty) q
    ∙ said-live g.F.Key.Ord.cmp (get g.F.Key.Ord.cmp c.new-map.result) c.self.inside.records.text q (ap (lookup (is_at (g.F.Key.Ord.cmp q))) c.new-map.ensures.empty))
    c.pairs_of.ensures.ok)

pub returns-clause-rising : goal.returns-clause-rising
returns-clause-rising g c =
    IfOk-weaker c.pairs_of.result (λ v. v.items ≡ c.put_live.new.map.entries) _ (λ v h. rw h c.len-ordered.ensures.ordered) c.pairs_of.ensures.ok

pub returns-clause-own : goal.returns-clause-own
returns-clause-own g c = λ keeps.
    let ord = g.met.F.Key.Ord in
    let facts = g.met.F.Key.FixedKey in
    let order = key_order g.F.Key.PartialEq.eq g.F.Key.Ord.cmp ord.matches_eq facts.exact ord.total in
    rw (← c.self.view_is) (IfOk-weaker c.pairs_of.result (λ v. v.items ≡ c.put_live.new.map.entries) _
    (λ v h. rw h (listed-own g.F.Key.Ord.cmp g.F.Mergeable.parts.joined g.F.Functions.code order c.self.invariant.sound ord.total c.put_live.new.map.entries
    (λ q. c.in-Ok.ensures.ok keeps (λ k some. ap (lookup (is_at (g.F.Key.Ord.cmp k))) c.new-map.ensures.empty) q
    ∙ said-live g.F.Key.Ord.cmp (get g.F.Key.Ord.cmp c.new-map.result) c.self.inside.records.text q (ap (lookup (is_at (g.F.Key.Ord.cmp q))) c.new-map.ensures.empty))))
    c.pairs_of.ensures.ok)

pub returns-in-Err-clause-refused : goal.returns-in-Err-clause-refused
returns-in-Err-clause-refused g c = rw (← c.self.view_is) c.in-Err.ensures.refused

pub returns-in-Err-clause-caused : goal.returns-in-Err-clause-caused
returns-in-Err-clause-caused g c = rw (← c.self.view_is) c.in-Err.ensures.caused
