use Rattle.std.proofs.Common.{map, refl, sym, subst, arith, below_more}
use Rattle.std.proofs.lemmas.List.{length-map}
use Rattle.fkv_blocks.specs.Orders.{BeginsAt}
use Rattle.fkv_blocks.proofs.OrderLemmas.{begins_inside, list_is}
use Rattle.fkv_blocks.proofs.orders.next_at.Goals as goal

pub returns-then-begins_at-clause-some : goal.returns-then-begins_at-clause-some
returns-then-begins_at-clause-some c =
    let here = list_is (λ list. list.items) c.args.lists.now c.loop-worker.worker c.index-lists-worker.result c.loop-worker-test.true c.index-lists-worker.is in
    subst (BeginsAt c.args.at) (sym here) (c.if-begins_at.ensures.0 refl)

pub loop-worker-preserved : goal.loop-worker-preserved
loop-worker-preserved c =
    let here = list_is (λ list. list.items) c.args.lists.now c.loop-worker.worker c.index-lists-worker.result c.loop-worker-test.true c.index-lists-worker.is in
    below_more _ _ c.loop-worker.invariant (λ begins. let bad = c.if-begins_at.ensures.1 (subst (BeginsAt c.args.at) here begins) in absurd (cc))

pub returns-clause-none : goal.returns-clause-none
returns-clause-none c worker begins =
    let lists = map (λ list. list.items) c.args.lists.now in
    let inside = begins_inside c.args.at lists worker begins in
    let long = length-map c.args.lists.now (λ list. list.items) in
    c.loop-worker.invariant worker (omega (arith, inside, long, c.loop-worker-test.false)) begins
