use Rattle.std.proofs.Common.{length, sym, ap, ◌∙◌, arith, below_more}
use Rattle.std.proofs.lemmas.List.{nil_from_length}
use Rattle.fkv_blocks.proofs.OrderLemmas.{list_is}
use Rattle.fkv_blocks.proofs.orders.are_empty.Goals as goal

pub returns-in-Some : goal.returns-in-Some
returns-in-Some c =
    let i = c.loop-list.list-index in
    let here = list_is (λ list. list.items) c.args.lists.now i c.list-item.result c.loop-list-test.true c.list-item.is in (
      λ h. absurd (cc),
      λ none. (let long = ap length (sym here ∙ none i) in absurd (omega (arith, long, c.in-Some.ensures.item.3.0))),
    )

pub loop-list-preserved : goal.loop-list-preserved
loop-list-preserved c =
    let here = list_is (λ list. list.items) c.args.lists.now c.loop-list.list-index c.list-item.result c.loop-list-test.true c.list-item.is in
    below_more _ _ c.loop-list.invariant (here ∙ nil_from_length c.list-item.result.items (omega (arith, c.in-None.ensures.item.3)))
