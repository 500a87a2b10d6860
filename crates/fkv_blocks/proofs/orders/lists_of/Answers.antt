use Rattle.std.proofs.Common.{◌++◌, ◌∷◌, [], map, ap, ◌∙◌}
use Rattle.std.proofs.lemmas.List.{map_push, take_all}
use Rattle.fkv_blocks.specs.Orders.{spans_in}
use Rattle.fkv_blocks.proofs.OrderLemmas.{maps_more}
use Rattle.fkv_blocks.proofs.orders.lists_of.Goals as goal

pub loop-hand-preserved : goal.loop-hand-preserved
loop-hand-preserved c =
    let lists = map (λ list. list.items) c.loop-hand.lists.items in
    let more = ap (map (λ list. list.items)) c.in-Ok-push.ensures.items ∙ map_push (λ list. list.items) c.loop-hand.lists.items c.in-Ok.spans in
    let spans = c.in-Ok.ensures.ok ∙ ap (spans_in c.args.feed) c.as_slice.ensures.value in
    more
    ∙ (ap (λ l. lists ++ l ∷ []) spans
    ∙ maps_more (λ hand. hand.items) (spans_in c.args.feed) c.args.hands.now c.loop-hand.hand-index c.hand-item.result lists c.loop-hand-test.true c.hand-item.is c.loop-hand.invariant)

pub returns-clause-ok : goal.returns-clause-ok
returns-clause-ok c =
    c.loop-hand.invariant
    ∙ ap (λ hands. map (spans_in c.args.feed) (map (λ hand. hand.items) hands)) (take_all c.loop-hand.hand-index c.args.hands.now c.loop-hand-test.false)
