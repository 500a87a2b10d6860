use Rattle.std.proofs.Common.{[], map, sym, ap, subst, ◌∙◌}
use Rattle.std.proofs.lemmas.List.{length-map, map_push}
use Rattle.std.proofs.lemmas.List.Elements.{All-push}
use Rattle.fkv_blocks.specs.Shares.{WereRead}
use Rattle.fkv_blocks.proofs.OrderLemmas.{list_is}
use Rattle.fkv_blocks.proofs.whole.hands_before.Goals as goal

pub hand_before-requires : goal.hand_before-requires
hand_before-requires g c =
    let hands = c.args.hands.now in
    let i = c.loop-hand.hand-index in
    let here = list_is (λ hand. hand.items) hands i c.hand-item.result c.loop-hand-test.true c.hand-item.is in
    subst (WereRead g.B.Origin.feeds) (here ∙ sym c.as_slice.ensures.value) (c.requires i [] (rw (length-map hands (λ hand. hand.items)) c.loop-hand-test.true))

pub loop-hand-preserved : goal.loop-hand-preserved
loop-hand-preserved g c =
    let kept = c.loop-hand.kept.items in
    let grown = ap (map (λ hand. hand.items)) c.in-Ok-push.ensures.items ∙ map_push (λ hand. hand.items) kept c.in-Ok.some in
    rw grown (All-push (WereRead g.B.Origin.feeds) (map (λ hand. hand.items) kept) c.in-Ok.some.items c.loop-hand.invariant c.in-Ok.ensures.ok)
