use Rattle.std.proofs.Common.{◌≡◌, ◌<◌, ◌+◌, ◌++◌, ◌∷◌, [], map, take, sym, ap, subst, ◌∙◌, arith, refl}
use Rattle.std.specs.List.{All}
use Rattle.std.proofs.lemmas.List.{length-map, map_push, take_all, take_more}
use Rattle.std.proofs.lemmas.List.Elements.{All-push}
use Rattle.fkv_blocks.specs.declared.spans.Ticket.{Ticket}
use Rattle.fkv_blocks.proofs.OrderLemmas.{list_is}
use Rattle.fkv_blocks.proofs.orders.all_are_of.Goals as goal

pub returns-then-not-are_of : goal.returns-then-not-are_of
returns-then-not-are_of c =
    let hands = c.args.hands.now in
    let i = c.loop-hand.hand-index in
    let here = list_is (λ hand. hand.items) hands i c.hand-item.result c.loop-hand-test.true c.hand-item.is in
    let long = length-map hands (λ hand. hand.items) in (
      λ h. absurd (cc),
      λ all.
          let one = subst (All (λ (ticket : Ticket). ticket.feed < c.args.feeds)) here (all i [] (omega (arith, long, c.loop-hand-test.true))) in
          let bad = c.if-not-are_of.ensures.1 (subst (All (λ (ticket : Ticket). ticket.feed < c.args.feeds)) (sym c.as_slice.ensures.value) one) in
          absurd (cc),
    )

pub loop-hand-preserved : goal.loop-hand-preserved
loop-hand-preserved c =
    let hands = c.args.hands.now in
    let i = c.loop-hand.hand-index in
    let hand = c.hand-item.result in
    let grown : take (i + 1) hands ≡ take i hands ++ hand ∷ [] = take_more hands i hand c.loop-hand-test.true ∙ ap (λ h. take i hands ++ h ∷ []) (sym c.hand-item.is) in
    let one = subst (All (λ (ticket : Ticket). ticket.feed < c.args.feeds)) c.as_slice.ensures.value (c.if-not-are_of.ensures.0 refl) in
    subst (All (All (λ (ticket : Ticket). ticket.feed < c.args.feeds))) (sym (ap (map (λ hand. hand.items)) grown ∙ map_push (λ hand. hand.items) (take i hands) hand))
    (All-push (All (λ (ticket : Ticket). ticket.feed < c.args.feeds)) (map (λ hand. hand.items) (take i hands)) hand.items c.loop-hand.invariant one)

pub returns : goal.returns
returns c = (
  λ h. subst (λ hands. All (All (λ (ticket : Ticket). ticket.feed < c.args.feeds)) (map (λ hand. hand.items) hands)) (take_all c.loop-hand.hand-index c.args.hands.now c.loop-hand-test.false) c.loop-hand.invariant,
  λ all. refl,
)
