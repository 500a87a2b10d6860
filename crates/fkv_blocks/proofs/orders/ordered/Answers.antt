use Rattle.std.proofs.Common.{◌≡◌, ◌+◌, [], map, length, get_or, refl, sym, subst, ◌∙◌, ap, arith}
use Rattle.std.proofs.lemmas.List.{length-map, length_push, map_push}
use Rattle.fkv_blocks.specs.Orders.{IsOrder, spans_in}
use Rattle.fkv_blocks.proofs.OrderLemmas.{each_more}
use Rattle.fkv_blocks.proofs.orders.ordered.Goals as goal

pub returns-then-not-all_are_of-clause-none : goal.returns-then-not-all_are_of-clause-none
returns-then-not-all_are_of-clause-none c orders o = (let bad = c.if-not-all_are_of.ensures.1 o.feeds in absurd (cc))

pub returns-in-Ok-None-clause-none : goal.returns-in-Ok-None-clause-none
returns-in-Ok-None-clause-none c orders o =
    let feed = c.loop-feed.feed in
    let one = o.each feed c.loop-feed-test.true in
    let none = rw c.in-Ok-None.field-0-is at c.in-Ok-None.ensures.none in
    none (get_or orders feed []) (subst (λ lists. IsOrder 0 (get_or c.args.ends.now feed 0) lists (get_or orders feed [])) (sym c.in-Ok.ensures.ok) one)

pub loop-feed-preserved : goal.loop-feed-preserved
loop-feed-preserved c =
    let hands = map (λ hand. hand.items) c.args.hands.now in
    let feed = c.loop-feed.feed in
    let orders = c.loop-feed.orders.items in
    let order = c.in-Ok-Some.order in
    let some = rw c.in-Ok-Some.field-0-is at c.in-Ok-Some.ensures.some in
    let one = subst (λ lists. IsOrder 0 (get_or c.args.ends.now feed 0) lists order.items) c.in-Ok.ensures.ok some in
    let had = map (λ order. order.items) orders in
    let more = each_more (λ f o. IsOrder 0 (get_or c.args.ends.now f 0) (map (spans_in f) hands) o) [] had order.items feed (length-map orders (λ order. order.items) ∙ c.loop-feed.invariant.count) c.loop-feed.invariant.each one in
    let grown = ap (map (λ order. order.items)) c.in-Ok-push.ensures.items ∙ map_push (λ order. order.items) orders order in
    record {
      within = omega (arith, c.loop-feed-test.true);
      count = ap length c.in-Ok-push.ensures.items ∙ (length_push orders order ∙ ap (λ n. n + 1) c.loop-feed.invariant.count);
      each = λ f lt. rw grown (more f lt);
    }

pub returns-clause-some : goal.returns-clause-some
returns-clause-some c =
    let all : c.loop-feed.feed ≡ length c.args.ends.now = omega (arith, c.loop-feed.invariant.within, c.loop-feed-test.false) in
    record {
      count = length-map c.loop-feed.orders.items (λ order. order.items) ∙ (c.loop-feed.invariant.count ∙ all);
      feeds = c.if-not-all_are_of.ensures.0 refl;
      each = λ f lt. c.loop-feed.invariant.each f (omega (arith, lt, all));
    }
