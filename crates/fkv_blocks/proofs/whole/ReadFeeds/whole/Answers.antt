use Rattle.std.proofs.Common.{◌≡◌, inr, map, length, sym, subst, ◌∙◌, arith}
use Rattle.std.proofs.lemmas.List.{length-map}
use Rattle.fkv_functions.specs.declared.refusals.Refused.TheVariants.{Unreadable}
use Rattle.fkv_blocks.specs.Orders.{AreOrdered}
use Rattle.fkv_blocks.specs.Pieces.{IsFirstUnread}
use Rattle.fkv_blocks.proofs.WholeLemmas.{first_is_long, whole_fed}
use Rattle.fkv_blocks.proofs.whole.ReadFeeds.whole.Goals as goal

pub returns-in-None-clause-ok : goal.returns-in-None-clause-ok
returns-in-None-clause-ok g c =
    let feeds = g.B.Origin.feeds in
    let ends = c.in-Ok.ends.items in
    let hands = map (λ hand. hand.items) c.args.hands.now in
    let orders = map (λ order. order.items) c.in-Ok-in_order.orders.items in
    let o : AreOrdered ends hands orders = subst (λ es. AreOrdered es hands orders) c.as_slice.ensures.value c.in-Ok-in_order.ensures.ok in
    let held : c.len.result ≡ length c.self.inside.feeds.items = omega (arith, c.len.ensures, c.self.inside.feeds.ok.0) in
    let one : length c.self.inside.feeds.items ≡ length feeds = c.self.invariant in
    let many : c.len.result ≡ length feeds = held ∙ one in
    let count : length ends ≡ length feeds = c.in-Ok.ensures.count ∙ many in
    let long : length orders ≡ length c.in-Ok-in_order.orders.items = length-map c.in-Ok-in_order.orders.items (λ order. order.items) in
    whole_fed feeds c.args.limit ends hands orders o count
    (λ f lt. c.in-Ok.ensures.each f (omega (arith, lt, many)))
    (λ f lt. (rw c.as_slice-2.ensures.value at c.in-None.ensures.none) f (omega (arith, lt, count, long, o.count)))

pub returns-clause-refused : goal.returns-clause-refused
returns-clause-refused g c =
    let feeds = g.B.Origin.feeds in
    let counts = g.B.Origin.counts in
    let ends = c.in-Ok.ends.items in
    let hands = map (λ hand. hand.items) c.args.hands.now in
    let orders = map (λ order. order.items) c.in-Ok-in_order.orders.items in
    let o : AreOrdered ends hands orders = subst (λ es. AreOrdered es hands orders) c.as_slice.ensures.value c.in-Ok-in_order.ensures.ok in
    let held : c.len.result ≡ length c.self.inside.feeds.items = omega (arith, c.len.ensures, c.self.inside.feeds.ok.0) in
    let one : length c.self.inside.feeds.items ≡ length feeds = c.self.invariant in
    let many : c.len.result ≡ length feeds = held ∙ one in
    let count : length ends ≡ length feeds = c.in-Ok.ensures.count ∙ many in
    let long : length orders ≡ length c.in-Ok-in_order.orders.items = length-map c.in-Ok-in_order.orders.items (λ order. order.items) in
    let some = rw c.as_slice-2.ensures.value at c.in-Some.ensures.some in
    let place = c.in-Some.place in
    inr (inr (subst (λ n. IsFirstUnread feeds counts c.args.self.now c.args.limit (Unreadable n)) (sym c.number.ensures)
    (first_is_long feeds c.args.limit ends hands orders o (length ends) (omega arith) (omega (arith, count)) (λ f lt. c.in-Ok.ensures.each f (omega (arith, lt, count, many))) c.requires counts c.args.self.now place
    (omega (arith, some.0, long, o.count)) some.1 (rw c.as_slice-2.ensures.value at c.in-Some.ensures.before))))
