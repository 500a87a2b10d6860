use Rattle.std.proofs.Common.{◌≡◌, ◌+◌, ◌<◌, ◌≤◌, ◌++◌, ◌∷◌, [], inr, map, length, get_or, sym, ap, subst, ◌∙◌, arith}
use Rattle.std.proofs.lemmas.List.{get_or-map, get_or_append_left, get_or_push, length-map, length_push}
use Rattle.fkv_functions.specs.declared.refusals.Refused.TheVariants.{Unreadable}
use Rattle.fkv_blocks.specs.Left.{EndsAt, text_at}
use Rattle.fkv_blocks.specs.Orders.{AreOrdered}
use Rattle.fkv_blocks.specs.Pieces.{IsFirstUnread, IsUpTo, records_of}
use Rattle.fkv_blocks.proofs.WholeLemmas.{first_is_long, front_at, front_inside, front_long, stands_before}
use Rattle.fkv_blocks.proofs.whole.ReadFeeds.rows_before.Goals as goal

pub returns-in-None-clause-ok : goal.returns-in-None-clause-ok
returns-in-None-clause-ok g c =
    let feeds = g.B.Origin.feeds in
    let feed = c.args.feed in
    let first = c.in-Ok.ends.items in
    let ends = first ++ c.args.low ∷ [] in
    let hands = map (λ hand. hand.items) c.in-Ok-hands_before.hands.items in
    let all = c.in-Ok-in_order.orders.items in
    let orders = map (λ order. order.items) all in
    let ends_are : c.as_slice.result.now ≡ ends = c.as_slice.ensures.value ∙ c.in-Ok-push.ensures.items in
    let o : AreOrdered ends hands orders = rw (c.as_slice-2.ensures.value, ends_are) at c.in-Ok-in_order.ensures.ok in
    let count : length first ≡ feed = c.in-Ok.ensures.count in
    let many : length ends ≡ feed + 1 = length_push first c.args.low ∙ ap (λ n. n + 1) count in
    let long : length orders ≡ length all = length-map all (λ order. order.items) in
    let held : c.len.result ≡ length c.self.inside.feeds.items = omega (arith, c.len.ensures, c.self.inside.feeds.ok.0) in
    let one : length c.self.inside.feeds.items ≡ length feeds = c.self.invariant in
    let some : feed < length feeds = omega (arith, c.if-feed-len.false, held, one) in
    let none = rw c.as_slice-3.ensures.value at c.in-None.ensures.none in
    let last : c.as_slice-in-None.result.now ≡ get_or orders feed [] =
    c.as_slice-in-None.ensures.value ∙ (ap (λ order. order.items) c.index.ensures ∙ sym (get_or-map (λ order. order.items) all feed c.index.result.now [] (omega (arith, many, long, o.count)))) in
    stands_before feeds c.args.limit ends hands orders o feed (omega (arith, many)) (omega (arith, many, some))
    (λ f lt. subst (EndsAt (text_at feeds f)) (sym (get_or_append_left first (c.args.low ∷ []) 0 f (omega (arith, lt, count)))) (c.in-Ok.ensures.each f lt))
    c.in-Ok-hands_before.ensures.ok c.args.low c.total_within.result (omega (arith, many)) (get_or_push first c.args.low 0 feed count)
    (λ f lt. subst (λ order. records_of order ≤ c.args.limit) (front_at (λ order. order.items) all feed f lt) (none f (front_long all feed f lt (omega (arith, lt, many, long, o.count)))))
    (subst (λ order. IsUpTo c.args.limit (records_of order) c.total_within.result) last c.total_within.ensures)

pub returns-clause-refused : goal.returns-clause-refused
returns-clause-refused g c =
    let feeds = g.B.Origin.feeds in
    let counts = g.B.Origin.counts in
    let feed = c.args.feed in
    let first = c.in-Ok.ends.items in
    let ends = first ++ c.args.low ∷ [] in
    let hands = map (λ hand. hand.items) c.in-Ok-hands_before.hands.items in
    let all = c.in-Ok-in_order.orders.items in
    let orders = map (λ order. order.items) all in
    let ends_are : c.as_slice.result.now ≡ ends = c.as_slice.ensures.value ∙ c.in-Ok-push.ensures.items in
    let o : AreOrdered ends hands orders = rw (c.as_slice-2.ensures.value, ends_are) at c.in-Ok-in_order.ensures.ok in
    let count : length first ≡ feed = c.in-Ok.ensures.count in
    let many : length ends ≡ feed + 1 = length_push first c.args.low ∙ ap (λ n. n + 1) count in
    let held : c.len.result ≡ length c.self.inside.feeds.items = omega (arith, c.len.ensures, c.self.inside.feeds.ok.0) in
    let one : length c.self.inside.feeds.items ≡ length feeds = c.self.invariant in
    let some : feed < length feeds = omega (arith, c.if-feed-len.false, held, one) in
    let long = rw c.as_slice-3.ensures.value at c.in-Some.ensures.some in
    let before = rw c.as_slice-3.ensures.value at c.in-Some.ensures.before in
    let place = c.in-Some.place in
    let lt : place < feed = front_inside all feed place long.0 in
    inr (inr (subst (λ n. IsFirstUnread feeds counts c.args.self.now c.args.limit (Unreadable n)) (sym c.number.ensures)
    (first_is_long feeds c.args.limit ends hands orders o feed (omega (arith, many)) (omega (arith, many, some))
    (λ f less. subst (EndsAt (text_at feeds f)) (sym (get_or_append_left first (c.args.low ∷ []) 0 f (omega (arith, less, count)))) (c.in-Ok.ensures.each f less))
    c.in-Ok-hands_before.ensures.ok counts c.args.self.now place lt
    (subst (λ order. c.args.limit < records_of order) (front_at (λ order. order.items) all feed place lt) long.1)
    (λ f less. subst (λ order. records_of order ≤ c.args.limit) (front_at (λ order. order.items) all feed f (omega (arith, less, lt))) (before f less)))))
