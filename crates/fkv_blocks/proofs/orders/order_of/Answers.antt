use Rattle.std.proofs.Common.{◌∷◌, [], map, refl, sym, subst, append_assoc, append-nil}
use Rattle.fkv_blocks.specs.Orders.{IsOrder}
use Rattle.fkv_blocks.proofs.OrderLemmas.{order_end, order_less, order_more, order_none, order_over}
use Rattle.fkv_blocks.proofs.orders.order_of.Goals as goal

pub loop-at-init : goal.loop-at-init
loop-at-init c = record { keeps = λ rest o. rw c.new-order.ensures.items o; leaves = λ order o. (order, o) }

pub returns-in-None-clause-none : goal.returns-in-None-clause-none
returns-in-None-clause-none c order o =
    let left = c.loop-at.invariant.leaves order o in
    order_none c.loop-at.at c.args.end (map (λ list. list.items) c.loop-at.lists.items) c.loop-at-test.true c.in-None.ensures.none left.0 left.1

pub loop-at-preserved : goal.loop-at-preserved
loop-at-preserved c =
    let lists = map (λ list. list.items) c.loop-at.lists.items in
    let left = map (λ list. list.items) c.take_next.new.lists.items in
    let taken = c.in-Some.taken in
    let next = c.in-Some.ensures.some in
    record {
      keeps = λ rest o.
          let more = c.loop-at.invariant.keeps (taken ∷ rest) (order_more c.loop-at.at c.args.end lists taken left next rest o) in
          rw c.in-Ok.ensures.items (subst (IsOrder 0 c.args.end (map (λ list. list.items) c.args.lists.items)) (sym (append_assoc c.loop-at.order.items (taken ∷ []) rest)) more);
      leaves = λ order o.
          let had = c.loop-at.invariant.leaves order o in
          order_less c.loop-at.at c.args.end lists taken left next had.0 had.1;
    }

pub returns-then-at-end-clause-none : goal.returns-then-at-end-clause-none
returns-then-at-end-clause-none c order o =
    let left = c.loop-at.invariant.leaves order o in
    let over = order_end c.loop-at.at c.args.end (map (λ list. list.items) c.loop-at.lists.items) c.loop-at-test.false left.0 left.1 in
    c.if-at-end.true over.0

pub returns-then-not-are_empty-clause-none : goal.returns-then-not-are_empty-clause-none
returns-then-not-are_empty-clause-none c order o =
    let left = c.loop-at.invariant.leaves order o in
    let over = order_end c.loop-at.at c.args.end (map (λ list. list.items) c.loop-at.lists.items) c.loop-at-test.false left.0 left.1 in
    let bad = c.if-not-are_empty.ensures.1 (rw c.as_slice.ensures.value over.1) in
    absurd (cc)

pub returns-clause-some : goal.returns-clause-some
returns-clause-some c =
    let lists = map (λ list. list.items) c.loop-at.lists.items in
    let none = rw c.as_slice.ensures.value at (c.if-not-are_empty.ensures.0 refl) in
    let over = subst (λ at. IsOrder at c.args.end lists []) (sym c.if-at-end.false) (order_over c.args.end lists none) in
    subst (IsOrder 0 c.args.end (map (λ list. list.items) c.args.lists.items)) (append-nil c.loop-at.order.items) (c.loop-at.invariant.keeps [] over)
