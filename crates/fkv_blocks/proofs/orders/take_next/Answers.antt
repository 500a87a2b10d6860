use Rattle.std.proofs.Common.{[], map, get_or, arith, subst}
use Rattle.std.proofs.lemmas.List.{length-map}
use Rattle.fkv_blocks.specs.Orders.{BeginsAt}
use Rattle.fkv_blocks.proofs.OrderLemmas.{begins_inside, begins_some, list_is, taken_off}
use Rattle.fkv_blocks.proofs.orders.take_next.Goals as goal

pub index_mut-requires : goal.index_mut-requires
index_mut-requires c =
    let lists = c.args.lists.now.items in
    let begins : BeginsAt c.args.at (get_or (map (λ list. list.items) lists) c.in_ok-worker.worker []) = rw c.as_slice.ensures.value at c.in_ok-worker.ensures.some in
    let inside = begins_inside c.args.at (map (λ list. list.items) lists) c.in_ok-worker.worker begins in
    let long = length-map lists (λ list. list.items) in
    omega (arith, inside, long, c.args.lists.now.ok.0)

pub returns-in_err-worker-clause-none : goal.returns-in_err-worker-clause-none
returns-in_err-worker-clause-none c = rw c.from_residual.ensures (λ worker begins. c.in_err-worker.ensures.none worker (rw c.as_slice.ensures.value begins))

pub returns-in_err-span-clause-none : goal.returns-in_err-span-clause-none
returns-in_err-span-clause-none c =
    let lists = c.args.lists.now.items in
    let old = c.index_mut.result.now in
    let begins : BeginsAt c.args.at (get_or (map (λ list. list.items) lists) c.in_ok-worker.worker []) = rw c.as_slice.ensures.value at c.in_ok-worker.ensures.some in
    let inside = begins_inside c.args.at (map (λ list. list.items) lists) c.in_ok-worker.worker begins in
    let long = length-map lists (λ list. list.items) in
    let here = list_is (λ list. list.items) lists c.in_ok-worker.worker old (omega (arith, inside, long)) c.index_mut.ensures.value in
    let some = begins_some c.args.at old.items (subst (BeginsAt c.args.at) here begins) in
    rw c.from_residual-in_err-span.ensures (λ other b. let bad = c.in_err-span.ensures.variant.1 (omega (arith, some, old.ok.0)) in absurd (cc))

pub returns-clause-some : goal.returns-clause-some
returns-clause-some c =
    let lists = c.args.lists.now.items in
    let begins : BeginsAt c.args.at (get_or (map (λ list. list.items) lists) c.in_ok-worker.worker []) = rw c.as_slice.ensures.value at c.in_ok-worker.ensures.some in
    let inside = begins_inside c.args.at (map (λ list. list.items) lists) c.in_ok-worker.worker begins in
    let long = length-map lists (λ list. list.items) in
    taken_off (λ list. list.items) lists c.args.at c.in_ok-worker.worker c.in_ok-span.span c.index_mut.result.now c.pop_front.new.self
    (omega (arith, inside, long)) c.index_mut.ensures.value c.in_ok-span.ensures.items begins
