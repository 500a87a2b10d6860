use Rattle.std.proofs.Common.{inl, inr, sym, ap, ◌∙◌, arith, below_more}
use Rattle.fkv_blocks.specs.Pieces.{records_of}
use Rattle.fkv_blocks.proofs.OrderLemmas.{list_is}
use Rattle.fkv_blocks.proofs.PieceLemmas.{less_or}
use Rattle.fkv_blocks.proofs.whole.first_long.Goals as goal

pub loop-place-preserved : goal.loop-place-preserved
loop-place-preserved c =
    let here = list_is (λ order. order.items) c.args.orders.now c.loop-place.place c.index-orders-place.result c.loop-place-test.true c.index-orders-place.is in
    let long = c.if-is_long.ensures.1 in
    let same = ap records_of (here ∙ sym c.as_slice.ensures.value) in
    below_more _ _ c.loop-place.invariant (elim (less_or c.args.limit (records_of c.as_slice.result.now)) [
      | inl lt ↦ (let bad = long lt in absurd (cc))
      | inr le ↦ omega (arith, same, le)
    ])
