use Rattle.std.proofs.Common.{sym, ap, ◌∙◌, drop, arith}
use Rattle.std.proofs.lemmas.List.{take_rest}
use Rattle.fkv_device.proofs.ByteLemmas.{part_more, rest_same}
use Rattle.fkv_device.proofs.comparing.is_same.Goals as goal

pub loop-at-preserved : goal.loop-at-preserved
loop-at-preserved c = (
  omega arith,
  c.if-left-right.false,
  part_more c.args.left.now c.args.right.now c.loop-at.at 256 c.loop-at.invariant.2 (c.if-not-is_same_block.ensures.0 (cc)),
)

pub returns : goal.returns
returns c =
    let left = take_rest c.args.left.now c.loop-at.at in
    let right = take_rest c.args.right.now c.loop-at.at in (
      (λ t. rest_same c.args.left.now c.args.right.now c.loop-at.at c.loop-at.invariant.2 (sym left ∙ c.is_same_rest.ensures.0 t ∙ right)),
      (λ e. c.is_same_rest.ensures.1 (left ∙ ap (drop c.loop-at.at) e ∙ sym right)),
    )
