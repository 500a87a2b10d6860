use Rattle.std.proofs.Common.{◌≡◌, take, refl, sym, ◌∙◌, arith}
use Rattle.std.proofs.lemmas.Bool.Decides.{nat_tests}
use Rattle.std.proofs.lemmas.List.{take_all}
use Rattle.fkv_device.proofs.ByteLemmas.{byte_more}
use Rattle.fkv_device.proofs.comparing.is_same_block.Goals as goal

pub loop-at-init : goal.loop-at-init
loop-at-init c = ((λ e. refl), (λ e. refl))

pub loop-at-preserved : goal.loop-at-preserved
loop-at-preserved c = byte_more c.args.left.now c.args.right.now c.loop-at.at c.loop-at.differences (omega arith) (omega arith) c.loop-at.invariant

pub returns : goal.returns
returns c =
    let left : take c.loop-at.at c.args.left.now ≡ c.args.left.now = take_all c.loop-at.at c.args.left.now (omega arith) in
    let right : take c.loop-at.at c.args.right.now ≡ c.args.right.now = take_all c.loop-at.at c.args.right.now (omega arith) in (
      (λ t. let none : c.loop-at.differences ≡ 0 = grind (arith, nat_tests) in sym left ∙ c.loop-at.invariant.0 none ∙ right),
      (λ e. let none : c.loop-at.differences ≡ 0 = c.loop-at.invariant.1 (left ∙ e ∙ sym right) in grind (arith, nat_tests)),
    )
