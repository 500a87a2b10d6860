use Rattle.std.proofs.Common.{◌≡◌, ◌+◌, ◌-◌, ◌%◌, ◌<◌, sym, ap, ◌∙◌, arith}
use Rattle.fkv_frames.proofs.Slots.{behind-round}
use Rattle.fkv_frames.proofs.ring.frame_of.Goals as goal

pub returns-then-far-count : goal.returns-then-far-count
returns-then-far-count c =
    let n = c.args.count in
    let far = c.args.page - c.args.round in
    let low : far < n = c.if-far-count.true in
    let is : c.args.round + far ≡ c.args.page = omega (arith, c.if-page-round.false) in
    sym (behind-round c.args.round n far c.requires.whole low) ∙ ap (λ p. p % n) is
