use Rattle.std.proofs.Common.{sym}
use Rattle.fkv_functions.proofs.integers.I128Fixed.bytes_equal.Goals as goal

pub returns-in-None : goal.returns-in-None
returns-in-None c = (
  (λ t. absurd (cc)),
  (λ e. absurd (let no = c.in-None.ensures.only c.args.self.now c.known.ensures (sym e) in cc)),
)
