use Rattle.std.proofs.Common.{refl}
use Rattle.fkv_hybrid.proofs.DifferenceLemmas.{same_difference}
use Rattle.fkv_hybrid.proofs.differences.refusal_of_bytes.Goals as goal

pub returns-then-is_same : goal.returns-then-is_same
returns-then-is_same c = rw (same_difference c.args.held.now c.args.came.now (c.is_same.ensures.0 c.if-is_same.true)) refl
