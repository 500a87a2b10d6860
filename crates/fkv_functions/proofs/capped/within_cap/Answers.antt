use Rattle.std.proofs.Common.{arith}
use Rattle.std.proofs.lemmas.Int.{ints}
use Rattle.fkv_functions.proofs.capped.within_cap.Goals as goal

pub returns-then-total-le-CAP : goal.returns-then-total-le-CAP
returns-then-total-le-CAP c = grind (arith, ints)

pub returns-else-total-ge0 : goal.returns-else-total-ge0
returns-else-total-ge0 c = grind (arith, ints)
