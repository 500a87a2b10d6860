use Rattle.std.proofs.Common.{arith}
use Rattle.fkv_blocks.proofs.ScanLemmas.{plain_cut, no_cut}
use Rattle.fkv_blocks.proofs.cutting.plain_end.Goals as goal

pub returns-in-Some-clause-some : goal.returns-in-Some-clause-some
returns-in-Some-clause-some c = (omega arith, plain_cut c.args.bytes.now c.in-Some.at c.requires c.in-Some.ensures.0.high c.in-Some.ensures.1)

pub returns-in-None-clause-none : goal.returns-in-None-clause-none
returns-in-None-clause-none c = no_cut c.args.bytes.now (λ n lt. c.in-None.ensures n (omega arith) lt)
