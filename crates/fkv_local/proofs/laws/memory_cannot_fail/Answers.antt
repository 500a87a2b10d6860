use Rattle.std.proofs.Common.{refl, arith}
use Rattle.fkv_local.proofs.laws.memory_cannot_fail.Goals as goal

pub returns-clause-writes : goal.returns-clause-writes
returns-clause-writes c = λ can. (let last = can.1 in let less = can.2 in omega arith)

pub returns-clause-reads : goal.returns-clause-reads
returns-clause-reads c = λ can. can.1 refl
