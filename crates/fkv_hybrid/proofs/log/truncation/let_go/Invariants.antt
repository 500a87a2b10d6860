use Rattle.std.proofs.Common.{◌≡◌, drop}
use Rattle.fkv_hybrid.proofs.log.truncation.let_go.Given as goal

abbrev pub invariant-loop : goal.invariant-loop
invariant-loop g l = l.receipts.items ≡ drop l.counter l.initial.receipts.items
