use Rattle.std.proofs.Common.{◌≡◌, replicate, None}
use Rattle.fkv_worlds.proofs.tables.fill_empty.Given as goal

abbrev pub invariant-loop : goal.invariant-loop
invariant-loop g l = l.table.items ≡ replicate l.counter None
