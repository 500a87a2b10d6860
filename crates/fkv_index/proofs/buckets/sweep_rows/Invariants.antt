use Rattle.std.proofs.Common.{◌≡◌, ◌++◌, take, drop, map}
use Rattle.fkv_index.specs.Storage.{swept_row}
use Rattle.fkv_index.proofs.buckets.sweep_rows.Given as goal

abbrev pub invariant-loop-at : goal.invariant-loop-at
invariant-loop-at l = l.rows.items ≡ map (swept_row l.begin) (take l.at l.initial.rows.items) ++ drop l.at l.initial.rows.items
