use Rattle.std.proofs.Common.{◌≡◌, ◌++◌, length}
use Rattle.fkv_functions.specs.Names.{name_cmp}
use Rattle.fkv_runs.specs.Merging.{merged}
use Rattle.fkv_runs.proofs.groups.Groups.of.Given as goal

-- the groups so far, and the runs behind them, are the same list as all runs
abbrev pub invariant-loop-rest : goal.invariant-loop-rest
invariant-loop-rest g l = merged name_cmp (l.groups.items ++ l.rest) ≡ merged name_cmp l.runs

abbrev pub decreases-loop-rest : goal.decreases-loop-rest
decreases-loop-rest g l = length l.rest
