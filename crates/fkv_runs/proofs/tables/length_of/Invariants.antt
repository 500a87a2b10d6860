use Rattle.std.proofs.Common.{◌≡◌, ◌≤◌, length, drop}
use Rattle.fkv_functions.specs.Names.{name_cmp}
use Rattle.fkv_runs.specs.Merging.{merged}
use Rattle.fkv_runs.proofs.tables.length_of.Given as goal

-- the pairs of the runs from a place on
abbrev pub invariant-loop-place : goal.invariant-loop-place
invariant-loop-place g l = record {
  within : l.place ≤ length l.runs;
  so_far : l.len ≡ length (merged name_cmp (drop l.place l.runs));
}

abbrev pub decreases-loop-place : goal.decreases-loop-place
decreases-loop-place g l = l.place
