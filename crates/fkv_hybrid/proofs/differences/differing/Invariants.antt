use Rattle.std.proofs.Common.{length, ◌-◌, ◌≡◌, drop}
use Rattle.fkv_hybrid.specs.Flushes.{first_difference}
use Rattle.fkv_hybrid.proofs.differences.differing.Given as goal

-- what was passed is the same in both
abbrev pub invariant-loop-at : goal.invariant-loop-at
invariant-loop-at l = first_difference l.held l.came ≡ first_difference (drop l.at l.held) (drop l.at l.came)

abbrev pub decreases-loop-at : goal.decreases-loop-at
decreases-loop-at l = length l.held - l.at
