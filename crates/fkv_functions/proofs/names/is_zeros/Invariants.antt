use Rattle.std.proofs.Common.{length, ◌-◌, ◌≡◌, ◌≤◌, take, replicate}
use Rattle.fkv_functions.proofs.names.is_zeros.Given as goal

-- what was passed is zero
abbrev pub invariant-loop-at : goal.invariant-loop-at
invariant-loop-at l = (l.at ≤ length l.bytes) × (take l.at l.bytes ≡ replicate l.at 0)

abbrev pub decreases-loop-at : goal.decreases-loop-at
decreases-loop-at l = length l.bytes - l.at
