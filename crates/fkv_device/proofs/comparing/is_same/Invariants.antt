use Rattle.std.proofs.Common.{length, ◌-◌, ◌≡◌, ◌≤◌, take}
use Rattle.fkv_device.proofs.comparing.is_same.Given as goal

-- what was passed is the same
abbrev pub invariant-loop-at : goal.invariant-loop-at
invariant-loop-at l = (l.at ≤ length l.left) × (length l.left ≡ length l.right) × (take l.at l.left ≡ take l.at l.right)

abbrev pub decreases-loop-at : goal.decreases-loop-at
decreases-loop-at l = length l.left - l.at
