use Rattle.std.proofs.Common.{◌≡◌, ◌↔◌, take}
use Rattle.fkv_device.proofs.comparing.is_same_block.Given as goal

-- no bit was found in which what was passed differs, if and only if that is the same
abbrev pub invariant-loop-at : goal.invariant-loop-at
invariant-loop-at l = (l.differences ≡ 0) ↔ (take l.at l.left ≡ take l.at l.right)
