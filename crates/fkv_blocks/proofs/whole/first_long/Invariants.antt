use Rattle.std.proofs.Common.{◌<◌, ◌≤◌, ℕ, [], map, get_or}
use Rattle.fkv_blocks.specs.Pieces.{records_of}
use Rattle.fkv_blocks.proofs.whole.first_long.Given as goal

-- none of the feeds so far has more
abbrev pub invariant-loop-place : goal.invariant-loop-place
invariant-loop-place l = (f : ℕ) → f < l.place → records_of (get_or (map (λ order. order.items) l.orders) f []) ≤ l.limit
