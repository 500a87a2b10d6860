use Rattle.std.proofs.Common.{◌<◌, ℕ, [], map, get_or}
use Rattle.fkv_blocks.specs.Orders.{BeginsAt}
use Rattle.fkv_blocks.proofs.orders.next_at.Given as goal

-- none of the lists so far goes on there
abbrev pub invariant-loop-worker : goal.invariant-loop-worker
invariant-loop-worker l = (k : ℕ) → k < l.worker → BeginsAt l.at (get_or (map (λ list. list.items) l.lists) k []) → ⊥
