use Rattle.std.proofs.Common.{◌≡◌, ◌<◌, ℕ, [], map, get_or}
use Rattle.fkv_blocks.proofs.orders.are_empty.Given as goal

-- nothing is left of the lists so far
abbrev pub invariant-loop-list : goal.invariant-loop-list
invariant-loop-list l = (k : ℕ) → k < l.list-index → get_or (map (λ list. list.items) l.lists) k [] ≡ []
