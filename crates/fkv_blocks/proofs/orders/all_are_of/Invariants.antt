use Rattle.std.proofs.Common.{◌<◌, map, take}
use Rattle.std.specs.List.{All}
use Rattle.fkv_blocks.proofs.orders.all_are_of.Given as goal

-- the tickets of the workers so far are
abbrev pub invariant-loop-hand : goal.invariant-loop-hand
invariant-loop-hand l = All (All (λ ticket. ticket.feed < l.feeds)) (map (λ hand. hand.items) (take l.hand-index l.hands))
