use Rattle.std.proofs.Common.{◌≡◌, map, take}
use Rattle.fkv_blocks.specs.Orders.{spans_in}
use Rattle.fkv_blocks.proofs.orders.lists_of.Given as goal

-- those of the workers so far
abbrev pub invariant-loop-hand : goal.invariant-loop-hand
invariant-loop-hand l = map (λ list. list.items) l.lists.items ≡ map (spans_in l.feed) (map (λ hand. hand.items) (take l.hand-index l.hands))
