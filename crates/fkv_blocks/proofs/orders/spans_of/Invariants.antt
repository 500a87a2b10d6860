use Rattle.std.proofs.Common.{◌≡◌, take}
use Rattle.fkv_blocks.specs.Orders.{spans_in}
use Rattle.fkv_blocks.proofs.orders.spans_of.Given as goal

-- those of the tickets so far
abbrev pub invariant-loop-ticket : goal.invariant-loop-ticket
invariant-loop-ticket l = l.spans.items ≡ spans_in l.feed (take l.ticket-index l.hand)
