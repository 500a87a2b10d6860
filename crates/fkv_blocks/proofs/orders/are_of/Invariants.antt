use Rattle.std.proofs.Common.{◌<◌, take}
use Rattle.std.specs.List.{All}
use Rattle.fkv_blocks.proofs.orders.are_of.Given as goal

-- the tickets so far are
abbrev pub invariant-loop-ticket : goal.invariant-loop-ticket
invariant-loop-ticket l = All (λ ticket. ticket.feed < l.feeds) (take l.ticket-index l.hand)
