use Rattle.std.proofs.Common.{◌++◌, ◌∷◌, [], get_or, sym, ap, ◌∙◌}
use Rattle.std.proofs.lemmas.List.{take_all}
use Rattle.fkv_blocks.specs.Orders.{spans_in}
use Rattle.fkv_blocks.specs.declared.spans.Ticket.{Ticket}
use Rattle.fkv_blocks.proofs.OrderLemmas.{spans_in_more, spans_in_same}
use Rattle.fkv_blocks.proofs.orders.spans_of.Goals as goal

abbrev blank : Ticket
blank = record { feed = 0; span = record { low = 0; high = 0; records = 0 } }

pub loop-ticket-preserved-then-ticket-feed : goal.loop-ticket-preserved-then-ticket-feed
loop-ticket-preserved-then-ticket-feed c =
    c.loop-ticket.invariant ∙ sym (spans_in_same c.args.feed c.args.hand.now c.loop-ticket.ticket-index blank c.loop-ticket-test.true c.if-ticket-feed.true)

pub loop-ticket-preserved : goal.loop-ticket-preserved
loop-ticket-preserved c =
    let hand = c.args.hand.now in
    let i = c.loop-ticket.ticket-index in
    c.in-Ok.ensures.items
    ∙ (ap (λ l. l ++ (get_or hand i blank).span ∷ []) c.loop-ticket.invariant
    ∙ sym (spans_in_more c.args.feed hand i blank c.loop-ticket-test.true c.if-ticket-feed.false))

pub returns-clause-ok : goal.returns-clause-ok
returns-clause-ok c = c.loop-ticket.invariant ∙ ap (spans_in c.args.feed) (take_all c.loop-ticket.ticket-index c.args.hand.now c.loop-ticket-test.false)
