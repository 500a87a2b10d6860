use Rattle.std.proofs.Common.{◌<◌, subst, arith, refl}
use Rattle.std.specs.List.{All}
use Rattle.std.proofs.lemmas.List.{take_all}
use Rattle.std.proofs.lemmas.List.Elements.{All-more}
use Rattle.fkv_blocks.specs.declared.spans.Ticket.{Ticket}
use Rattle.fkv_blocks.proofs.orders.are_of.Goals as goal

abbrev blank : Ticket
blank = record { feed = 0; span = record { low = 0; high = 0; records = 0 } }

pub loop-ticket-preserved : goal.loop-ticket-preserved
loop-ticket-preserved c =
    All-more (λ (ticket : Ticket). ticket.feed < c.args.feeds) c.args.hand.now c.loop-ticket.ticket-index blank c.loop-ticket-test.true c.loop-ticket.invariant c.if-ticket-feeds.false

pub returns-then-ticket-feeds : goal.returns-then-ticket-feeds
returns-then-ticket-feeds c = (
  λ h. absurd (cc),
  λ all. (let less = all c.loop-ticket.ticket-index blank c.loop-ticket-test.true in absurd (omega (arith, less, c.if-ticket-feeds.true))),
)

pub returns : goal.returns
returns c = (
  λ h. subst (All (λ (ticket : Ticket). ticket.feed < c.args.feeds)) (take_all c.loop-ticket.ticket-index c.args.hand.now c.loop-ticket-test.false) c.loop-ticket.invariant,
  λ all. refl,
)
