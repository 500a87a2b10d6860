use Rattle.std.proofs.Common.{◌++◌, ◌∷◌, [], get_or, sym, subst}
use Rattle.std.specs.List.{AllZip}
use Rattle.fkv_blocks.specs.Shares.{AreRowsIn}
use Rattle.fkv_blocks.specs.declared.spans.Ticket.{Ticket}
use Rattle.fkv_blocks.proofs.ShareLemmas.{zip_more}
use Rattle.fkv_blocks.proofs.WholeLemmas.{read_at}
use Rattle.fkv_blocks.proofs.whole.hand_before.Goals as goal

abbrev blank : Ticket
blank = record { feed = 0; span = record { low = 0; high = 0; records = 0 } }

pub loop-ticket-preserved : goal.loop-ticket-preserved
loop-ticket-preserved g c =
    let feeds = g.B.Origin.feeds in
    let i = c.loop-ticket.ticket-index in
    let ticket = get_or c.args.hand.now i blank in
    let had = c.loop-ticket.invariant in
    let here = read_at feeds c.args.hand.now c.requires.0 i blank c.requires.1 c.loop-ticket-test.true in (
      had.0 ++ here.0 ∷ [],
      subst (λ ts. AllZip (AreRowsIn feeds) ts (had.0 ++ here.0 ∷ [])) (sym c.in-Ok.ensures.items) (zip_more (AreRowsIn feeds) c.loop-ticket.kept.items had.0 ticket here.0 had.1 here.1),
    )
