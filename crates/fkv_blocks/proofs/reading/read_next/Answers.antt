use Rattle.std.proofs.Common.{◌++◌, ◌∷◌, [], flat_map, inr, sym, subst}
use Rattle.std.specs.List.{AllZip}
use Rattle.fkv_blocks.specs.declared.spans.Ticket.{Ticket}
use Rattle.fkv_feed_rows.specs.Feeds.{AreRowsOf}
use Rattle.fkv_blocks.specs.Left.{text_at}
use Rattle.fkv_blocks.specs.Shares.{AreRowsIn, IsStop}
use Rattle.fkv_blocks.proofs.ShareLemmas.{flat_more, rows_at, zip_more}
use Rattle.fkv_blocks.proofs.reading.read_next.Goals as goal

pub returns-in-Err-clause-told : goal.returns-in-Err-clause-told
returns-in-Err-clause-told g c = inr (IsStop.untaken c.in-Err.ensures.told)

pub returns-in-Ok-push-clause-ok : goal.returns-in-Ok-push-clause-ok
returns-in-Ok-push-clause-ok g c =
    let feeds = g.B.Origin.feeds in
    let feed = c.in-Ok-Some.place.feed in
    let low = c.in-Ok-Some.place.low in
    let high = c.in-Ok-Some.place.high in
    let had = c.requires in
    let read = c.in-Ok.ensures.ok (flat_map (λ part. part) had.0) had.2 in
    let rows = read.0 in
    let ticket : Ticket = record { feed = feed; span = record { low = low; high = high; records = c.in-Ok.records } } in
    let block = c.take_block.new.block.items in
    let whole : AreRowsOf c.args.limit block rows = subst (λ xs. AreRowsOf c.args.limit xs rows) c.as_slice.ensures.value read.1 in
    let at : AreRowsIn feeds ticket rows = rows_at (text_at feeds feed) block low high c.args.limit c.in-Ok.records rows (rw c.in-Ok-Some.field-0-is at c.in-Ok-Some.ensures.given) whole read.3 in (
      had.0 ++ rows ∷ [],
      subst (λ ts. AllZip (AreRowsIn feeds) ts (had.0 ++ rows ∷ [])) (sym c.in-Ok-push.ensures.items) (zip_more (AreRowsIn feeds) c.args.tickets.now.items had.0 ticket rows had.1 at),
      subst (g.K.RowSink.stands c.read_block.new.sink) (sym (flat_more had.0 rows)) read.2,
    )
