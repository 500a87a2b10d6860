use Rattle.std.proofs.Common.{rules}
use Rattle.fkv_feed_rows.proofs.ReadingLemmas.{err_weaker, feed-told}
use Rattle.fkv_feed_rows.proofs.reading.read_feed.Goals as goal

pub returns-clause-told : goal.returns-clause-told
returns-clause-told g c =
    err_weaker _ c.read_lent-ended.result.told
    (λ e t. feed-told g.K.RowSink.fault c.args.feed c.args.limit (g.S.Source.remaining c.args.source.now) (g.S.Source.failures c.args.source.now) (g.S.Source.failures c.source-2-1.given.0) e (search rules) t)
    c.read_lent-ended.ensures.told
