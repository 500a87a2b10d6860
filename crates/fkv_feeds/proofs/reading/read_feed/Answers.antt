use Rattle.fkv_alone.specs.Causes.{CanFailToRead, CanFailToWrite}
use Rattle.fkv_feeds.specs.Faults.{IsDeviceFault}
use Rattle.fkv_feeds.proofs.FeedsLemmas.{devices-by, err_weaker, feed-told}
use Rattle.fkv_feeds.proofs.reading.read_feed.Goals as goal

pub returns-clause-told : goal.returns-clause-told
returns-clause-told g c =
    err_weaker _ c.read_feed.result
    (λ e t. feed-told (IsDeviceFault g.D.Receipt.Receipt.keeps g.D.Disk.failures g.D.Writer.PageWriter.failures g.D.Reader.PageReader.failures (CanFailToWrite g.D.Writer.PageWriter.next g.D.Writer.PageWriter.can_fail) (CanFailToRead g.D.Receipt.Receipt.stands g.D.Reader.PageReader.can_fail)) c.args.feed c.args.limit (g.S.Source.remaining c.args.source.now) (g.S.Source.failures c.args.source.now) (g.S.Source.failures c.read_feed.new.source) e
    (devices-by g.D.Receipt.Receipt.keeps g.D.Disk.failures g.D.Writer.PageWriter.failures g.D.Reader.PageReader.failures e) t)
    c.read_feed.ensures.told
