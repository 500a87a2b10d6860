use Rattle.std.proofs.Common.{◌≡◌, ◌++◌, ◌<◌, Some, slice_get, get_or, length, ◌∙◌, arith, length-append}
use Rattle.std.proofs.lemmas.Option.{slice_get-get_or}
use Rattle.fkv_alone.specs.Causes.{CanFailToRead, CanFailToWrite}
use Rattle.fkv_feeds.specs.Faults.{IsDeviceFault}
use Rattle.fkv_feeds.proofs.FeedsLemmas.{unread-here, unread-next, counts-kept, feeds-next, stopped}
use Rattle.fkv_feeds.proofs.running.read_feeds.Goals as goal

pub returns-in-Err-clause-told : goal.returns-in-Err-clause-told
returns-in-Err-clause-told g c =
    let old = c.loop-index.invariant in
    let i = c.loop-index.index in
    let x = get_or c.loop-index.feeds i c.index-feeds-index.result in
    let low : i < length c.loop-index.feeds = (let t = c.loop-index-test.true in let s = c.loop-index.auto.feeds in omega arith) in
    let here : slice_get c.loop-index.feeds i ≡ Some x = slice_get-get_or c.loop-index.feeds i c.index-feeds-index.result low in
    stopped g.S.Source.remaining g.S.Source.failures c.args.feeds.now i x (unread-here c.loop-index.feeds c.args.feeds.now i x old.unread here) old.so_far.0 old.so_far.1
    (IsDeviceFault g.D.Receipt.Receipt.keeps g.D.Disk.failures g.D.Writer.PageWriter.failures g.D.Reader.PageReader.failures (CanFailToWrite g.D.Writer.PageWriter.next g.D.Writer.PageWriter.can_fail) (CanFailToRead g.D.Receipt.Receipt.stands g.D.Reader.PageReader.can_fail)) c.loop-index.feeds c.read_feed.new.source c.in-Err.refused old.counts here c.in-Err.ensures.told

pub loop-index-preserved : goal.loop-index-preserved
loop-index-preserved g c =
    let old = c.loop-index.invariant in
    let i = c.loop-index.index in
    let x = get_or c.loop-index.feeds i c.index-feeds-index.result in
    let low : i < length c.loop-index.feeds = (let t = c.loop-index-test.true in let s = c.loop-index.auto.feeds in omega arith) in
    let here : slice_get c.loop-index.feeds i ≡ Some x = slice_get-get_or c.loop-index.feeds i c.index-feeds-index.result low in
    let found = c.in-Ok.ensures.ok old.so_far.0 old.so_far.2 in
    record {
      counts = counts-kept g.S.Source.failures c.loop-index.feeds i x c.read_feed.new.source here c.in-Ok.ensures.steady ∙ old.counts;
      unread = unread-next c.loop-index.feeds c.args.feeds.now i c.read_feed.new.source old.unread;
      so_far = (
        old.so_far.0 ++ found.0,
        feeds-next g.S.Source.remaining c.args.feeds.now i x old.so_far.0 found.0 (unread-here c.loop-index.feeds c.args.feeds.now i x old.unread here) old.so_far.1 found.1,
        found.2,
        (let so_far = old.so_far.3 in let one = found.3 in omega (arith, length-append old.so_far.0 found.0)),
      );
      kept = c.read_feed.ensures.kept ∙ old.kept;
      few = (let so_far = old.few in let one = c.in-Ok.ensures.within in omega arith);
    }
