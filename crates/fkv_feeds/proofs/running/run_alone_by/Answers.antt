use Rattle.std.proofs.Common.{◌≡◌, [], ◌∷◌, refl, sym, ap, ◌∙◌}
use Rattle.std.proofs.lemmas.List.{append-nil}
use Rattle.std.proofs.lemmas.Result.{IfOk-weaker}
use Rattle.fkv_alone.specs.Causes.{CanFailToRead, CanFailToWrite}
use Rattle.fkv_feeds.specs.Faults.{IsDeviceFault}
use Rattle.fkv_feeds.specs.Tables.{IsTableOf}
use Rattle.fkv_feeds.proofs.FeedsLemmas.{stopped, devices-by, ended-by, stopped-by, why_none, both_ok, err_weaker}
use Rattle.fkv_feeds.proofs.running.run_alone_by.Goals as goal

pub returns-in-Ok-read_feed-clause-ok : goal.returns-in-Ok-read_feed-clause-ok
returns-in-Ok-read_feed-clause-ok g c =
    let found = c.in-Ok-read_feed.ensures.ok [] c.in-Ok.ensures.stands in
    λ keeps. both_ok (λ run. IsTableOf g.F.Functions.meaning (g.S.Source.remaining c.args.feed.now ∷ []) run.table) c.finish.result (c.finish.ensures.value keeps) c.finish.ensures.rising
    (λ run value rising. record {
      rows = found.0;
      read = (found.0, [], found.1, refl, sym (append-nil found.0));
      value = value found.0 found.2;
      rising = rising;
    })

pub returns-clause-told : goal.returns-clause-told
returns-clause-told g c =
    why_none (IsDeviceFault g.D.Receipt.Receipt.keeps g.D.Disk.failures g.D.Writer.PageWriter.failures g.D.Reader.PageReader.failures (CanFailToWrite g.D.Writer.PageWriter.next g.D.Writer.PageWriter.can_fail) (CanFailToRead g.D.Receipt.Receipt.stands g.D.Reader.PageReader.can_fail)) c.args.config.now _ (g.S.Source.remaining c.args.feed.now ∷ []) (g.S.Source.failures c.args.feed.now ∷ []) (g.S.Source.failures c.read_feed.new.source ∷ []) c.in-Err-read_feed.refused
    (stopped g.S.Source.remaining g.S.Source.failures (c.args.feed.now ∷ []) 0 c.args.feed.now refl [] refl (IsDeviceFault g.D.Receipt.Receipt.keeps g.D.Disk.failures g.D.Writer.PageWriter.failures g.D.Reader.PageReader.failures (CanFailToWrite g.D.Writer.PageWriter.next g.D.Writer.PageWriter.can_fail) (CanFailToRead g.D.Receipt.Receipt.stands g.D.Reader.PageReader.can_fail)) (c.args.feed.now ∷ []) c.read_feed.new.source c.in-Err-read_feed.refused refl refl c.in-Err-read_feed.ensures.told)

pub returns-in-Err-clause-told : goal.returns-in-Err-clause-told
returns-in-Err-clause-told g c =
    let fault = IsDeviceFault.unopened c.args.device c.opened.new.device c.in-Err.ensures.told in
    let counts = g.S.Source.failures c.args.feed.now ∷ [] in
    why_none (IsDeviceFault g.D.Receipt.Receipt.keeps g.D.Disk.failures g.D.Writer.PageWriter.failures g.D.Reader.PageReader.failures (CanFailToWrite g.D.Writer.PageWriter.next g.D.Writer.PageWriter.can_fail) (CanFailToRead g.D.Receipt.Receipt.stands g.D.Reader.PageReader.can_fail)) c.args.config.now _ (g.S.Source.remaining c.args.feed.now ∷ []) counts counts c.in-Err.refused
    (stopped-by (IsDeviceFault g.D.Receipt.Receipt.keeps g.D.Disk.failures g.D.Writer.PageWriter.failures g.D.Reader.PageReader.failures (CanFailToWrite g.D.Writer.PageWriter.next g.D.Writer.PageWriter.can_fail) (CanFailToRead g.D.Receipt.Receipt.stands g.D.Reader.PageReader.can_fail)) (g.S.Source.remaining c.args.feed.now ∷ []) counts counts c.in-Err.refused refl fault
    (devices-by g.D.Receipt.Receipt.keeps g.D.Disk.failures g.D.Writer.PageWriter.failures g.D.Reader.PageReader.failures c.in-Err.refused fault))

pub returns-in-Ok-read_feed-clause-told : goal.returns-in-Ok-read_feed-clause-told
returns-in-Ok-read_feed-clause-told g c =
    let feeds = g.S.Source.remaining c.args.feed.now ∷ [] in
    let old = g.S.Source.failures c.args.feed.now ∷ [] in
    let new = g.S.Source.failures c.read_feed.new.source ∷ [] in
    let same : new ≡ old = ap (λ n. n ∷ []) c.in-Ok-read_feed.ensures.steady in
    err_weaker _ c.finish.result
    (λ e h. why_none (IsDeviceFault g.D.Receipt.Receipt.keeps g.D.Disk.failures g.D.Writer.PageWriter.failures g.D.Reader.PageReader.failures (CanFailToWrite g.D.Writer.PageWriter.next g.D.Writer.PageWriter.can_fail) (CanFailToRead g.D.Receipt.Receipt.stands g.D.Reader.PageReader.can_fail)) c.args.config.now _ feeds old new e
    (let fault = ended-by g.D.Receipt.Receipt.keeps g.D.Disk.failures g.D.Writer.PageWriter.failures g.D.Reader.PageReader.failures c.args.device e h in
    stopped-by (IsDeviceFault g.D.Receipt.Receipt.keeps g.D.Disk.failures g.D.Writer.PageWriter.failures g.D.Reader.PageReader.failures (CanFailToWrite g.D.Writer.PageWriter.next g.D.Writer.PageWriter.can_fail) (CanFailToRead g.D.Receipt.Receipt.stands g.D.Reader.PageReader.can_fail)) feeds old new e same fault
    (devices-by g.D.Receipt.Receipt.keeps g.D.Disk.failures g.D.Writer.PageWriter.failures g.D.Reader.PageReader.failures e fault)))
    c.finish.ensures.told

pub returns-in-Ok-read_feed-clause-counted : goal.returns-in-Ok-read_feed-clause-counted
returns-in-Ok-read_feed-clause-counted g c =
    let found = c.in-Ok-read_feed.ensures.ok [] c.in-Ok.ensures.stands in
    IfOk-weaker c.finish.result _ _ (λ run same. (found.0, (found.0, [], found.1, refl, sym (append-nil found.0)), same ∙ found.3)) c.finish.ensures.counted
