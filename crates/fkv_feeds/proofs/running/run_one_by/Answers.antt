use Rattle.std.proofs.Common.{map, refl, ◌∙◌}
use Rattle.std.proofs.lemmas.Result.{IfOk-weaker}
use Rattle.fkv_alone.specs.Causes.{CanFailToRead, CanFailToWrite}
use Rattle.fkv_feeds.specs.Faults.{IsDeviceFault}
use Rattle.fkv_feeds.specs.Tables.{IsTableOf}
use Rattle.fkv_feeds.proofs.FeedsLemmas.{both_ok, devices-by, ended-by, stopped-by, why_none, err_weaker}
use Rattle.fkv_feeds.proofs.running.run_one_by.Goals as goal

pub returns-in-Ok-read_feeds-clause-ok : goal.returns-in-Ok-read_feeds-clause-ok
returns-in-Ok-read_feeds-clause-ok g c =
    let found = c.in-Ok-read_feeds.ensures.ok in
    λ keeps. both_ok (λ run. IsTableOf g.F.Functions.meaning (map g.S.Source.remaining c.args.feeds.now) run.table) c.finish.result (c.finish.ensures.value keeps) c.finish.ensures.rising
    (λ run value rising. record {
      rows = found.0;
      read = found.1;
      value = value found.0 found.2;
      rising = rising;
    })

pub returns-in-Err-clause-told : goal.returns-in-Err-clause-told
returns-in-Err-clause-told g c =
    let fault = IsDeviceFault.unopened c.args.device c.opened.new.device c.in-Err.ensures.told in
    why_none (IsDeviceFault g.D.Receipt.Receipt.keeps g.D.Disk.failures g.D.Writer.PageWriter.failures g.D.Reader.PageReader.failures (CanFailToWrite g.D.Writer.PageWriter.next g.D.Writer.PageWriter.can_fail) (CanFailToRead g.D.Receipt.Receipt.stands g.D.Reader.PageReader.can_fail)) c.args.config.now _ (map g.S.Source.remaining c.args.feeds.now) (map g.S.Source.failures c.args.feeds.now) (map g.S.Source.failures c.args.feeds.now) c.in-Err.refused
    (stopped-by (IsDeviceFault g.D.Receipt.Receipt.keeps g.D.Disk.failures g.D.Writer.PageWriter.failures g.D.Reader.PageReader.failures (CanFailToWrite g.D.Writer.PageWriter.next g.D.Writer.PageWriter.can_fail) (CanFailToRead g.D.Receipt.Receipt.stands g.D.Reader.PageReader.can_fail)) (map g.S.Source.remaining c.args.feeds.now) (map g.S.Source.failures c.args.feeds.now) (map g.S.Source.failures c.args.feeds.now) c.in-Err.refused refl fault
    (devices-by g.D.Receipt.Receipt.keeps g.D.Disk.failures g.D.Writer.PageWriter.failures g.D.Reader.PageReader.failures c.in-Err.refused fault))

pub returns-in-Ok-read_feeds-clause-told : goal.returns-in-Ok-read_feeds-clause-told
returns-in-Ok-read_feeds-clause-told g c =
    err_weaker _ c.finish.result
    (λ e h. why_none (IsDeviceFault g.D.Receipt.Receipt.keeps g.D.Disk.failures g.D.Writer.PageWriter.failures g.D.Reader.PageReader.failures (CanFailToWrite g.D.Writer.PageWriter.next g.D.Writer.PageWriter.can_fail) (CanFailToRead g.D.Receipt.Receipt.stands g.D.Reader.PageReader.can_fail)) c.args.config.now _ (map g.S.Source.remaining c.args.feeds.now) (map g.S.Source.failures c.args.feeds.now) (map g.S.Source.failures c.read_feeds.new.feeds) e
    (let fault = ended-by g.D.Receipt.Receipt.keeps g.D.Disk.failures g.D.Writer.PageWriter.failures g.D.Reader.PageReader.failures c.args.device e h in
    stopped-by (IsDeviceFault g.D.Receipt.Receipt.keeps g.D.Disk.failures g.D.Writer.PageWriter.failures g.D.Reader.PageReader.failures (CanFailToWrite g.D.Writer.PageWriter.next g.D.Writer.PageWriter.can_fail) (CanFailToRead g.D.Receipt.Receipt.stands g.D.Reader.PageReader.can_fail)) (map g.S.Source.remaining c.args.feeds.now) (map g.S.Source.failures c.args.feeds.now) (map g.S.Source.failures c.read_feeds.new.feeds) e c.in-Ok-read_feeds.ensures.steady fault
    (devices-by g.D.Receipt.Receipt.keeps g.D.Disk.failures g.D.Writer.PageWriter.failures g.D.Reader.PageReader.failures e fault)))
    c.finish.ensures.told

pub returns-in-Ok-read_feeds-clause-counted : goal.returns-in-Ok-read_feeds-clause-counted
returns-in-Ok-read_feeds-clause-counted g c =
    let found = c.in-Ok-read_feeds.ensures.ok in
    IfOk-weaker c.finish.result _ _ (λ run same. (found.0, found.1, same ∙ found.3)) c.finish.ensures.counted
