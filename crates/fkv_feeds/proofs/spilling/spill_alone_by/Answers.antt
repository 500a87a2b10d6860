use Rattle.std.proofs.Common.{[], ◌∷◌, refl, sym, ap, ◌∙◌}
use Rattle.std.proofs.lemmas.List.{append-nil}
use Rattle.std.proofs.lemmas.Result.{IfOk-weaker, IfErr-weaker}
use Rattle.fkv_alone.specs.Causes.{CanFailToRead, CanFailToWrite}
use Rattle.fkv_feeds.specs.Faults.{IsDeviceFault}
use Rattle.fkv_feeds.proofs.FeedsLemmas.{stopped}
use Rattle.fkv_feeds.proofs.SpilledLemmas.{opened-told, read-told, ended-told}
use Rattle.fkv_feeds.proofs.spilling.spill_alone_by.Goals as goal

pub returns-in-Ok-read_feed-clause-ok : goal.returns-in-Ok-read_feed-clause-ok
returns-in-Ok-read_feed-clause-ok g c =
    let found = c.in-Ok-read_feed.ensures.ok [] c.in-Ok.ensures.stands in
    λ keeps. IfOk-weaker c.finish.result _ _
    (λ run t. record {
      pairs = t.0;
      come = t.1;
      table = record { rows = found.0; read = (found.0, [], found.1, refl, sym (append-nil found.0)); value = t.4 found.0 found.2; rising = t.3 };
      counted = t.2;
    })
    (c.finish.ensures.ok keeps)

pub returns-in-Err-clause-told : goal.returns-in-Err-clause-told
returns-in-Err-clause-told g c =
    opened-told (CanFailToWrite g.D.Writer.PageWriter.next g.D.Writer.PageWriter.can_fail) (CanFailToRead g.D.Receipt.Receipt.stands g.D.Reader.PageReader.can_fail) g.D.Receipt.Receipt.keeps g.D.Disk.failures g.D.Writer.PageWriter.failures g.D.Reader.PageReader.failures c.args.config.now _
    (g.S.Source.remaining c.args.feed.now ∷ []) _ _ c.in-Err.refused c.args.device c.opened.new.device refl c.in-Err.ensures.told

pub returns-clause-told : goal.returns-clause-told
returns-clause-told g c =
    read-told (CanFailToWrite g.D.Writer.PageWriter.next g.D.Writer.PageWriter.can_fail) (CanFailToRead g.D.Receipt.Receipt.stands g.D.Reader.PageReader.can_fail) g.D.Receipt.Receipt.keeps g.D.Disk.failures g.D.Writer.PageWriter.failures g.D.Reader.PageReader.failures c.args.config.now _
    (g.S.Source.remaining c.args.feed.now ∷ []) _ _ c.in-Err-read_feed.refused
    (stopped g.S.Source.remaining g.S.Source.failures (c.args.feed.now ∷ []) 0 c.args.feed.now refl [] refl (IsDeviceFault g.D.Receipt.Receipt.keeps g.D.Disk.failures g.D.Writer.PageWriter.failures g.D.Reader.PageReader.failures (CanFailToWrite g.D.Writer.PageWriter.next g.D.Writer.PageWriter.can_fail) (CanFailToRead g.D.Receipt.Receipt.stands g.D.Reader.PageReader.can_fail)) (c.args.feed.now ∷ []) c.read_feed.new.source c.in-Err-read_feed.refused refl refl c.in-Err-read_feed.ensures.told)

pub returns-in-Ok-read_feed-clause-told : goal.returns-in-Ok-read_feed-clause-told
returns-in-Ok-read_feed-clause-told g c =
    IfErr-weaker c.finish.result _ _
    (λ e h. ended-told (CanFailToWrite g.D.Writer.PageWriter.next g.D.Writer.PageWriter.can_fail) (CanFailToRead g.D.Receipt.Receipt.stands g.D.Reader.PageReader.can_fail) g.D.Receipt.Receipt.keeps g.D.Disk.failures g.D.Writer.PageWriter.failures g.D.Reader.PageReader.failures c.args.config.now _
    (g.S.Source.remaining c.args.feed.now ∷ []) _ _ e (ap (λ n. n ∷ []) c.in-Ok-read_feed.ensures.steady) h)
    c.finish.ensures.told

pub returns-in-Ok-read_feed-clause-counted : goal.returns-in-Ok-read_feed-clause-counted
returns-in-Ok-read_feed-clause-counted g c =
    let found = c.in-Ok-read_feed.ensures.ok [] c.in-Ok.ensures.stands in
    IfOk-weaker c.finish.result _ _ (λ run same. (found.0, (found.0, [], found.1, refl, sym (append-nil found.0)), same ∙ found.3)) c.finish.ensures.counted
