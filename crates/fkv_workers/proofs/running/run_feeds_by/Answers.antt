use Rattle.std.proofs.Common.{⊎_elim, refl, map, subst, ◌∙◌}
use Rattle.fkv_records.specs.Records.{size_of}
use Rattle.fkv_feeds.specs.Tables.{IsTableOf}
use Rattle.fkv_store.specs.Stores.{IsClosing}
use Rattle.fkv_workers.specs.Works.{IsFirst, IsMadeBy, IsRunnable, IsUnmade}
use Rattle.fkv_workers.proofs.BlockLemmas.{on_err, on_ok}
use Rattle.fkv_workers.proofs.running.run_feeds_by.Goals as goal

pub returns-clause-ok : goal.returns-clause-ok
returns-clause-ok g c keeps held =
    let shared = (c.in-Ok-run_workers.ensures.ok keeps).shared in
    on_ok c.tabled.result _ (λ run. IsTableOf g.F.Functions.meaning (map g.S.Source.remaining c.args.feeds.items) run.table) (c.tabled.ensures.table keeps held)
    (λ run table. table (map g.S.Source.remaining c.args.feeds.items) shared.shares shared.fed shared.kept)

pub returns-clause-made : goal.returns-clause-made
returns-clause-made g c keeps held =
    on_ok c.tabled.result _ (λ run. IsMadeBy g.F.Functions.meaning g.F.Functions.code c.args.mode (map g.S.Source.remaining c.args.feeds.items) run.table run.counts.rows) (c.tabled.ensures.closed keeps held)
    (λ run closed. record { passes = c.in-Ok-run_workers.fed.passes.items; histories = closed.0; fed = rw (← c.in-Ok-run_workers.ensures.mode) (c.in-Ok-run_workers.ensures.ok keeps); closed = closed.1 })

pub returns-clause-ran : goal.returns-clause-ran
returns-clause-ran g c = rw c.in-Ok-run_workers.ensures.mode at c.tabled.ensures.ran

pub returns-clause-good : goal.returns-clause-good
returns-clause-good g c k =
    subst (λ n. IsRunnable c.args.config.now (size_of 32 g.F.Value.Fixed.SIZE) c.args.workers n) (c.len.ensures ∙ c.args.feeds.ok.0)
    (c.if-not-is_runnable.ensures.0 refl)

pub returns-clause-refused : goal.returns-clause-refused
returns-clause-refused g c = on_err c.tabled.result IsClosing _ c.tabled.ensures.only (λ e closing. IsUnmade.unclosed closing)

pub returns-clause-first : goal.returns-clause-first
returns-clause-first g c = on_err c.tabled.result IsClosing _ c.tabled.ensures.only (λ e closing. IsFirst.closing c.in-Ok-run_workers.ensures.read closing)

pub returns-in-Err-run_workers-clause-refused : goal.returns-in-Err-run_workers-clause-refused
returns-in-Err-run_workers-clause-refused g c =
    ⊎_elim (λ told. IsUnmade.told told) (λ unread. IsUnmade.unread unread.0 unread.1 unread.2) c.in-Err-run_workers.ensures.refused

pub returns-in-Err-run_workers-clause-first : goal.returns-in-Err-run_workers-clause-first
returns-in-Err-run_workers-clause-first g c = c.in-Err-run_workers.ensures.first
