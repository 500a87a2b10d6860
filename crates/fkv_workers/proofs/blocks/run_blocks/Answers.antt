use Rattle.std.proofs.Common.{◌≡◌, Err, ap, map}
use Rattle.fkv_feeds.specs.Tables.{IsTableOf}
use Rattle.fkv_functions.specs.declared.refusals.Refused.TheVariants.{BadConfig}
use Rattle.fkv_store.specs.Stores.{IsClosing}
use Rattle.fkv_workers.specs.Works.{IsMadeOf, IsUnread}
use Rattle.fkv_workers.proofs.BlockLemmas.{on_err, on_ok}
use Rattle.fkv_workers.proofs.blocks.run_blocks.Goals as goal

pub returns-clause-ok : goal.returns-clause-ok
returns-clause-ok g c keeps held =
    let shared = c.in-Ok.ensures.shared keeps in
    on_ok c.tabled.result _ (λ run. IsTableOf g.F.Functions.meaning (map g.S.Source.remaining c.args.feeds.now.items) run.table) (c.tabled.ensures.table keeps held)
    (λ run table. table (map g.S.Source.remaining c.args.feeds.now.items) shared.shares shared.fed shared.kept)

pub returns-clause-made : goal.returns-clause-made
returns-clause-made g c keeps held =
    on_ok c.tabled.result _ (λ run. IsMadeOf g.F.Functions.meaning g.F.Functions.code c.args.mode (map g.S.Source.remaining c.args.feeds.now.items) run.table run.counts.rows) (c.tabled.ensures.closed keeps held)
    (λ run closed. record { passes = c.in-Ok.filled.passes.items; histories = closed.0; shared = c.in-Ok.ensures.shared keeps; closed = closed.1 })

pub returns-clause-refused : goal.returns-clause-refused
returns-clause-refused g c = on_err c.tabled.result IsClosing _ c.tabled.ensures.only (λ e closing. IsUnread.unclosed closing)

pub returns-in-Err-clause-good : goal.returns-in-Err-clause-good
returns-in-Err-clause-good g c k =
    c.in-Err.ensures.good (λ e. let same : c.in-Err.refused ≡ BadConfig = cc in k (ap Err same))
