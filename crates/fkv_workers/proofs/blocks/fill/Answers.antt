use Rattle.std.proofs.Common.{⊎_elim, refl, sym, subst, ◌∙◌}
use Rattle.fkv_records.specs.Records.{size_of}
use Rattle.fkv_store.specs.Stores.{IsClosing}
use Rattle.fkv_workers.specs.Works.{IsRunnable, IsUnread}
use Rattle.fkv_workers.proofs.blocks.fill.Goals as goal

pub returns-clause-runnable : goal.returns-clause-runnable
returns-clause-runnable g c =
    subst (λ n. IsRunnable c.args.config.now (size_of 32 g.F.Value.Fixed.SIZE) c.args.workers n) (c.len.ensures ∙ c.args.feeds.now.ok.0)
    (c.if-not-is_runnable.ensures.0 refl)

pub returns-clause-good : goal.returns-clause-good
returns-clause-good g c k =
    subst (λ n. IsRunnable c.args.config.now (size_of 32 g.F.Value.Fixed.SIZE) c.args.workers n) (c.len.ensures ∙ c.args.feeds.now.ok.0)
    (c.if-not-is_runnable.ensures.0 refl)

pub returns-in-Err-run_workers-clause-refused : goal.returns-in-Err-run_workers-clause-refused
returns-in-Err-run_workers-clause-refused g c =
    ⊎_elim (λ told. IsUnread.told told) (λ rest. ⊎_elim (λ mismatch. IsUnread.unclosed (subst IsClosing (sym mismatch) tt)) (λ unread. IsUnread.unread unread) rest) c.in-Err-run_workers.ensures.refused
