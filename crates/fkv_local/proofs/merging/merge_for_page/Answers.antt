use Rattle.std.proofs.Common.{◌≡◌, ◌∙◌, ap, refl}
use Rattle.fkv_local.proofs.DriveLemmas.{stopped-from}
use Rattle.fkv_local.proofs.MergeLemmas.{merge-stopped}
use Rattle.fkv_local.proofs.merging.merge_for_page.Goals.{then-not-may_need_page+in-Ok-None, else-not-may_need_page}
use Rattle.fkv_local.proofs.merging.merge_for_page.Goals as goal

pub returns-in-Err-run_in_memory-clause-told : goal.returns-in-Err-run_in_memory-clause-told
returns-in-Err-run_in_memory-clause-told g c = λ reads.
    let same : g.D.Writer.PageWriter.failures c.if-not-may_need_page.part.writer ≡ g.D.Writer.PageWriter.failures c.args.part.now.writer =
    elim c.if-not-may_need_page.branch [
      | then-not-may_need_page+in-Ok-None w ↦ ap (λ part. g.D.Writer.PageWriter.failures part.writer) w.part-is ∙ w.in-Ok-None.ensures.steady w.in-Ok-None.field-0-is
      | else-not-may_need_page w ↦ ap (λ part. g.D.Writer.PageWriter.failures part.writer) w.part-is
    ] in
    stopped-from same refl (merge-stopped c.requires.merging (c.in-Err-run_in_memory.ensures.told reads))
