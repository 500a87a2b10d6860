use Rattle.std.proofs.Common.{sym, ap, ◌∙◌}
use Rattle.fkv_texts.specs.declared.entries.Entry.{Entry}
use Rattle.fkv_partition.proofs.DecidedLemmas.{found-same}
use Rattle.fkv_partition.proofs.looking.is_delta.Goals as goal

pub returns-in-Found : goal.returns-in-Found
returns-in-Found g c = (
  (λ delta. (c.in-Found.last, c.in-Found.is, delta)),
  (λ h. ap (λ (e : Entry _ _). e.delta) (found-same c.in-Found.last h.0 (sym c.in-Found.is ∙ h.1)) ∙ h.2),
)
