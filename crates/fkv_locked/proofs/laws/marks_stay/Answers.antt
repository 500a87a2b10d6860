use Rattle.std.proofs.Common.{◌∙◌}
use Rattle.fkv_locked.proofs.MarkLemmas.{marks_stay}
use Rattle.fkv_locked.proofs.laws.marks_stay.Goals as goal

pub returns : goal.returns
returns g c = record {
  stays = λ operation start end from. marks_stay operation start from;
  low = λ operation issued last end e keeps count at marked from adds. adds.low_is ∙ (marks_stay operation issued from ∙ marked);
}
