use Rattle.fkv_texts.proofs.CutLemmas.{cut-chained, cut-leads, cut-entry, cut-rising, cut-from, cut-below, cut-whole}
use Rattle.fkv_texts.proofs.laws.cut.Goals as goal

pub returns : goal.returns
returns g c = record {
  entry = cut-entry;
  rising = cut-rising;
  from = cut-from;
  below = cut-below;
  whole = cut-whole;
  chained = λ class same begin a text r le h. cut-chained class same begin a text r le h;
  leads = λ class same begin a text c b r le h. cut-leads class same begin a text r le c b h;
}
