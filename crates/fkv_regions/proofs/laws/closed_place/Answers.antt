use Rattle.fkv_regions.proofs.MoveLemmas.{mark-place, closed-flushed}
use Rattle.fkv_regions.proofs.laws.closed_place.Goals as goal

pub returns : goal.returns
returns c = record {
  place = λ s size shape h below. mark-place s.bits size s.offsets.closed shape h.in_order.closed_mark h.in_order.first below;
  flushed = λ s h. closed-flushed s h;
}
