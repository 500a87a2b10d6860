use Rattle.std.proofs.Common.{sym, refl, subst}
use Rattle.fkv_spills.specs.Reading.{AreHeld}
use Rattle.fkv_spills.proofs.merging.ReadMerge.new.Goals as goal

pub returns : goal.returns
returns g c lists h = record {
  lists = lists;
  held = h;
  is_first = c.first_place-first.ensures lists (subst (λ r. AreHeld g.P.ReadPairs.holds r lists) (sym c.as_slice.ensures.value) h);
  together = refl;
}
