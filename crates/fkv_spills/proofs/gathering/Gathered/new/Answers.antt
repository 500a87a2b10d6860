use Rattle.std.proofs.Common.{[], sym, refl, subst}
use Rattle.fkv_spills.specs.Spilling.{AreSpilled}
use Rattle.fkv_spills.proofs.SpillLemmas.{gathered-all}
use Rattle.fkv_spills.proofs.gathering.Gathered.new.Goals as goal

pub returns : goal.returns
returns g c =
    gathered-all g.V.Fixed.codec g.R.Receipt.stands _ [] c.new-2.ensures.items refl
    (subst (λ ps. AreSpilled g.V.Fixed.codec g.R.Receipt.stands ps []) (sym c.new.ensures.items) refl)
