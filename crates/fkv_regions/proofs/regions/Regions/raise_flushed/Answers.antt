use Rattle.fkv_regions.specs.Inside.{state_of}
use Rattle.fkv_regions.proofs.RegionLemmas.{regions-flushed}
use Rattle.fkv_regions.proofs.regions.Regions.raise_flushed.Goals as goal

pub invariant_of-self : goal.invariant_of-self
invariant_of-self c =
    let due = rw (← c.self.view_is) at c.requires in
    regions-flushed (state_of c.self.inside) c.args.page due.higher due.frozen c.self.invariant
