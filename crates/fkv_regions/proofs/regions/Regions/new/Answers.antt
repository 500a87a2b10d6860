use Rattle.fkv_regions.proofs.RegionLemmas.{regions-fresh}
use Rattle.fkv_regions.proofs.regions.Regions.new.Goals as goal

pub invariant_of-result : goal.invariant_of-result
invariant_of-result c = rw (c.from.ensures.0, c.new.ensures, c.view.ensures) (regions-fresh c.args.shape.page_bits c.args.shape.limits.low)
