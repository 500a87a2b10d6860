use Rattle.fkv_spills.proofs.GroupedLemmas.{grouped-none}
use Rattle.fkv_spills.proofs.groups.ReadGroups.new.Goals as goal

pub returns : goal.returns
returns g c = grouped-none g.P.ReadPairs.holds _ c.new.ensures.items c.new-2.ensures.items
