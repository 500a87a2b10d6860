use Rattle.fkv_index.proofs.IndexMaps.{index_map}
use Rattle.fkv_index.proofs.index.Index.facts.Goals as goal

pub returns : goal.returns
returns c = rw (← c.self.view_is) (index_map _ c.self.invariant)
