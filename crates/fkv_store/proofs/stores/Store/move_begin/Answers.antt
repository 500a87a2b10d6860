use Rattle.fkv_store.proofs.MoveLemmas.{cut_told}
use Rattle.fkv_store.proofs.stores.Store.move_begin.Goals as goal

pub returns : goal.returns
returns g c = record { only = cut_told _ _ _ _ _ _ c.truncate_cleared.result c.truncate_cleared.ensures.effect }
