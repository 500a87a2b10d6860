use Rattle.fkv_store.proofs.MoveLemmas.{take_told}
use Rattle.fkv_store.proofs.stores.Store.take.Goals as goal

pub returns : goal.returns
returns g c = record { only = take_told _ c.flush_take.result c.flush_take.ensures.only }
