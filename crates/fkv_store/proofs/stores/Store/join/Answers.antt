use Rattle.std.proofs.Common.{Err}
use Rattle.fkv_store.proofs.MoveLemmas.{enter_told}
use Rattle.fkv_store.proofs.stores.Store.join.Goals as goal

pub returns : goal.returns
returns g c = record { only = enter_told g.D.Receipt.Receipt.keeps _ _ _ _ (Err c.in-Err.refused) c.in-Err.ensures.effect }
