use Rattle.std.proofs.Common.{Err}
use Rattle.fkv_store.proofs.MoveLemmas.{flush_told}
use Rattle.fkv_store.proofs.stores.Store.flush.Goals as goal

pub untaken-requires : goal.untaken-requires
untaken-requires g c = flush_told _ _ _ _ _ _ (Err c.in-Err-flush_done.refused) c.in-Err-flush_done.ensures.effect
