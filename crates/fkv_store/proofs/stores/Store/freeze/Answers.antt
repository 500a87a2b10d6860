use Rattle.std.proofs.Common.{Err}
use Rattle.fkv_store.proofs.MoveLemmas.{shift_told}
use Rattle.fkv_store.proofs.stores.Store.freeze.Goals as goal

pub passed-requires : goal.passed-requires
passed-requires g c = shift_told _ _ _ _ _ _ (Err c.in-Err.refused) c.in-Err.ensures.effect
