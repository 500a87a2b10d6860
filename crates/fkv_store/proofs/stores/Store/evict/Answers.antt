use Rattle.fkv_store.proofs.MoveLemmas.{evict_told}
use Rattle.fkv_store.proofs.stores.Store.evict.Goals as goal

pub passed-requires : goal.passed-requires
passed-requires g c = evict_told _ _ _ _ _ _ c.shift_head-shifted.result c.shift_head-shifted.ensures.effect
