use Rattle.fkv_store.proofs.StopLemmas.{tidy_told}
use Rattle.fkv_workers.proofs.keeping.keep_one.Goals as goal

pub returns-in-Err : goal.returns-in-Err
returns-in-Err g c = tidy_told _ _ _ c.in-Err.ensures.only
