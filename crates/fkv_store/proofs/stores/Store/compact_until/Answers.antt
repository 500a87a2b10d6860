use Rattle.std.proofs.Common.{inr}
use Rattle.fkv_store.proofs.MoveLemmas.{unopened_uncompacted, unentered_uncompacted, unrelocated_uncompacted, worn_uncompacted, unopened_on, unentered_on, worn_on}
use Rattle.fkv_store.proofs.stores.Store.compact_until.Goals as goal

pub returns-in-Err-clause-only : goal.returns-in-Err-clause-only
returns-in-Err-clause-only g c = inr (unopened_uncompacted _ c.in-Err.ensures.only)

pub returns-in-Err-join-clause-only : goal.returns-in-Err-join-clause-only
returns-in-Err-join-clause-only g c = inr (unentered_uncompacted _ c.in-Err-join.ensures.only)
