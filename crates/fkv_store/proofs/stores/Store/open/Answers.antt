use Rattle.std.proofs.Common.{rules}
use Rattle.fkv_store.proofs.stores.Store.open.Goals as goal

pub returns-clause-good : goal.returns-clause-good
returns-clause-good g c = λ n. c.if-not-is_within_limits.ensures.0 (search rules)
