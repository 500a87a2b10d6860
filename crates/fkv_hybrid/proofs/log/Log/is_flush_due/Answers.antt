use Rattle.fkv_hybrid.proofs.FlushLemmas.{waits_test}
use Rattle.fkv_hybrid.proofs.log.Log.is_flush_due.Goals as goal

pub returns-clause-waits : goal.returns-clause-waits
returns-clause-waits g c = rw (← c.self.view_is) (waits_test c.self.inside.frames _ _ _ _ (rw (← c.self.view_is) at c.unflushed.ensures) (rw c.offsets.ensures at c.page_of.ensures))
