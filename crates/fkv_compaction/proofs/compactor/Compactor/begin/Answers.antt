use Rattle.std.proofs.Common.{refl}
use Rattle.fkv_compaction.specs.Compactor.{CompactsNext}
use Rattle.fkv_compaction.proofs.compactor.Compactor.begin.Goals as goal

pub returns-in-Err-clause-effect : goal.returns-in-Err-clause-effect
returns-in-Err-clause-effect g c = CompactsNext.refused c.in-Err.refused c.requires.none (rw c.self.view_is at c.in-Err.ensures.effect) refl

pub returns-in-Ok-clause-effect : goal.returns-in-Ok-clause-effect
returns-in-Ok-clause-effect g c = CompactsNext.issues c.in-Ok._context c.requires.none (rw c.self.view_is at c.in-Ok.ensures.effect) refl
