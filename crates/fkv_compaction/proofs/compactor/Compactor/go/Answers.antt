use Rattle.fkv_compaction.specs.Compactor.{CompactsNext}
use Rattle.fkv_compaction.proofs.compactor.Compactor.go.Goals as goal

pub returns-clause-effect : goal.returns-clause-effect
returns-clause-effect g c = CompactsNext.goes_on c.args.context c.requires.open (rw c.self.view_is at c.go.ensures.effect)
