use Rattle.fkv_local.proofs.OnwardLemmas.{refresh-onward}
use Rattle.fkv_local.proofs.moving.refresh.Goals as goal

pub returns-clause-onward : goal.returns-clause-onward
returns-clause-onward g c = refresh-onward c.refresh-refreshed.ensures.effect
