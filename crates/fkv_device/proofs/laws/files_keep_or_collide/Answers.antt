use Rattle.fkv_device.proofs.KnownLemmas.{collision, no_collision}
use Rattle.fkv_device.proofs.laws.files_keep_or_collide.Goals as goal

pub returns-clause-collide : goal.returns-clause-collide
returns-clause-collide c = collision

pub returns-clause-keep : goal.returns-clause-keep
returns-clause-keep c = no_collision
