use Rattle.fkv_epoch.proofs.SeenLemmas.{seen-first}
use Rattle.fkv_epoch.proofs.laws.seen_first.Goals as goal

pub returns : goal.returns
returns c = seen-first
