use Rattle.fkv_epoch.proofs.RunLemmas.{once-in-order}
use Rattle.fkv_epoch.proofs.laws.once_in_order.Goals as goal

pub returns : goal.returns
returns c = once-in-order
