use Rattle.fkv_epoch.proofs.SafeLemmas.{safe-by-test}
use Rattle.fkv_epoch.proofs.laws.safe_by_test.Goals as goal

pub returns : goal.returns
returns c = safe-by-test
