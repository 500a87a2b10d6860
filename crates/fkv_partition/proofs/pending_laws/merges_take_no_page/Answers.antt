use Rattle.fkv_partition.proofs.KeyMergeLemmas.{merge-loads}
use Rattle.fkv_partition.proofs.pending_laws.merges_take_no_page.Goals as goal

pub returns : goal.returns
returns g c = λ keeps join code old new slot at came now x result s h m loads.
    merge-loads g.F.Key.Ord.cmp join g.F.Functions.meaning code old new slot at now x s h m _ _ came result loads
