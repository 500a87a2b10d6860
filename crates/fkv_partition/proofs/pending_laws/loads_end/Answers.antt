use Rattle.fkv_partition.proofs.StayLemmas.{loads-others, fails-whole}
use Rattle.fkv_partition.proofs.pending_laws.loads_end.Goals as goal

pub returns : goal.returns
returns g c = record {
  loads = λ old new slot at came now result h. loads-others _ _ _ _ _ old new slot at now came result h;
  fails = λ old new slot at came now why h. fails-whole _ _ _ _ _ old new slot at now came why h;
}
