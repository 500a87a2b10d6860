use Rattle.fkv_partition.proofs.KeyMergeLemmas.{merge-goes, merge-installs}
use Rattle.fkv_partition.proofs.pending_laws.merges_ask_nothing.Goals as goal

pub returns : goal.returns
returns g c = record {
  goes = λ keeps stands cmp join f code old new slot at now x progress s h m goes. merge-goes cmp join f code old new slot at now x s h m stands progress goes;
  installs = λ keeps cmp join f code old new slot at ask now x result s h m installs. merge-installs cmp join f code old new slot at now x s h m ask result installs;
}
