use Rattle.fkv_partition.proofs.MergeLemmas.{merge-goes, merge-installs}
use Rattle.fkv_partition.proofs.laws.merges_go_on.Goals as goal

pub returns-clause-goes : goal.returns-clause-goes
returns-clause-goes g c = λ keeps stands cmp join f code old new slot at now x k i progress sound compacting here is goes.
    merge-goes cmp join code old slot at compacting x k i here is f new now stands progress
    (λ y h m. c.merges_ask_nothing.ensures.goes keeps stands cmp join f code old new slot at now y progress sound h m)
    goes

pub returns-clause-installs : goal.returns-clause-installs
returns-clause-installs g c = λ keeps cmp join f code old new slot at ask now x k i result sound compacting here is installs.
    merge-installs cmp join code old slot at compacting x k i here is f new ask now result
    (λ y h m. c.merges_ask_nothing.ensures.installs keeps cmp join f code old new slot at ask now y result sound h m)
    installs
