use Rattle.fkv_worlds.proofs.ResultLemmas.{ok_not_err, err_as}
use Rattle.fkv_worlds.proofs.HistoryLemmas.{recorded-begun}
use Rattle.fkv_worlds.proofs.worlds.World.new.Goals as goal

pub invariant_of-result : goal.invariant_of-result
invariant_of-result g c = recorded-begun _ c.args.config.now _ _ _ _ c.in-Ok.ensures.ok c.new-in-Ok.ensures.items c.new-in-Ok-2.ensures.items

pub returns-in-Ok-clause-good : goal.returns-in-Ok-clause-good
returns-in-Ok-clause-good g c = λ _. c.in-Ok.ensures.good ok_not_err

pub returns-in-Err-clause-good : goal.returns-in-Err-clause-good
returns-in-Err-clause-good g c = λ n. c.in-Err.ensures.good (λ e. n (err_as e))

pub returns-in-Err-clause-bad : goal.returns-in-Err-clause-bad
returns-in-Err-clause-bad g c = λ e. c.in-Err.ensures.bad (err_as e)

pub returns-in-Err-clause-only : goal.returns-in-Err-clause-only
returns-in-Err-clause-only g c = c.in-Err.ensures.only

pub returns-in-Ok-clause-ok : goal.returns-in-Ok-clause-ok
returns-in-Ok-clause-ok g c = λ i. record { state = c.in-Ok.ensures.ok i; steps = c.new-in-Ok.ensures.items i; outcomes = c.new-in-Ok-2.ensures.items i }

pub returns-in-Ok-clause-bad : goal.returns-in-Ok-clause-bad
returns-in-Ok-clause-bad g c = λ e. absurd (ok_not_err e)
