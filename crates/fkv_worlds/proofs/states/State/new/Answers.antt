use Rattle.std.proofs.Common.{◌≡◌, inr}
use Rattle.std.proofs.lemmas.Result.{IfErr-weaker}
use Rattle.fkv_functions.specs.declared.refusals.Refused.TheVariants.{BadConfig, NoMemory}
use Rattle.fkv_worlds.proofs.states.State.new.Goals as goal

pub returns-clause-ok : goal.returns-clause-ok
returns-clause-ok g c = c.empty.ensures.ok

pub returns-clause-good : goal.returns-clause-good
returns-clause-good g c = λ _. c.is_within_limits.ensures.0 c.if-not-is_within_limits.false

pub returns-clause-bad : goal.returns-clause-bad
returns-clause-bad g c = λ e. absurd (let h : BadConfig ≡ NoMemory = rw e at c.empty.ensures.only in cc)

pub returns-clause-only : goal.returns-clause-only
returns-clause-only g c = IfErr-weaker c.empty.result _ _ (λ e h. inr h) c.empty.ensures.only
