use Rattle.std.proofs.lemmas.Result.{IfOk-weaker}
use Rattle.fkv_worlds.proofs.replays.run.Goals as goal

pub returns-in-Ok-clause-ok : goal.returns-in-Ok-clause-ok
returns-in-Ok-clause-ok g c = IfOk-weaker c.report.result _ _ (λ v h. (c.in-Ok.ensures.ok, h)) c.report.ensures.ok
