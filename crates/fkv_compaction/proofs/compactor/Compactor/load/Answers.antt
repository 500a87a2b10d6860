use Rattle.std.proofs.Common.{inl, inr}
use Rattle.std.proofs.lemmas.Result.{IfOk-weaker, IfErr-weaker}
use Rattle.fkv_compaction.specs.Compactor.{IsInTurn, CompactsLoad}
use Rattle.fkv_compaction.proofs.compactor.Compactor.load.Goals as goal

pub returns-in-Some-clause-effect : goal.returns-in-Some-clause-effect
returns-in-Some-clause-effect g c = rw (← c.self.view_is) (CompactsLoad.loads c.in-Some.context c.in-Some.ensures c.load.ensures.effect)

pub returns-in-Some-clause-event : goal.returns-in-Some-clause-event
returns-in-Some-clause-event g c =
    rw (← c.self.view_is)
    (IfOk-weaker c.load.result _ _
    (λ moved event. record { context = c.in-Some.context; taken = IsInTurn.goes_on c.in-Some.ensures; event = event })
    (c.load.ensures.relocating c.in-Some.ensures.0))

pub returns-in-Some-clause-fails : goal.returns-in-Some-clause-fails
returns-in-Some-clause-fails g c =
    rw (← c.self.view_is)
    (IfErr-weaker c.load.result _ _
    (λ refused fails. elim fails [
      | inl same ↦ inl same
      | inr gone ↦ inr (c.in-Some.context, c.in-Some.ensures, gone)
    ])
    c.load.ensures.fails)
