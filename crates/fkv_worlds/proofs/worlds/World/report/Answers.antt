use Rattle.std.proofs.Common.{◌∙◌, ap}
use Rattle.std.specs.BTreeMap.{is_at}
use Rattle.std.specs.Map.{lookup}
use Rattle.std.proofs.lemmas.Result.{IfOk-weaker}
use Rattle.fkv_worlds.proofs.worlds.World.report.Goals as goal

pub returns-in-Ok-clause-ok : goal.returns-in-Ok-clause-ok
returns-in-Ok-clause-ok g c =
    rw (← c.self.view_is) (IfOk-weaker c.report_of.result _ _
    (λ r h. record {
      outcomes = h.0 ∙ c.deref.ensures.value;
      lives = h.1 ∙ c.lives.ensures;
      map = λ k. ap (lookup (is_at (g.F.Key.Ord.cmp k))) h.2 ∙ c.in-Ok.ensures.map k;
      rising = rw h.2 c.in-Ok.ensures.rising;
    }) c.report_of.ensures.ok)
