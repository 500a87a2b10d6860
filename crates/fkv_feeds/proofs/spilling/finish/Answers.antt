use Rattle.std.proofs.Common.{◌∙◌}
use Rattle.fkv_feeds.proofs.spilling.finish.Goals as goal

pub returns-clause-ok : goal.returns-clause-ok
returns-clause-ok g c keeps =
    let t = c.in-Ok.ensures.ok keeps in
    (t.0, t.1, t.2, t.3, λ rows stands k. t.4 k ∙ c.into_lists.ensures.map k ∙ stands keeps k)
