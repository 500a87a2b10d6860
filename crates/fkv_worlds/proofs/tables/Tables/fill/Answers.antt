use Rattle.std.proofs.lemmas.Result.{on_ok_weaker}
use Rattle.fkv_worlds.proofs.tables.Tables.fill.Goals as goal

pub returns-clause-ok : goal.returns-clause-ok
returns-clause-ok g c = on_ok_weaker c.fill-4.result (λ h. record { begun = c.in-Ok.ensures.ok; questions = c.in-Ok-fill.ensures.ok; receipts = c.in-Ok-fill_empty.ensures.ok; seats = c.in-Ok-fill-2.ensures.ok; enters = h }) c.fill-4.ensures.ok
