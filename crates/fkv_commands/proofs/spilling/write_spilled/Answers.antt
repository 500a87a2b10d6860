use Rattle.fkv_commands.proofs.SpillingLemmas.{merged-pages}
use Rattle.fkv_commands.proofs.spilling.write_spilled.Goals as goal

pub returns-in-Ok-clause-ok : goal.returns-in-Ok-clause-ok
returns-in-Ok-clause-ok g c = λ xs come. c.in-Ok.ensures.ok xs come

pub returns-clause-prefix : goal.returns-clause-prefix
returns-clause-prefix g c = λ xs come. c.in-Err.ensures.prefix xs come

pub returns-clause-only : goal.returns-clause-only
returns-clause-only g c = merged-pages g.P.PageReader.failures _ _ _ _ _ c.in-Err.refused c.in-Err.ensures.told
