use Rattle.fkv_spills.proofs.parts.SpilledParts+V+P+Receipt+P.merge.Goals as goal

pub returns-in-Ok-clause-ok : goal.returns-in-Ok-clause-ok
returns-in-Ok-clause-ok g c lists has = (c.in-Ok.ensures.ok lists has.0, has.1)
