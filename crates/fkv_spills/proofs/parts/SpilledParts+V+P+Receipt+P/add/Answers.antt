use Rattle.fkv_spills.proofs.PartLemmas.{keys-more}
use Rattle.fkv_spills.proofs.parts.SpilledParts+V+P+Receipt+P.add.Goals as goal

pub returns-in-Ok-clause-ok : goal.returns-in-Ok-clause-ok
returns-in-Ok-clause-ok g c lists xs old has =
    (c.in-Ok.ensures.ok lists xs old.0 has.0, keys-more _ _ _ lists xs c.in-Some.ensures.1 old.1 has.1)
