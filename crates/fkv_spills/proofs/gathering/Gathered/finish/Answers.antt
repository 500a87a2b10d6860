use Rattle.fkv_spills.proofs.gathering.Gathered.finish.Goals as goal

pub returns-in-Err-clause-refused : goal.returns-in-Err-clause-refused
returns-in-Err-clause-refused g c = c.in-Err.ensures.refused

pub returns-clause-ok : goal.returns-clause-ok
returns-clause-ok g c xs keeps h = c.in-Ok.ensures.ok xs keeps h
