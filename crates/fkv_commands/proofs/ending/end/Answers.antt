use Rattle.fkv_commands.proofs.ending.end.Goals as goal

pub returns-in-Ok-clause-ends : goal.returns-in-Ok-clause-ends
returns-in-Ok-clause-ends g c = rw c.in-Ok.is (rw c.as_slice.ensures.value at c.ended.ensures.ends)
