use Rattle.fkv_spills.proofs.pages.put_pair.Goals as goal

pub returns-in-Ok-clause-ok : goal.returns-in-Ok-clause-ok
returns-in-Ok-clause-ok g c = (c.spell.new.out, c.in-Ok.ensures.items, c.spell.ensures)
