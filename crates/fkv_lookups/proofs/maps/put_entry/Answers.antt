use Rattle.fkv_lookups.proofs.maps.put_entry.Goals as goal

pub returns-then-entry-clause-ok : goal.returns-then-entry-clause-ok
returns-then-entry-clause-ok g c = rw c.if-entry.true c.put_part.ensures.ok

pub returns-else-entry-clause-ok : goal.returns-else-entry-clause-ok
returns-else-entry-clause-ok g c = rw c.if-entry.false c.put.ensures.ok
