use Rattle.fkv_steps.proofs.scripts.running.run_line.Goals as goal

pub returns-in-Do : goal.returns-in-Do
returns-in-Do g c = rw c.in-Do.is c.do_operation.ensures

pub returns-in-Compact : goal.returns-in-Compact
returns-in-Compact g c = rw c.in-Compact.is c.compact.ensures

pub returns-in-Flush : goal.returns-in-Flush
returns-in-Flush g c = rw c.in-Flush.is c.flush.ensures
