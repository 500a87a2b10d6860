use Rattle.fkv_workers.proofs.working.work_through.Goals as goal

pub returns-in-Ok-clause-done : goal.returns-in-Ok-clause-done
returns-in-Ok-clause-done g c =
    let read = rw c.in-None.is at c.read-had.ensures.done in
    record { rows = read.0; read = read.1; stands = rw read.2.2 at c.in-Ok.ensures.ok read.0 read.2.0 }
