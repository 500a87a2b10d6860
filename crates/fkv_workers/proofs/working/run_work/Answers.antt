use Rattle.fkv_store.specs.Stores.{IsTold}
use Rattle.fkv_workers.proofs.StoppedLemmas.{rested_done, rested_stopped}
use Rattle.fkv_workers.proofs.working.run_work.Goals as goal

pub returns-clause-done : goal.returns-clause-done
returns-clause-done g c =
    rw (c.rest_after.ensures.same, c.rest_after.ensures.had)
    (rested_done _ c.read_by-so_far.result.fault c.rest_after.result.fault c.rest_after.ensures.first c.read_by-so_far.ensures.done)

pub returns-clause-stopped : goal.returns-clause-stopped
returns-clause-stopped g c =
    rw c.rest_after.ensures.had
    (rested_stopped IsTold (g.C.Share.fails c.args.asked.share c.read_by-so_far.result.had) c.read_by-so_far.result.fault c.rest_after.result.fault
    c.rest_after.ensures.first c.rest_after.ensures.told c.read_by-so_far.ensures.stopped)

pub returns-clause-told : goal.returns-clause-told
returns-clause-told g c = rw c.rest_after.ensures.had c.read_by-so_far.ensures.told
