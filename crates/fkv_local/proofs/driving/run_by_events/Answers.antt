use Rattle.std.proofs.Common.{Ok, refl, ap, ◌∙◌, arith}
use Rattle.fkv_operations.specs.After.{key_of}
use Rattle.fkv_local.proofs.ClearLemmas.{stays-then}
use Rattle.fkv_local.proofs.DriveLemmas.{left-runs, move-stopped, runs-since, stays-tidied, stopped-from}
use Rattle.fkv_local.proofs.ReadLemmas.{records-same}
use Rattle.fkv_local.proofs.RoomLemmas.{log-then}
use Rattle.fkv_local.proofs.TidiedLemmas.{passed-then}
use Rattle.fkv_local.proofs.driving.run_by_events.Goals as goal

pub returns-in-Err-clause-told : goal.returns-in-Err-clause-told
returns-in-Err-clause-told g c = c.in-Err.ensures.told

pub returns-in-Err-tidy-clause-runs : goal.returns-in-Err-tidy-clause-runs
returns-in-Err-tidy-clause-runs g c = left-runs (stays-tidied (c.in-Ok-None.ensures.stays c.in-Ok-None.field-0-is) c.tidy.ensures.tidied c.tidy.ensures.settled)

pub returns-in-Err-tidy-clause-told : goal.returns-in-Err-tidy-clause-told
returns-in-Err-tidy-clause-told g c = stopped-from (ap g.D.Writer.PageWriter.failures c.try_by_events-first.ensures.same_writer) refl (move-stopped c.in-Err-tidy.ensures.told c.in-Ok-None.ensures.steady)

pub returns-in-Ok-Some-second-clause-runs : goal.returns-in-Ok-Some-second-clause-runs
returns-in-Ok-Some-second-clause-runs g c =
    let stays = stays-tidied (c.in-Ok-None.ensures.stays c.in-Ok-None.field-0-is) c.tidy.ensures.tidied c.tidy.ensures.settled in
    runs-since (Ok c.in-Ok-Some-second.answer) stays (rw c.in-Ok-Some-second.field-0-is at c.in-Ok-Some-second.ensures.runs)

pub returns-in-Err-second-clause-runs : goal.returns-in-Err-second-clause-runs
returns-in-Err-second-clause-runs g c =
    let stays = stays-tidied (c.in-Ok-None.ensures.stays c.in-Ok-None.field-0-is) c.tidy.ensures.tidied c.tidy.ensures.settled in
    left-runs (stays-then stays c.in-Err-second.ensures.left)

pub returns-in-Err-second-clause-told : goal.returns-in-Err-second-clause-told
returns-in-Err-second-clause-told g c =
    let writes = c.in-Ok.ensures.steady ∙ ap g.D.Writer.PageWriter.failures c.try_by_events-first.ensures.same_writer in
    stopped-from writes c.in-Ok-None.ensures.steady c.in-Err-second.ensures.told

pub returns-in-Ok-Some-clause-loads : goal.returns-in-Ok-Some-clause-loads
returns-in-Ok-Some-clause-loads g c = λ kept. let first = c.try_by_events-first.ensures.loads kept in omega arith

pub returns-in-Err-clause-loads : goal.returns-in-Err-clause-loads
returns-in-Err-clause-loads g c = λ kept. let first = c.try_by_events-first.ensures.loads kept in omega arith

pub returns-in-Err-tidy-clause-loads : goal.returns-in-Err-tidy-clause-loads
returns-in-Err-tidy-clause-loads g c = λ kept. let first = c.try_by_events-first.ensures.loads kept in omega arith

pub returns-in-Ok-Some-second-clause-loads : goal.returns-in-Ok-Some-second-clause-loads
returns-in-Ok-Some-second-clause-loads g c = λ kept.
    let first = c.try_by_events-first.ensures.loads kept in
    let second = c.try_by_events-second.ensures.loads kept in
    let same = records-same g.F.Functions.code (log-then (c.in-Ok-None.ensures.same_log c.in-Ok-None.field-0-is) c.tidy.ensures.same_log) kept (key_of c.args.op) in
    omega arith

pub returns-in-Err-second-clause-loads : goal.returns-in-Err-second-clause-loads
returns-in-Err-second-clause-loads g c = λ kept.
    let first = c.try_by_events-first.ensures.loads kept in
    let second = c.try_by_events-second.ensures.loads kept in
    let same = records-same g.F.Functions.code (log-then (c.in-Ok-None.ensures.same_log c.in-Ok-None.field-0-is) c.tidy.ensures.same_log) kept (key_of c.args.op) in
    omega arith

pub try_by_events-second-requires-clause-idle : goal.try_by_events-second-requires-clause-idle
try_by_events-second-requires-clause-idle g c = (stays-tidied (c.in-Ok-None.ensures.stays c.in-Ok-None.field-0-is) c.tidy.ensures.tidied c.tidy.ensures.settled).idle

pub unreachable-requires : goal.unreachable-requires
unreachable-requires g c = c.in-Ok.ensures.roomy (c.in-Ok-None.ensures.stays c.in-Ok-None.field-0-is).idle.settled (c.in-Ok-None-second.ensures.full c.in-Ok-None-second.field-0-is)

pub returns-in-Ok-Some-clause-runs : goal.returns-in-Ok-Some-clause-runs
returns-in-Ok-Some-clause-runs g c = rw c.in-Ok-Some.field-0-is at c.in-Ok-Some.ensures.runs

pub returns-in-Err-clause-runs : goal.returns-in-Err-clause-runs
returns-in-Err-clause-runs g c = left-runs c.in-Err.ensures.left

pub returns-in-Err-tidy-clause-passed : goal.returns-in-Err-tidy-clause-passed
returns-in-Err-tidy-clause-passed g c = passed-then c.try_by_events-first.ensures.passed c.tidy.ensures.passed

pub returns-in-Ok-Some-second-clause-passed : goal.returns-in-Ok-Some-second-clause-passed
returns-in-Ok-Some-second-clause-passed g c = passed-then c.try_by_events-first.ensures.passed (passed-then c.tidy.ensures.passed c.try_by_events-second.ensures.passed)

pub returns-in-Ok-Some-second-clause-unread : goal.returns-in-Ok-Some-second-clause-unread
returns-in-Ok-Some-second-clause-unread g c = λ may. c.try_by_events-second.ensures.unread may ∙ c.try_by_events-first.ensures.unread may

pub returns-in-Err-second-clause-passed : goal.returns-in-Err-second-clause-passed
returns-in-Err-second-clause-passed g c = passed-then c.try_by_events-first.ensures.passed (passed-then c.tidy.ensures.passed c.try_by_events-second.ensures.passed)

pub returns-in-Err-second-clause-unread : goal.returns-in-Err-second-clause-unread
returns-in-Err-second-clause-unread g c = λ may. c.try_by_events-second.ensures.unread may ∙ c.try_by_events-first.ensures.unread may

pub returns-in-Err-clause-caused : goal.returns-in-Err-clause-caused
returns-in-Err-clause-caused g c = c.in-Err.ensures.caused

pub returns-in-Err-second-clause-caused : goal.returns-in-Err-second-clause-caused
returns-in-Err-second-clause-caused g c = c.in-Err-second.ensures.caused
