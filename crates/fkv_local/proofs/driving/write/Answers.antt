use Rattle.std.proofs.Common.{◌≤◌, ap, arith}
use Rattle.std.proofs.lemmas.Result.{IfErr-weaker}
use Rattle.fkv_operations.specs.After.{key_of}
use Rattle.fkv_local.proofs.DriveLemmas.{move-refused, refused-by, worn-refused, beside-then}
use Rattle.fkv_local.proofs.ReadLemmas.{loads-since}
use Rattle.fkv_local.proofs.RoomLemmas.{log-as, log-then}
use Rattle.fkv_local.proofs.driving.write.Goals as goal

pub returns-in-Err-clause-told : goal.returns-in-Err-clause-told
returns-in-Err-clause-told g c = move-refused c.in-Err.ensures.told (ap g.D.Reader.PageReader.failures c.in-Err.ensures.same_reader)

pub returns-in-Ok-None-clause-told : goal.returns-in-Ok-None-clause-told
returns-in-Ok-None-clause-told g c =
    let tidied = c.tidy_at_times.ensures.passed.later in
    let written = c.try_write_in_place.ensures.passed.later in
    let later : c.args.clock.now ≤ c.try_write_in_place.new.clock = omega arith in
    let reader = c.tidy_at_times.new.shard.reader in
    let beside = beside-then c.args.terms.now.keeps_log g.D.Writer.PageWriter.failures g.D.Reader.PageReader.failures c.args.shard.now.part.writer c.args.shard.now.reader reader c.try_write_in_place.ensures.same_writer c.in-Ok.ensures.beside in
    IfErr-weaker c.run_by_events.result _ _ (λ e. refused-by c.try_write_in_place.new.part.writer reader beside) c.run_by_events.ensures.told

pub returns-in-Err-try_write_in_place-clause-told : goal.returns-in-Err-try_write_in_place-clause-told
returns-in-Err-try_write_in_place-clause-told g c = worn-refused c.tidy_at_times.new.shard.part.writer c.in-Ok.ensures.beside (ap g.D.Writer.PageWriter.failures c.try_write_in_place.ensures.same_writer) c.in-Err-try_write_in_place.ensures.told

pub returns-in-Err-clause-loads : goal.returns-in-Err-clause-loads
returns-in-Err-clause-loads g c = λ kept log. let same = ap g.D.Reader.PageReader.reads c.in-Err.ensures.same_reader in omega arith

pub returns-in-Ok-Some-clause-loads : goal.returns-in-Ok-Some-clause-loads
returns-in-Ok-Some-clause-loads g c = λ kept log. let same = ap g.D.Reader.PageReader.reads (c.tidy_at_times.ensures.unread log) in omega arith

pub returns-in-Err-try_write_in_place-clause-loads : goal.returns-in-Err-try_write_in_place-clause-loads
returns-in-Err-try_write_in_place-clause-loads g c = λ kept log. let same = ap g.D.Reader.PageReader.reads (c.tidy_at_times.ensures.unread log) in omega arith

pub returns-in-Ok-None-clause-loads : goal.returns-in-Ok-None-clause-loads
returns-in-Ok-None-clause-loads g c = λ kept log.
    let steady = ap g.D.Reader.PageReader.reads (c.tidy_at_times.ensures.unread log) in
    let stayed = log-then (c.tidy_at_times.ensures.same_log log) (log-as (c.in-Ok-None.ensures.same c.in-Ok-None.field-0-is)) in
    loads-since g.F.Functions.code stayed steady kept (key_of c.args.op.now) (c.run_by_events.ensures.loads kept)
