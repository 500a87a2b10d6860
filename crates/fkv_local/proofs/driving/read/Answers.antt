use Rattle.std.proofs.Common.{Ok, ap, arith}
use Rattle.std.proofs.lemmas.Result.{IfErr-weaker}
use Rattle.fkv_local.proofs.AtOnceLemmas.{read_runs}
use Rattle.fkv_local.proofs.DriveLemmas.{move-refused, refused-by, runs-since}
use Rattle.fkv_local.proofs.ReadLemmas.{loads-since}
use Rattle.fkv_local.proofs.driving.read.Goals as goal

pub returns-in-Err-clause-told : goal.returns-in-Err-clause-told
returns-in-Err-clause-told g c = move-refused c.in-Err.ensures.told (ap g.D.Reader.PageReader.failures c.in-Err.ensures.same_reader)

pub returns-in-Some-clause-runs : goal.returns-in-Some-clause-runs
returns-in-Some-clause-runs g c =
    let stays = c.tidy_at_times.ensures.stays in
    runs-since (Ok c.in-Some.answer) stays (read_runs g.D.Receipt.Receipt.keeps g.F.Key.Ord.cmp g.F.Mergeable.parts.joined g.F.Functions.meaning g.F.Functions.code c.tidy_at_times.new.shard.part.partition c.args.key.now c.args.input.now c.in-Some.answer stays.idle c.in-Some.ensures.done)

pub returns-in-None-clause-told : goal.returns-in-None-clause-told
returns-in-None-clause-told g c =
    let then = c.tidy_at_times.new.shard in
    IfErr-weaker c.run_by_events.result _ _ (λ e. refused-by then.part.writer then.reader c.in-Ok.ensures.beside) c.run_by_events.ensures.told

pub returns-in-Err-clause-loads : goal.returns-in-Err-clause-loads
returns-in-Err-clause-loads g c = λ kept log. let same = ap g.D.Reader.PageReader.reads c.in-Err.ensures.same_reader in omega arith

pub returns-in-Some-clause-loads : goal.returns-in-Some-clause-loads
returns-in-Some-clause-loads g c = λ kept log. let same = ap g.D.Reader.PageReader.reads (c.tidy_at_times.ensures.unread log) in omega arith

pub returns-in-None-clause-loads : goal.returns-in-None-clause-loads
returns-in-None-clause-loads g c = λ kept log.
    let steady = ap g.D.Reader.PageReader.reads (c.tidy_at_times.ensures.unread log) in
    loads-since g.F.Functions.code (c.tidy_at_times.ensures.same_log log) steady kept c.args.key.now (c.run_by_events.ensures.loads kept)
