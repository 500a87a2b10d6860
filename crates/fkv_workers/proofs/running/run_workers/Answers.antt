use Rattle.std.proofs.Common.{⊎_elim, inl, inr, length, map, refl, subst, IfSome}
use Rattle.std.specs.Prelude.{IfErr, IfNone}
use Rattle.fkv_store.specs.Stores.{IsTold}
use Rattle.fkv_functions.specs.declared.refusals.Refused.TheVariants.{NoMemory}
use Rattle.fkv_feeds.specs.Tables.{AreFeeds, most_rows}
use Rattle.fkv_workers.specs.Works.{HasDone, IsStop, IsFirst}
use Rattle.fkv_workers.proofs.BlockLemmas.{map_zip}
use Rattle.fkv_workers.proofs.StoppedLemmas.{stopped, told_memory, all_read, read_before}
use Rattle.fkv_workers.proofs.WorkedLemmas.{hands_are, shared, fed_by}
use Rattle.fkv_workers.proofs.running.run_workers.Goals as goal

pub returns-in-Ok-ended : goal.returns-in-Ok-ended
returns-in-Ok-ended g c =
    let each = map_zip _
    (λ job w. IfNone w.fault (HasDone (AreFeeds most_rows (map (λ feed. g.S.Source.remaining feed.1) job.share.items)) g.H.Recorder.keeps g.F.Functions.code job.mode w.pass)
    × (IfSome w.fault (IsStop g.S.Source.remaining g.S.Source.failures job.share.items) × Unit {0}))
    c.in-Ok-jobs.jobs.items c.in-Ok-run_jobs.ran.results.items c.in-Ok-run_jobs.ensures.ok.results (λ job w h. (h.0, (h.1, h.2))) in
    record {
      ok = λ keeps.
          let rem = g.S.Source.remaining in
          let fails = g.S.Source.failures in
          let jobs = c.in-Ok-jobs.jobs.items in
          let results = c.in-Ok-run_jobs.ran.results.items in
          let sh = shared rem g.F.Functions.code (λ job. job.share.items) (λ job. job.mode) (λ w. w.pass) (λ w. w.fault) g.H.Recorder.keeps c.args.mode
          (λ job w. IfSome w.fault (IsStop rem fails job.share.items) × Unit {0}) jobs results keeps each c.in-Ok-jobs.ensures.modes c.in-Ok-ended.ensures.none in
          rw c.in-Ok-ended.ensures.ok
          (fed_by rem g.F.Functions.code c.args.mode (λ job. job.share.items) c.args.workers c.args.feeds.items jobs (map (λ w. w.pass) results) sh.shares c.requires.some
          (hands_are c.args.workers c.args.feeds.items (λ hand. hand.items) (λ job. job.share) c.in-Ok-jobs.jobs.items c.in-Ok.hands.items c.in-Ok-jobs.ensures.shares c.in-Ok.ensures.ok) sh.read sh.kept sh.made);
      mode = refl;
      read =
          all_read g.S.Source.remaining g.S.Source.failures g.H.Recorder.keeps g.F.Functions.code (λ job. job.share.items) (λ job. job.mode) (λ w. w.pass) (λ w. w.fault)
          (λ job w. IfSome w.fault (IsStop g.S.Source.remaining g.S.Source.failures job.share.items) × Unit {0}) c.args.workers c.args.feeds.items c.in-Ok-jobs.jobs.items c.in-Ok-run_jobs.ran.results.items NoMemory
          (hands_are c.args.workers c.args.feeds.items (λ hand. hand.items) (λ job. job.share) c.in-Ok-jobs.jobs.items c.in-Ok.hands.items c.in-Ok-jobs.ensures.shares c.in-Ok.ensures.ok) each c.in-Ok-ended.ensures.none;
      refused = tt;
      first = tt;
    }

pub returns-clause-refused : goal.returns-clause-refused
returns-clause-refused g c =
    let rem = g.S.Source.remaining in
    let fails = g.S.Source.failures in
    let jobs = c.in-Ok-jobs.jobs.items in
    let results = c.in-Ok-run_jobs.ran.results.items in
    ⊎_elim (λ memory. inl (told_memory c.in-Err-ended.refused memory))
    (λ rest.
    ⊎_elim
    (λ first.
    let at = stopped (λ job. job.share.items) (λ w. w.fault) (IsStop rem fails)
    (λ job w. IfNone w.fault (HasDone (AreFeeds most_rows (map (λ feed. rem feed.1) job.share.items)) g.H.Recorder.keeps g.F.Functions.code job.mode w.pass)) (λ job w. Unit {0})
    c.args.workers c.args.feeds.items jobs results c.in-Err-ended.refused
    (hands_are c.args.workers c.args.feeds.items (λ hand. hand.items) (λ job. job.share) c.in-Ok-jobs.jobs.items c.in-Ok.hands.items c.in-Ok-jobs.ensures.shares c.in-Ok.ensures.ok) c.in-Ok-run_jobs.ensures.ok.results first in
    ⊎_elim (λ told. inl told) (λ unread. inr (length first.before, at.0, unread)) at.1)
    (λ kept. inl (subst (λ r. IfErr r IsTold) kept.0 c.in-Ok-run_jobs.ensures.ok.kept))
    rest)
    c.in-Err-ended.ensures.refused

pub returns-clause-first : goal.returns-clause-first
returns-clause-first g c =
    let each = map_zip _
    (λ job w. IfNone w.fault (HasDone (AreFeeds most_rows (map (λ feed. g.S.Source.remaining feed.1) job.share.items)) g.H.Recorder.keeps g.F.Functions.code job.mode w.pass)
    × (IfSome w.fault (IsStop g.S.Source.remaining g.S.Source.failures job.share.items) × Unit {0}))
    c.in-Ok-jobs.jobs.items c.in-Ok-run_jobs.ran.results.items c.in-Ok-run_jobs.ensures.ok.results (λ job w h. (h.0, (h.1, h.2))) in
    let rem = g.S.Source.remaining in
    let fails = g.S.Source.failures in
    let jobs = c.in-Ok-jobs.jobs.items in
    let results = c.in-Ok-run_jobs.ran.results.items in
    ⊎_elim (λ memory. IsFirst.early (inr (inl memory)))
    (λ rest.
    ⊎_elim
    (λ first.
    let at = stopped (λ job. job.share.items) (λ w. w.fault) (IsStop rem fails)
    (λ job w. IfNone w.fault (HasDone (AreFeeds most_rows (map (λ feed. rem feed.1) job.share.items)) g.H.Recorder.keeps g.F.Functions.code job.mode w.pass)) (λ job w. Unit {0})
    c.args.workers c.args.feeds.items jobs results c.in-Err-ended.refused
    (hands_are c.args.workers c.args.feeds.items (λ hand. hand.items) (λ job. job.share) c.in-Ok-jobs.jobs.items c.in-Ok.hands.items c.in-Ok-jobs.ensures.shares c.in-Ok.ensures.ok) c.in-Ok-run_jobs.ensures.ok.results first in
    IsFirst.worker (length first.before) at.0
    (read_before rem fails g.H.Recorder.keeps g.F.Functions.code (λ job. job.share.items) (λ job. job.mode) (λ w. w.pass) (λ w. w.fault)
    (λ job w. IfSome w.fault (IsStop rem fails job.share.items) × Unit {0})
    c.args.workers c.args.feeds.items jobs results
    c.in-Err-ended.refused (hands_are c.args.workers c.args.feeds.items (λ hand. hand.items) (λ job. job.share) c.in-Ok-jobs.jobs.items c.in-Ok.hands.items c.in-Ok-jobs.ensures.shares c.in-Ok.ensures.ok) each first) at.1)
    (λ kept.
    IsFirst.keeper
    (all_read rem fails g.H.Recorder.keeps g.F.Functions.code (λ job. job.share.items) (λ job. job.mode) (λ w. w.pass) (λ w. w.fault)
    (λ job w. IfSome w.fault (IsStop rem fails job.share.items) × Unit {0})
    c.args.workers c.args.feeds.items jobs results
    c.in-Err-ended.refused (hands_are c.args.workers c.args.feeds.items (λ hand. hand.items) (λ job. job.share) c.in-Ok-jobs.jobs.items c.in-Ok.hands.items c.in-Ok-jobs.ensures.shares c.in-Ok.ensures.ok) each kept.1) (subst (λ r. IfErr r IsTold) kept.0 c.in-Ok-run_jobs.ensures.ok.kept))
    rest)
    c.in-Err-ended.ensures.refused
