use Rattle.std.proofs.Common.{◌≡◌, ◌⊎◌, ℤ, List, flat_map}
use Rattle.std.specs.Prelude.{IfNone, IfSome}
use Rattle.std.specs.List.{AllZip}
use Rattle.fkv_functions.specs.declared.names.Name.{Name}
use Rattle.fkv_blocks.specs.Shares.{AreRowsIn, IsStop, WereRead}
use Rattle.fkv_feeds.specs.Tables.{most_rows}
use Rattle.fkv_store.specs.Stores.{IsTold}
use Rattle.fkv_workers.specs.Works.{HasDone}
use Rattle.fkv_workers.proofs.BlockLemmas.{each_second, each_third, map_zip, shared_ok}
use Rattle.fkv_workers.proofs.blocks.run_workers.Goals as goal

pub joined-requires-clause-read : goal.joined-requires-clause-read
joined-requires-clause-read g c =
    each_third _ _ (λ w. WereRead g.B.Origin.feeds w.had.tickets.items) c.in-Ok-jobs.jobs.items c.in-Ok-run_jobs.ran.results.items c.in-Ok-run_jobs.ensures.ok.results

pub joined-requires-clause-stops : goal.joined-requires-clause-stops
joined-requires-clause-stops g c =
    each_second _ _ (λ w. WereRead g.B.Origin.feeds w.had.tickets.items) c.in-Ok-jobs.jobs.items c.in-Ok-run_jobs.ran.results.items c.in-Ok-run_jobs.ensures.ok.results

pub returns-in-Ok-run_jobs-clause-ok : goal.returns-in-Ok-run_jobs-clause-ok
returns-in-Ok-run_jobs-clause-ok g c =
    let feeds = g.B.Origin.feeds in
    let each = map_zip _
    (λ job r. IfNone r.fault (HasDone (λ rows. (parts : List (List (Name × ℤ))) × AllZip (AreRowsIn feeds) r.had.tickets.items parts × (rows ≡ flat_map (λ part. part) parts)) g.H.Recorder.keeps g.F.Functions.code job.mode r.pass)
    × (IfSome r.fault (λ why. IsTold why ⊎ IsStop feeds most_rows (record { feed = r.had.feed; low = r.had.low; refused = why; has_failed = r.had.has_failed }))
    × WereRead feeds r.had.tickets.items))
    c.in-Ok-jobs.jobs.items c.in-Ok-run_jobs.ran.results.items c.in-Ok-run_jobs.ensures.ok.results (λ job r h. (h.0, (h.1, h.2))) in
    shared_ok feeds g.F.Functions.code g.H.Recorder.keeps c.args.mode (λ job. job.mode) (λ w. w.pass) (λ w. w.fault) (λ w. w.had.tickets.items)
    (λ job r. IfSome r.fault (λ why. IsTold why ⊎ IsStop feeds most_rows (record { feed = r.had.feed; low = r.had.low; refused = why; has_failed = r.had.has_failed })) × WereRead feeds r.had.tickets.items)
    c.joined.result (λ passes. passes.items) c.in-Ok-jobs.jobs.items c.in-Ok-run_jobs.ran.results.items each c.in-Ok-jobs.ensures.modes
    c.joined.ensures.ok c.joined.ensures.none c.joined.ensures.whole
