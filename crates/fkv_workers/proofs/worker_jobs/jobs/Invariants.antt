use Rattle.std.proofs.Common.{◌≡◌, [], length, map, replicate}
use Rattle.std.specs.List.{All}
use Rattle.fkv_workers.specs.Works.{StandsFor}
use Rattle.fkv_workers.proofs.worker_jobs.jobs.Given as goal

abbrev pub invariant-loop-share : goal.invariant-loop-share
invariant-loop-share g l = record {
  shares : map (λ job. job.share) l.jobs.items ≡ l.yielded;
  ready : All (λ job. StandsFor g.H.Recorder.keeps g.F.Functions.code job.mode job.pass [] × (length job.pass.told ≡ job.store.now.count) × (map (λ rows. rows.items) job.waiting.items ≡ replicate job.store.now.count [])) l.jobs.items;
  modes : All (λ job. job.mode ≡ l.mode) l.jobs.items;
}
