use Rattle.std.proofs.Common.{◌≡◌, ◌++◌, All, map}
use Rattle.std.specs.Vec.Iter.{into_iter_items}
use Rattle.fkv_jobs.proofs.jobs.fn.run_jobs.scope.Given as goal

-- the jobs that were started, and those that are left, are the jobs
abbrev pub invariant-loop-job : goal.invariant-loop-job
invariant-loop-job g l =
    (map (λ h. h.promise.0.value) l.handles.items ++ into_iter_items l.job-iterator ≡ into_iter_items l.initial.job-iterator)
    × All g.J.Job.ready (into_iter_items l.job-iterator)
