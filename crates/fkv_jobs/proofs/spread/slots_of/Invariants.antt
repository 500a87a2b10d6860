use Rattle.std.proofs.Common.{◌≡◌, Some, map}
use Rattle.fkv_jobs.proofs.spread.slots_of.Given as goal

-- a slot for each job so far
abbrev pub invariant-loop-job : goal.invariant-loop-job
invariant-loop-job g l = map (λ slot. slot.job) l.slots.items ≡ map Some l.yielded
