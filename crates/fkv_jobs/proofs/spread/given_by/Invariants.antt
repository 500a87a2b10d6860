use Rattle.std.proofs.Common.{◌≡◌, Some, map}
use Rattle.fkv_jobs.proofs.spread.given_by.Given as goal

-- what the slots so far have
abbrev pub invariant-loop-slot : goal.invariant-loop-slot
invariant-loop-slot g l = map Some l.results.items ≡ map (λ slot. slot.given) l.yielded
