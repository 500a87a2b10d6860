use Rattle.std.proofs.Common.{◌≡◌, map}
use Rattle.fkv_workers.proofs.spilling.spillings.Given as goal

-- each partition so far is to be spilled
abbrev pub invariant-loop-part : goal.invariant-loop-part
invariant-loop-part g l = map (λ spilling. spilling.part) l.spillings.items ≡ l.yielded
