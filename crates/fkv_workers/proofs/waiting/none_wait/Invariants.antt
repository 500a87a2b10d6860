use Rattle.std.proofs.Common.{◌≡◌, [], map, replicate}
use Rattle.fkv_workers.proofs.waiting.none_wait.Given as goal

abbrev pub invariant-loop-place : goal.invariant-loop-place
invariant-loop-place l = map (λ rows. rows.items) l.waiting.items ≡ replicate l._place []
