use Rattle.std.proofs.Common.{◌≡◌, [], map, replicate}
use Rattle.fkv_workers.proofs.feed_shares.shares.Given as goal

abbrev pub invariant-loop : goal.invariant-loop
invariant-loop g l = map (λ share. share.items) l.shares.items ≡ replicate l.counter []
