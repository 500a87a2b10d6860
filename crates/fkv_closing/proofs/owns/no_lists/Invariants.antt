use Rattle.std.proofs.Common.{◌≡◌, [], map, replicate}
use Rattle.fkv_closing.proofs.owns.no_lists.Given as goal

abbrev pub invariant-loop : goal.invariant-loop
invariant-loop g l = map (λ of. map (λ own. own.items) of.items) l.all.items ≡ replicate l.counter []
