use Rattle.std.proofs.Common.{◌≤◌, take}
use Rattle.std.specs.List.{All}
use Rattle.fkv_histories.proofs.merging.top_of.Given as goal

abbrev pub invariant-loop-entry : goal.invariant-loop-entry
invariant-loop-entry g l = (l.least ≤ l.top) × All (λ entry. entry.session ≤ l.top) (take l.entry-index l.list)
