use Rattle.std.proofs.Common.{◌≤◌, take}
use Rattle.std.specs.List.{All}
use Rattle.fkv_histories.proofs.merging.top_session.Given as goal

abbrev pub invariant-loop-own : goal.invariant-loop-own
invariant-loop-own g l = All (λ own. All (λ entry. entry.session ≤ l.top) own.items) (take l.own-index l.owns)
