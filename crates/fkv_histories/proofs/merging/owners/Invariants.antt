use Rattle.std.proofs.Common.{◌≡◌, map, length}
use Rattle.fkv_histories.specs.Merges.{AreOwners}
use Rattle.fkv_histories.proofs.merging.owners.Given as goal

abbrev pub invariant-loop-owner : goal.invariant-loop-owner
invariant-loop-owner g l = (length l.who.items ≡ l.size) × AreOwners l.who.items (map (λ own. own.items) l.owns) l.owner
