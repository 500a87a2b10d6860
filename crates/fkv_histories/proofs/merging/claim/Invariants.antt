use Rattle.std.proofs.Common.{◌≡◌, take, length}
use Rattle.fkv_histories.specs.Merges.{AreClaimed}
use Rattle.fkv_histories.proofs.merging.claim.Given as goal

abbrev pub invariant-loop-entry : goal.invariant-loop-entry
invariant-loop-entry g l = (length l.who.items ≡ length l.initial.who.items) × AreClaimed l.initial.who.items l.who.items (take l.entry-index l.list) l.owner
