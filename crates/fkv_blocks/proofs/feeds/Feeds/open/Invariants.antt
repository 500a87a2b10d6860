use Rattle.std.proofs.Common.{◌≡◌, length}
use Rattle.fkv_blocks.proofs.feeds.Feeds.open.Given as goal

abbrev pub invariant-loop-source : goal.invariant-loop-source
invariant-loop-source g l = (l.place ≡ length l.yielded) × (length l.feeds.items ≡ length l.yielded)
