use Rattle.std.proofs.Common.{◌≡◌, length}
use Rattle.fkv_blocks.proofs.feeds.Feeds.ended.Given as goal

abbrev pub invariant-loop-feed : goal.invariant-loop-feed
invariant-loop-feed g l = length l.ended.items ≡ length l.yielded
