use Rattle.std.proofs.Common.{◌≡◌, map}
use Rattle.fkv_blocks.proofs.whole.ReadFeeds.into_sources.Given as goal

abbrev pub invariant-loop-feed : goal.invariant-loop-feed
invariant-loop-feed g l = map g.S.Source.failures l.sources.items ≡ map (λ feed. feed.failures) l.yielded
