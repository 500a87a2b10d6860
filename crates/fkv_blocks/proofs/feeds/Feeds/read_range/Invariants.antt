use Rattle.fkv_blocks.specs.Shares.{HaveRows}
use Rattle.fkv_blocks.proofs.feeds.Feeds.read_range.Given as goal

abbrev pub invariant-loop-place : goal.invariant-loop-place
invariant-loop-place g l = HaveRows g.B.Origin.feeds (g.K.RowSink.stands l.sink) l.tickets.items
