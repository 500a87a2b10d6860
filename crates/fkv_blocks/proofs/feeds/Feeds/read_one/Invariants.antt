use Rattle.fkv_blocks.specs.Shares.{HaveRows}
use Rattle.fkv_blocks.proofs.feeds.Feeds.read_one.Given as goal

abbrev pub invariant-loop : goal.invariant-loop
invariant-loop g l = HaveRows g.B.Origin.feeds (g.K.RowSink.stands l.sink) l.tickets.items
