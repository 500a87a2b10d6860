use Rattle.std.proofs.Common.{map}
use Rattle.fkv_workers.proofs.blocks.fill.Given as goal

abbrev pub ghosts-run_workers : goal.ghosts-run_workers
ghosts-run_workers g a = record { feeds = map g.S.Source.remaining a.feeds.now.items; counts = map g.S.Source.failures a.feeds.now.items }
