use Rattle.std.proofs.Common.{◌++◌, ℤ, List, map}
use Rattle.fkv_functions.specs.declared.names.Name.{Name}
use Rattle.fkv_feeds.specs.Tables.{AreFeeds, most_rows}
use Rattle.fkv_workers.proofs.sharing.read_all.Given as goal

abbrev pub invariant-loop-feed : goal.invariant-loop-feed
invariant-loop-feed g l =
    (before : List (Name × ℤ)) → g.K.RowSink.stands l.initial.sink before
    → (rows : List (Name × ℤ))
    × AreFeeds most_rows (map (λ feed. g.S.Source.remaining feed.1) l.yielded) rows
    × g.K.RowSink.stands l.sink (before ++ rows)
