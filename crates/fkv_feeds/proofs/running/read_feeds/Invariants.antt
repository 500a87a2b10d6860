use Rattle.std.proofs.Common.{◌≡◌, ◌≤◌, ◌*◌, ◌^◌, ℤ, List, length, take, drop, map}
use Rattle.fkv_functions.specs.declared.names.Name.{Name}
use Rattle.fkv_feeds.specs.Keeping.{kept_of}
use Rattle.fkv_feeds.specs.Tables.{AreFeeds, StandsFor, most_rows}
use Rattle.fkv_feeds.proofs.running.read_feeds.Given as goal

abbrev pub invariant-loop-index : goal.invariant-loop-index
invariant-loop-index g l = record {
  counts : map g.S.Source.failures l.feeds ≡ map g.S.Source.failures l.initial.feeds;
  unread : drop l.index l.feeds ≡ drop l.index l.initial.feeds;
  so_far : (rows : List (Name × ℤ))
      × AreFeeds most_rows (map g.S.Source.remaining (take l.index l.initial.feeds)) rows
      × StandsFor g.D.Receipt.Receipt.keeps g.F.Functions.meaning g.F.Functions.code l.store.store rows
      × (l.rows ≡ length rows);
  kept : kept_of g.F.Mergeable.MERGES l.store.mode l.store.store ≡ kept_of g.F.Mergeable.MERGES l.initial.store.mode l.initial.store.store;
  few : l.rows ≤ l.index * 2 ^ 40;
}
