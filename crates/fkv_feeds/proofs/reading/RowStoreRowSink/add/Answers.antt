use Rattle.std.specs.Int.{w64}
use Rattle.std.proofs.lemmas.Int.{to_z-of_z}
use Rattle.fkv_feeds.proofs.RunLemmas.{row-keeps}
use Rattle.fkv_feeds.proofs.reading.RowStoreRowSink.add.Goals as goal

pub returns-clause-ok : goal.returns-clause-ok
returns-clause-ok g c = rw (to_z-of_z w64 c.args.amount c.ranges.amount) at c.add_row.ensures.ok

pub returns-clause-kept : goal.returns-clause-kept
returns-clause-kept g c = row-keeps g.F.Mergeable.MERGES c.args.self.now.store c.add_row.new.rows.store c.args.self.now.mode c.add_row.new.rows.mode c.add_row.ensures.same_mode c.add_row.ensures.same_terms c.add_row.ensures.unread
