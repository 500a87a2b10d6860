use Rattle.std.proofs.Common.{length}
use Rattle.fkv_feeds.proofs.TableLemmas.{AreRunsOf}
use Rattle.fkv_feeds.proofs.tabling.table_of.Given as goal

-- a run of each list so far
abbrev pub invariant-lists : goal.invariant-lists
invariant-lists g l = AreRunsOf g.D.Receipt.Receipt.keeps g.F.Functions.code l.initial.lists l.lists l.runs.items

abbrev pub decreases-lists : goal.decreases-lists
decreases-lists g l = length l.lists.parts
