use Rattle.std.proofs.Common.{List, length, IsTrue}
use Rattle.fkv_functions.specs.declared.names.Name.{Name}
use Rattle.fkv_spills.specs.Parts.{HaveRuns}
use Rattle.fkv_feeds.proofs.TableLemmas.{AreRunsOf}
use Rattle.fkv_feeds.proofs.spilling.spilled_table_of.Given as goal

-- a run of each list so far
abbrev pub invariant-lists : goal.invariant-lists
invariant-lists g l = IsTrue g.D.Receipt.Receipt.keeps → (runs : List (List (Name × g.row.F-Value.Denot)))
    × HaveRuns g.F.Value.Fixed.codec g.D.Receipt.Receipt.keeps g.D.Receipt.Receipt.stands l.parts runs
    × AreRunsOf g.D.Receipt.Receipt.keeps g.F.Functions.code l.initial.lists l.lists runs

abbrev pub decreases-lists : goal.decreases-lists
decreases-lists g l = length l.lists.parts
