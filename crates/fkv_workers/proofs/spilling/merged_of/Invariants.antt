use Rattle.std.proofs.Common.{List}
use Rattle.std.specs.Vec.Iter.{into_iter_items}
use Rattle.fkv_functions.specs.declared.names.Name.{Name}
use Rattle.fkv_spills.specs.Parts.{HasPairs, HaveRuns}
use Rattle.fkv_spills.specs.Reading.{AreHeld}
use Rattle.fkv_workers.proofs.SpillLemmas.{AreParted}
use Rattle.fkv_workers.proofs.spilling.merged_of.Given as goal

-- the runs so far are gathered, and those of the parts that are left come behind them
abbrev pub invariant-loop-part : goal.invariant-loop-part
invariant-loop-part g l = (lists : List (List (Name × g.row.V.Denot)))
    → AreHeld (HasPairs g.V.Fixed.codec g.P.Receipt.Receipt.keeps {P = g.row.P.Denot} g.P.Receipt.Receipt.stands) (into_iter_items l.initial.part-iterator) lists
    → AreParted (HasPairs g.V.Fixed.codec g.P.Receipt.Receipt.keeps {P = g.row.P.Denot} g.P.Receipt.Receipt.stands)
    (HaveRuns g.V.Fixed.codec g.P.Receipt.Receipt.keeps {P = g.row.P.Denot} g.P.Receipt.Receipt.stands) lists l.parts (into_iter_items l.part-iterator)
