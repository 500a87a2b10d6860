use Rattle.std.proofs.Common.{◌≡◌, ◌≤◌, List, map, drop, length}
use Rattle.fkv_functions.specs.Names.{name_cmp}
use Rattle.fkv_functions.specs.declared.names.Name.{Name}
use Rattle.fkv_runs.specs.Merging.{first_from, first_key}
use Rattle.fkv_spills.specs.Reading.{AreHeld}
use Rattle.fkv_spills.proofs.merging.first_place.Given as goal

-- the first of the names from the place on
abbrev pub invariant-loop-place : goal.invariant-loop-place
invariant-loop-place g l = record {
  low : l.place ≤ length l.rests;
  is : (lists : List (List (Name × g.row.P-Value.Denot))) → AreHeld g.P.ReadPairs.holds l.rests lists
      → l.first ≡ first_from name_cmp l.place (map first_key (drop l.place lists));
}

abbrev pub decreases-loop-place : goal.decreases-loop-place
decreases-loop-place g l = l.place
