use Rattle.std.proofs.Common.{◌≡◌, ◌<◌, ◌++◌, List, ℕ, length}
use Rattle.fkv_scripts.specs.Script.{lines_of, SayAll}
use Rattle.fkv_scripts.proofs.texts.lines_after.Given as goal

abbrev pub invariant-loop-rest : goal.invariant-loop-rest
invariant-loop-rest l = record {
  read : (front : List (List ℕ)) × (lines_of l.text ≡ front ++ lines_of l.rest) × SayAll l.functions front l.lines.items;
  few : length l.lines.items < l.limit;
}

abbrev pub decreases-loop-rest : goal.decreases-loop-rest
decreases-loop-rest l = length l.rest
