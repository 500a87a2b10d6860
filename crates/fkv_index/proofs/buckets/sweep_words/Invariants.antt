use Rattle.std.proofs.Common.{◌≡◌, ◌++◌, take, drop, map}
use Rattle.fkv_index.specs.Words.{swept}
use Rattle.fkv_index.proofs.buckets.sweep_words.Given as goal

abbrev pub invariant-loop-at : goal.invariant-loop-at
invariant-loop-at l = l.words ≡ map (swept l.begin) (take l.at l.initial.words) ++ drop l.at l.initial.words
