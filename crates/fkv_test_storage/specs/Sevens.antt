-- A page of sevens, and one of eights.
use Rattle.std.specs.Prelude.{ℕ, List, replicate}

abbrev pub sevens : List ℕ
sevens = replicate 64 7

abbrev pub eights : List ℕ
eights = replicate 64 8
