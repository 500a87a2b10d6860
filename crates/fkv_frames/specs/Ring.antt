-- Frames as callers see them.
use Rattle.std.specs.Prelude.{ℕ, List, Option}

-- pages of 2 ^ bits bytes; for each frame, in order, the page that it holds and its bytes
pub record Ring : Type 0 where
  pub bits : ℕ
  pub slots : List (Option ℕ × List ℕ)
