-- What a receipt stands for, and pages that are joined with theirs.
use Rattle.std.specs.Prelude.{ℕ, List}

-- number and page are those of the write, length is the page's number of bytes;
-- bytes is what a keeping device gives back, and mark is what else tells the page from others.
pub record Standing : Type 0 where
  pub number : ℕ
  pub page : ℕ
  pub length : ℕ
  pub bytes : List ℕ
  pub mark : List ℕ

-- A page's bytes with its receipt.
pub record Joined (R : Type 0) : Type 0 where
  pub bytes : List ℕ
  pub receipt : R
