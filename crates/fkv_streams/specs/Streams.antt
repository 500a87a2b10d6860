-- What is read of a stream of bytes, and what is written to one.
use Rattle.std.specs.Prelude.{◌≡◌, ◌==◌, ◌++◌, ℕ, zero, suc, List, [], ◌∷◌, Option, take, if◌then◌else◌}
use Rattle.std.specs.Io.KnownBytes.{Appends}

-- the bytes of the first lines: a line feed ends each, which the last may lack
abbrev pub first_lines : ℕ → List ℕ → List ℕ
first_lines zero bytes = []
first_lines (suc n) [] = []
first_lines (suc n) (b ∷ bs) = b ∷ (if b == 10 then first_lines n bs else first_lines (suc n) bs)

-- how many of so many lines are still to come after these bytes
abbrev pub lines_left : ℕ → List ℕ → ℕ
lines_left zero bytes = 0
lines_left (suc n) [] = suc n
lines_left (suc n) (b ∷ bs) = if b == 10 then lines_left n bs else lines_left (suc n) bs

-- bytes from the front of these were written, and no others
abbrev pub AppendsPrefix : Option (List ℕ) → Option (List ℕ) → List ℕ → Type 0
AppendsPrefix old new bytes = (n : ℕ) × Appends old new (take n bytes)

-- of these bytes the first were written, and the others are held back
abbrev pub PassesOn : Option (List ℕ) → Option (List ℕ) → List ℕ → List ℕ → Type 0
PassesOn old new held bytes = (sent : List ℕ) × Appends old new sent × (sent ++ held ≡ bytes)
