-- How a life ends.
use Rattle.std.specs.Prelude.{ℕ, zero, suc, List, [], ◌∷◌}
use Rattle.fkv_lives.specs.declared.lives.Life.{Life}
use Rattle.fkv_lives.specs.declared.lives.End.{End}

-- the lives where the one at this place ends so
abbrev pub ended_at : {K V I O : Type 0} → List (Life K V I O) → ℕ → End O → List (Life K V I O)
ended_at [] j e = []
ended_at (x ∷ xs) zero e = record x { end = e } ∷ xs
ended_at (x ∷ xs) (suc j) e = x ∷ ended_at xs j e
