-- How the pairs of a run stand in bytes and values.
use Rattle.std.specs.Prelude.{◌≡◌, ◌≤◌, ◌<◌, ◌++◌, ◌∷◌, [], ℕ, List, length, take, drop, replicate}
use Rattle.std.proofs.Common.{◌⊎◌, inl, inr, arith}
use Rattle.std.proofs.lemmas.Bool.{cases_lt}
use Rattle.fkv_functions.specs.Hashes.{fnv_1a}
use Rattle.fkv_functions.specs.Names.{padded_by, room_by, hashed_by}
use Rattle.fkv_functions.specs.declared.names.Name.{Name}

-- the name of these bytes
abbrev pub name_of : (bytes : List ℕ) → 1 ≤ length bytes → length bytes ≤ 31 → Name
name_of bytes some most = record {
  len = length bytes;
  bytes = bytes ++ drop (length bytes) (replicate 31 0);
  hash = fnv_1a bytes;
  some = some;
  most = most;
  room = room_by bytes most;
  padded = padded_by bytes most;
  hashed = hashed_by bytes;
}

-- a name that stands for bytes that are none
abbrev pub no_name : Name
no_name = name_of (0 ∷ []) (omega arith) (omega arith)

abbrev pub name_where : (bytes : List ℕ) → (0 < length bytes) ⊎ (length bytes ≤ 0) → (31 < length bytes) ⊎ (length bytes ≤ 31) → Name
name_where bytes (inl some) (inr most) = name_of bytes some most
name_where bytes (inl some) (inl long) = no_name
name_where bytes (inr none) most = no_name

-- the name of any bytes
abbrev pub named : List ℕ → Name
named bytes = name_where bytes (cases_lt 0 (length bytes)) (cases_lt 31 (length bytes))

-- the pairs of these values and of the names that stand in these bytes, each behind its length
abbrev pub pairs_in : {V : Type 0} → List V → List ℕ → List (Name × V)
pairs_in [] bytes = []
pairs_in (v ∷ vs) [] = []
pairs_in (v ∷ vs) (n ∷ bytes) = (named (take n bytes), v) ∷ pairs_in vs (drop n bytes)

-- a name stands in these bytes for each value, and nothing else does
abbrev pub IsSpelled : {V : Type 0} → List V → List ℕ → Type 0
IsSpelled [] bytes = bytes ≡ []
IsSpelled (v ∷ vs) [] = ⊥
IsSpelled (v ∷ vs) (n ∷ bytes) = (0 < n) × (n ≤ 31) × (n ≤ length bytes) × IsSpelled vs (drop n bytes)
