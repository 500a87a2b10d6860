-- What is superseded and cleared on small texts: keys and values are numbers.
use Rattle.std.specs.Prelude.{ℕ, List, [], ◌∷◌, Option, Some, None}
use Rattle.std.specs.Ordering.{nat_cmp}
use Rattle.fkv_texts.specs.declared.entries.Entry.{Entry}
use Rattle.fkv_texts.specs.WrongTexts.{entry}
use Rattle.fkv_texts.specs.Deltas.{IsSuperseded, IsCleared}

-- a text of two records of one key, and one of two records of two keys
abbrev pub written_twice : Option ℕ → ℕ → List (Entry ℕ ℕ)
written_twice v w = entry 64 1 3 v ∷ entry 96 64 3 (Some w) ∷ []

abbrev pub written_once : ℕ → Option ℕ → List (Entry ℕ ℕ)
written_once v w = entry 64 1 3 (Some v) ∷ entry 96 1 4 w ∷ []

-- of two records of a key the first is superseded, and the last is not where it has a value
abbrev pub LastIsNotSuperseded : Type 0
LastIsNotSuperseded = (v : Option ℕ) (w : ℕ)
    → IsSuperseded nat_cmp (written_twice v w) (entry 64 1 3 v)
    × (IsSuperseded nat_cmp (written_twice v w) (entry 96 64 3 (Some w)) → ⊥)

-- a tombstone is superseded, the last of its key too
abbrev pub TombstoneIsSuperseded : Type 0
TombstoneIsSuperseded = (v : ℕ) → IsSuperseded nat_cmp (written_once v None) (entry 96 1 4 None)

-- a text is cleared up to its first record that is not superseded, and no further
abbrev pub ClearsNoLast : Type 0
ClearsNoLast = (v : ℕ) (w : Option ℕ)
    → IsCleared nat_cmp (written_once v w) 64
    × (IsCleared nat_cmp (written_once v w) 96 → ⊥)
