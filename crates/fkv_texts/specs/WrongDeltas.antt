-- What deltas stand for, on small texts: keys and values are numbers, and parts are joined by addition.
use Rattle.std.specs.Prelude.{◌≡◌, ◌+◌, ℕ, List, [], ◌∷◌, true, Some, None}
use Rattle.std.specs.Ordering.{nat_cmp}
use Rattle.fkv_texts.specs.declared.entries.Entry.{Entry}
use Rattle.fkv_texts.specs.Text.{live, text_from}
use Rattle.fkv_texts.specs.Deltas.{resolved, gathered, IsCovered, IsSuperseded, IsCleared}
use Rattle.fkv_texts.specs.WrongTexts.{entry}

-- a delta by its address, previous address, key and part
abbrev pub part : ℕ → ℕ → ℕ → ℕ → Entry ℕ ℕ
part address previous key value =
    record { address = address; previous = previous; key = key; value = Some value; delta = true }

abbrev pub plus : ℕ → ℕ → ℕ
plus v w = v + w

-- a delta stands for what its key had and its part; a delta of another key does not
abbrev pub DeltasJoin : Type 0
DeltasJoin = (u v w x : ℕ)
    → resolved nat_cmp plus (entry 64 1 3 (Some u) ∷ part 96 64 3 v ∷ part 128 1 4 x ∷ part 160 96 3 w ∷ [])
    ≡ entry 64 1 3 (Some u) ∷ part 96 64 3 (u + v) ∷ part 128 1 4 x ∷ part 160 96 3 (u + v + w) ∷ []

-- nothing of what stood before a tombstone, or before a value, comes through it
abbrev pub WholesEnd : Type 0
WholesEnd = (u v w : ℕ)
    → (resolved nat_cmp plus (entry 64 1 3 (Some u) ∷ entry 96 64 3 None ∷ part 128 96 3 v ∷ [])
    ≡ entry 64 1 3 (Some u) ∷ entry 96 64 3 None ∷ part 128 96 3 v ∷ [])
    × (resolved nat_cmp plus (part 64 1 3 u ∷ entry 96 64 3 (Some v) ∷ part 128 96 3 w ∷ [])
    ≡ part 64 1 3 u ∷ entry 96 64 3 (Some v) ∷ part 128 96 3 (v + w) ∷ [])

-- the first entry of a key may be a delta
abbrev pub FirstDeltasStand : Type 0
FirstDeltasStand = (v w : ℕ)
    → resolved nat_cmp plus (part 64 1 3 v ∷ part 96 64 3 w ∷ [])
    ≡ part 64 1 3 v ∷ part 96 64 3 (v + w) ∷ []

-- parts are gathered down to the first entry that is no delta, or to the end
abbrev pub PartsGather : Type 0
PartsGather = (t u v w : ℕ)
    → (gathered plus (part 160 128 3 w ∷ part 128 96 3 v ∷ entry 96 64 3 (Some u) ∷ part 64 1 3 t ∷ []) None
    ≡ (Some (v + w), Some (entry 96 64 3 (Some u))))
    × (gathered plus (part 96 64 3 w ∷ part 64 1 3 v ∷ []) None ≡ (Some (v + w), None))
    × (gathered plus (entry 96 64 3 None ∷ part 64 1 3 v ∷ []) (Some w) ≡ (Some w, Some (entry 96 64 3 None)))

-- where the later of two is kept, it is the later
abbrev pub LaterIsLater : Type 0
LaterIsLater = (v w : ℕ)
    → (live nat_cmp (resolved nat_cmp (λ x y. y) (part 64 1 3 v ∷ part 96 64 3 w ∷ [])) 3 ≡ Some w)
    × (gathered (λ x y. y) (part 96 64 3 w ∷ part 64 1 3 v ∷ []) None ≡ (Some w, None))

-- a value, a delta on it, another value and a delta on that, and a value of another key
abbrev pub written : ℕ → ℕ → ℕ → ℕ → ℕ → List (Entry ℕ ℕ)
written t u v w x =
    entry 64 1 3 (Some t)
    ∷ part 96 64 3 u
    ∷ entry 128 96 3 (Some v)
    ∷ part 160 128 3 w
    ∷ entry 192 1 4 (Some x)
    ∷ []

-- a value covers what its key had before; a delta covers nothing, nor does an entry of another key; a tombstone is
-- superseded where nothing covers it
abbrev pub WholesCover : Type 0
WholesCover = (t u v w x : ℕ)
    → IsCovered nat_cmp (written t u v w x) (entry 64 1 3 (Some t))
    × IsCovered nat_cmp (written t u v w x) (part 96 64 3 u)
    × (IsSuperseded nat_cmp (written t u v w x) (entry 128 96 3 (Some v)) → ⊥)
    × (IsSuperseded nat_cmp (written t u v w x) (part 160 128 3 w) → ⊥)
    × IsSuperseded nat_cmp (entry 64 1 3 None ∷ part 96 64 3 w ∷ []) (entry 64 1 3 None)

-- what is below the upper value may go, and no more: else the delta on it would stand for less
abbrev pub CutNeedsClearing : Type 0
CutNeedsClearing = (t u v w x : ℕ)
    → IsCleared nat_cmp (written t u v w x) 128
    × (live nat_cmp (resolved nat_cmp plus (written t u v w x)) 3 ≡ Some (v + w))
    × (live nat_cmp (resolved nat_cmp plus (text_from 128 (written t u v w x))) 3 ≡ Some (v + w))
    × (live nat_cmp (resolved nat_cmp plus (text_from 160 (written t u v w x))) 3 ≡ Some w)
    × (IsCleared nat_cmp (written t u v w x) 160 → ⊥)
