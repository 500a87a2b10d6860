-- Records that nobody changes where they stand.
use Rattle.std.specs.Prelude.{◌≡◌, ◌<◌, ◌⊎◌, ℕ, Option, Some, None, true}
use Rattle.fkv_texts.specs.declared.entries.Entry.{Entry}

-- the last record of a key, or its newest at or below an address: there is none, or it is a tombstone or a delta, or it
-- lies below the safe read-only offset
abbrev pub IsStill : {K V : Type 0} → ℕ → Option (Entry K V) → Type 0
IsStill safe None = Unit {0}
IsStill safe (Some e) = (e.value ≡ None) ⊎ (e.delta ≡ true) ⊎ (e.address < safe)
