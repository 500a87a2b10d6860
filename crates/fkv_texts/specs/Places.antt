-- Where the entries of a text stand.
use Rattle.std.specs.Prelude.{◌≡◌, ◌^◌, ◌<◌, ℕ, List, [], ◌∷◌, unwrap_or}
use Rattle.fkv_records.specs.Places.{place_after}
use Rattle.fkv_texts.specs.declared.entries.Entry.{Entry}

-- where the log ends once a record stands at an address: the next place, or 2^48 where there is none
abbrev pub tail_after : ℕ → ℕ → ℕ → ℕ
tail_after bits size a = unwrap_or (place_after bits size a) (2 ^ 48)

-- an entry at each place from an address to below the tail, in their order
abbrev pub IsLaidOut : {K V : Type 0} → ℕ → ℕ → ℕ → ℕ → List (Entry K V) → Type 0
IsLaidOut bits size begin tail [] = begin ≡ tail
IsLaidOut bits size begin tail (e ∷ es) =
    (e.address ≡ begin) × (begin < tail) × IsLaidOut bits size (tail_after bits size begin) tail es
