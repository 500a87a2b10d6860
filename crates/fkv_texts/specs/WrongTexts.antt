-- What the definitions refuse, on small texts: keys and values are numbers, and the class of a key is its half.
use Rattle.std.specs.Prelude.{◌≡◌, ◌<◌, ◌/◌, ◌==◌, ℕ, [], ◌∷◌, false, Option, Some, None}
use Rattle.std.specs.Ordering.{nat_cmp}
use Rattle.fkv_texts.specs.declared.entries.Entry.{Entry}
use Rattle.fkv_texts.specs.Text.{newest, live, changed, text_from}
use Rattle.fkv_texts.specs.Places.{IsLaidOut}
use Rattle.fkv_texts.specs.Chains.{IsChained, falling, leads_to}

-- an entry by its address, previous address, key and value
abbrev pub entry : ℕ → ℕ → ℕ → Option ℕ → Entry ℕ ℕ
entry address previous key value = record { address = address; previous = previous; key = key; value = value; delta = false }

-- the class of a key
abbrev pub half : ℕ → ℕ
half k = k / 2

-- the last entry of a key wins, a tombstone too; a key without entries has no value
abbrev pub LiveTakesTheLast : Type 0
LiveTakesTheLast = (v w : Option ℕ)
    → (live nat_cmp (entry 64 1 3 v ∷ []) 3 ≡ v)
    × (live nat_cmp (entry 64 1 3 v ∷ []) 4 ≡ None)
    × (live nat_cmp (entry 64 1 3 v ∷ entry 96 64 3 w ∷ []) 3 ≡ w)
    × (live nat_cmp (entry 64 1 3 v ∷ entry 96 1 4 w ∷ []) 3 ≡ v)

-- the newest of a key at an address stands there or below it
abbrev pub NewestLooksDown : Type 0
NewestLooksDown = (v w : Option ℕ)
    → (newest nat_cmp (entry 64 1 3 v ∷ entry 96 64 3 w ∷ []) 3 63 ≡ None)
    × (newest nat_cmp (entry 64 1 3 v ∷ entry 96 64 3 w ∷ []) 3 64 ≡ Some (entry 64 1 3 v))
    × (newest nat_cmp (entry 64 1 3 v ∷ entry 96 64 3 w ∷ []) 3 95 ≡ Some (entry 64 1 3 v))
    × (newest nat_cmp (entry 64 1 3 v ∷ entry 96 64 3 w ∷ []) 3 96 ≡ Some (entry 96 64 3 w))

-- a previous address leads to the entry before in its class, and below Begin where there is none
abbrev pub LinksLeadBack : Type 0
LinksLeadBack = (p q r : ℕ) (v : Option ℕ)
    → IsChained half (λ c d. c == d) 64 (entry 64 p 2 v ∷ entry 96 q 4 v ∷ entry 128 r 3 v ∷ [])
    → (p < 64) × (q < 64) × (r ≡ 64)

-- the chain of a class has the entries of the class and no others, the last one first
abbrev pub ChainsFall : Type 0
ChainsFall = (p q r : ℕ) (v : Option ℕ)
    → falling half (λ c d. c == d) (entry 64 p 2 v ∷ entry 96 q 4 v ∷ entry 128 r 3 v ∷ []) 1
    ≡ entry 128 r 3 v ∷ entry 64 p 2 v ∷ []

-- a text has an entry at each place: here of records of 32 bytes in pages of 256
abbrev pub HasEachPlace : Type 0
HasEachPlace = (d e : Entry ℕ ℕ) (tail : ℕ)
    → IsLaidOut 8 32 64 tail (d ∷ e ∷ [])
    → (d.address ≡ 64) × (e.address ≡ 96) × (tail ≡ 128)

-- a change is of the one entry at its address, and of its value alone
abbrev pub ChangesOne : Type 0
ChangesOne = (p q : ℕ) (v w x : Option ℕ)
    → (changed (entry 64 p 3 v ∷ entry 96 q 3 w ∷ []) 96 x ≡ entry 64 p 3 v ∷ entry 96 q 3 x ∷ [])
    × (changed (entry 64 p 3 v ∷ entry 96 q 3 w ∷ []) 95 x ≡ entry 64 p 3 v ∷ entry 96 q 3 w ∷ [])

-- a text from an address on has the entries there and above, and no others
abbrev pub CutsBelow : Type 0
CutsBelow = (p q : ℕ) (v w : Option ℕ)
    → (text_from 96 (entry 64 p 3 v ∷ entry 96 q 3 w ∷ []) ≡ entry 96 q 3 w ∷ [])
    × (text_from 97 (entry 64 p 3 v ∷ entry 96 q 3 w ∷ []) ≡ [])

-- from an address through a chain's entries, to where the last of them leads
abbrev pub LeadsThrough : Type 0
LeadsThrough = (p : ℕ) (v : Option ℕ)
    → (leads_to 96 (entry 96 64 2 v ∷ entry 64 p 3 v ∷ []) ≡ p)
    × (leads_to {K = ℕ} {V = ℕ} 96 [] ≡ 96)
