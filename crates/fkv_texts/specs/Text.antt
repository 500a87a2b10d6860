-- The text of a log: the list of its entries in rising address, and what it says of a key.
use Rattle.std.specs.Prelude.{◌≡◌, ℕ, ◌<◌, ◌≤◌, Bool, cond, ◌&&◌, ◌==◌, List, [], ◌∷◌, Option, Some, None, nat_le}
use Rattle.std.specs.Prelude.{slice_get, map, filter}
use Rattle.std.specs.Option.{option_or}
use Rattle.std.specs.declared.cmp.Ordering.{Ordering}
use Rattle.std.specs.BTreeMap.{is_at}
use Rattle.fkv_functions.specs.Plain.{PlainMap}
use Rattle.fkv_texts.specs.declared.entries.Entry.{Entry}

-- the last that passes a test
abbrev pub last_where : {A : Type 0} → (A → Bool) → List A → Option A
last_where p [] = None
last_where p (x ∷ xs) = option_or (last_where p xs) (cond (p x) (Some x) None)

-- the entry at an address
abbrev pub entry_at : {K V : Type 0} → List (Entry K V) → ℕ → Option (Entry K V)
entry_at text a = last_where (λ e. e.address == a) text

-- whether an entry is of this key
abbrev pub has_key : {K V : Type 0} → (K → K → Ordering) → K → Entry K V → Bool
has_key cmp k e = is_at (cmp e.key) k

-- the last entry of a key
abbrev pub last_of : {K V : Type 0} → (K → K → Ordering) → List (Entry K V) → K → Option (Entry K V)
last_of cmp text k = last_where (has_key cmp k) text

-- the last entry of a key at or below an address
abbrev pub newest : {K V : Type 0} → (K → K → Ordering) → List (Entry K V) → K → ℕ → Option (Entry K V)
newest cmp text k a = last_where (λ e. nat_le e.address a && has_key cmp k e) text

-- the value of an entry: none for a tombstone, and where there is no entry
abbrev pub value_of : {K V : Type 0} → Option (Entry K V) → Option V
value_of None = None
value_of (Some e) = e.value

-- the value of the entry at an address
abbrev pub value_at : {K V : Type 0} → List (Entry K V) → ℕ → Option V
value_at text a = value_of (entry_at text a)

-- the live map: the last entry of a key wins
abbrev pub live : {K V : Type 0} → (K → K → Ordering) → List (Entry K V) → PlainMap K V
live cmp text k = value_of (last_of cmp text k)

-- an entry with another value, or a tombstone, where it stands at this address
abbrev pub set_at : {K V : Type 0} → ℕ → Option V → Entry K V → Entry K V
set_at a v e = cond (e.address == a) (record e { value = v }) e

-- the text whose entry at an address has this value, or is a tombstone; all else is as it was
abbrev pub changed : {K V : Type 0} → List (Entry K V) → ℕ → Option V → List (Entry K V)
changed text a v = map (set_at a v) text

-- the entries from an address on
abbrev pub text_from : {K V : Type 0} → ℕ → List (Entry K V) → List (Entry K V)
text_from a text = filter (λ e. nat_le a e.address) text

-- all entries stand above an address
abbrev pub AllAbove : {K V : Type 0} → ℕ → List (Entry K V) → Type 0
AllAbove a [] = Unit {0}
AllAbove a (e ∷ es) = (a < e.address) × AllAbove a es

-- addresses rise
abbrev pub IsRising : {K V : Type 0} → List (Entry K V) → Type 0
IsRising [] = Unit {0}
IsRising (e ∷ es) = AllAbove e.address es × IsRising es

-- all entries stand at or above an address, and below one
abbrev pub IsFrom : {K V : Type 0} → ℕ → List (Entry K V) → Type 0
IsFrom {K} {V} begin text = (i : ℕ) (e : Entry K V) → slice_get text i ≡ Some e → begin ≤ e.address

abbrev pub IsBelow : {K V : Type 0} → ℕ → List (Entry K V) → Type 0
IsBelow {K} {V} tail text = (i : ℕ) (e : Entry K V) → slice_get text i ≡ Some e → e.address < tail
