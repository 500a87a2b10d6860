-- What legal histories and merges refuse, on small lists: keys, values, inputs and outputs are numbers, the functions any.
use Rattle.std.specs.Prelude.{◌≡◌, ◌≤◌, true, ℕ, [], ◌∷◌}
use Rattle.std.specs.Ordering.{nat_cmp}
use Rattle.fkv_functions.specs.Meanings.{Meanings}
use Rattle.fkv_operations.specs.After.{told_of}
use Rattle.fkv_operations.specs.declared.operations.KeyedOp.{KeyedOp}
use Rattle.fkv_operations.specs.declared.operations.KeyedOp.TheVariants.{Read, Upsert, Rmw, Delete, Merge}
use Rattle.fkv_operations.specs.declared.operations.Answer.{Answer}
use Rattle.fkv_operations.specs.declared.operations.Answer.TheVariants.{Value, Absent, Stored, Deleted}
use Rattle.fkv_histories.specs.declared.entries.Entry.{Entry}
use Rattle.fkv_histories.specs.Histories.{is_update_entry, IsLegal}
use Rattle.fkv_histories.specs.Merges.{IsMerge}
use Rattle.fkv_histories.specs.Merges as merges

-- any functions on numbers
abbrev pub Numbers : Type 0
Numbers = Meanings ℕ ℕ ℕ ℕ

abbrev pub NumberEntry : Type 0
NumberEntry = Entry ℕ ℕ ℕ ℕ

-- an operation of this session, with its answer, `low`, `at` and `high`
abbrev pub entry : ℕ → KeyedOp ℕ ℕ ℕ → Answer ℕ → ℕ → ℕ → ℕ → NumberEntry
entry session op a low at high =
    record { session = session; number = 1; op = op; answer = a; low = low; at = at; high = high }

-- an answer that nobody gave: a read of no value is Absent, a first update shows the first value or is Declined, a blind
-- write or a merge is Stored and a delete is Deleted
abbrev pub RefusesInvented : Type 0
RefusesInvented = (f : Numbers) (k i v : ℕ) (a : Answer ℕ)
    → (IsLegal nat_cmp f (entry 1 (Read k i) a 0 0 0 ∷ []) → a ≡ Absent)
    × (IsLegal nat_cmp f (entry 1 (Rmw k i) a 0 0 0 ∷ []) → a ≡ told_of f k i (f.first k i))
    × (IsLegal nat_cmp f (entry 1 (Upsert k v) a 0 0 0 ∷ []) → a ≡ Stored)
    × (IsLegal nat_cmp f (entry 1 (Delete k) a 0 0 0 ∷ []) → a ≡ Deleted)
    × (IsLegal nat_cmp f (entry 1 (Merge k i) a 0 0 0 ∷ []) → a ≡ Stored)

-- an answer of another place: a read that was completed after a blind write is Absent where it stands before that, and shows
-- what was written where it stands behind it
abbrev pub RefusesMisplaced : Type 0
RefusesMisplaced = (f : Numbers) (k i v : ℕ) (a b : Answer ℕ)
    → (IsLegal nat_cmp f (entry 1 (Upsert k v) a 0 0 0 ∷ entry 2 (Read k i) b 0 0 1 ∷ []) → b ≡ Absent)
    × (IsLegal nat_cmp f (entry 1 (Upsert k v) a 0 0 0 ∷ entry 2 (Read k i) b 0 1 1 ∷ []) → b ≡ Value (f.shown k i v))

-- two updates at one place, or in another order, or completed elsewhere
abbrev pub RefusesSharedPlaces : Type 0
RefusesSharedPlaces = (f : Numbers) (x y : NumberEntry)
    → is_update_entry x ≡ true
    → is_update_entry y ≡ true
    → IsLegal nat_cmp f (x ∷ y ∷ [])
    → (x.at ≡ 0) × (y.at ≡ 1) × (x.high ≡ 0) × (y.high ≡ 1)

-- a place before the issue, or after the completion
abbrev pub RefusesOtherTimes : Type 0
RefusesOtherTimes = (f : Numbers) (x : NumberEntry)
    → IsLegal nat_cmp f (x ∷ [])
    → (x.low ≤ x.at) × (x.at ≤ x.high) × (x.high ≡ 0)

-- an own list with an entry that the history has not, or has otherwise, and a history with one that no list has
abbrev pub RefusesUnequal : Type 0
RefusesUnequal = (x y : NumberEntry)
    → (IsMerge [] ((x ∷ []) ∷ []) → ⊥)
    × (IsMerge (x ∷ []) ([] ∷ []) → ⊥)
    × (IsMerge (x ∷ []) ((y ∷ []) ∷ []) → merges.told_of x ≡ merges.told_of y)

-- a session in two lists
abbrev pub RefusesSharedSessions : Type 0
RefusesSharedSessions = (x y : NumberEntry)
    → x.session ≡ y.session
    → IsMerge (x ∷ y ∷ []) ((x ∷ []) ∷ (y ∷ []) ∷ [])
    → ⊥

-- two updates in another order
abbrev pub RefusesOtherOrder : Type 0
RefusesOtherOrder = (x y : NumberEntry)
    → is_update_entry x ≡ true
    → is_update_entry y ≡ true
    → IsMerge (x ∷ y ∷ []) ((y ∷ x ∷ []) ∷ [])
    → merges.told_of x ≡ merges.told_of y

-- two sessions that take turns are merged, whatever `low` and `high` the lists have
abbrev pub TakesTurns : Type 0
TakesTurns = (p q r : KeyedOp ℕ ℕ ℕ) (a b c : Answer ℕ) (i j k l m n s t u : ℕ)
    → IsMerge (entry 1 p a i s j ∷ entry 2 q b i t j ∷ entry 1 r c i u j ∷ [])
    ((entry 1 p a k s l ∷ entry 1 r c m u n ∷ []) ∷ (entry 2 q b k t l ∷ []) ∷ [])
