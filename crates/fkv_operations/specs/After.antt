-- What an operation does to a plain map, and what it answers.
use Rattle.std.specs.Prelude.{Bool, true, false, List, [], ◌∷◌, Option, Some, None}
use Rattle.std.specs.declared.cmp.Ordering.{Ordering}
use Rattle.fkv_functions.specs.Meanings.{Meanings, updated}
use Rattle.fkv_functions.specs.Plain.{PlainMap, with_at}
use Rattle.fkv_operations.specs.declared.operations.KeyedOp.{KeyedOp}
use Rattle.fkv_operations.specs.declared.operations.KeyedOp.TheVariants.{Read, Upsert, Rmw, Delete, Merge}
use Rattle.fkv_operations.specs.declared.operations.Answer.{Answer}
use Rattle.fkv_operations.specs.declared.operations.Answer.TheVariants.{Value, Absent, Stored, Deleted, Declined}

-- the key of an operation
abbrev pub key_of : {K V I : Type 0} → KeyedOp K V I → K
key_of (Read k i) = k
key_of (Upsert k v) = k
key_of (Rmw k i) = k
key_of (Delete k) = k
key_of (Merge k i) = k

-- whether an operation may change the map
abbrev pub is_update : {K V I : Type 0} → KeyedOp K V I → Bool
is_update (Read k i) = false
is_update (Upsert k v) = true
is_update (Rmw k i) = true
is_update (Delete k) = true
is_update (Merge k i) = true

-- whether only functions that merge have it
abbrev pub is_merge : {K V I : Type 0} → KeyedOp K V I → Bool
is_merge (Read k i) = false
is_merge (Upsert k v) = false
is_merge (Rmw k i) = false
is_merge (Delete k) = false
is_merge (Merge k i) = true

-- the map after an update of a key that came to this value: a declined one leaves it
abbrev pub after_update : {K V : Type 0} → (K → K → Ordering) → PlainMap K V → K → Option V → PlainMap K V
after_update cmp m k None = m
after_update cmp m k (Some v) = with_at cmp m k (Some v)

-- the map after an operation; a merge does what an update does
abbrev pub after : {K V I O : Type 0} → (K → K → Ordering) → Meanings K V I O → PlainMap K V → KeyedOp K V I → PlainMap K V
after cmp f m (Read k i) = m
after cmp f m (Upsert k v) = with_at cmp m k (Some v)
after cmp f m (Rmw k i) = after_update cmp m k (updated f k i (m k))
after cmp f m (Delete k) = with_at cmp m k None
after cmp f m (Merge k i) = after_update cmp m k (updated f k i (m k))

-- what a read shows where the key has this value, or none
abbrev pub shown_of : {K V I O : Type 0} → Meanings K V I O → K → I → Option V → Answer O
shown_of f k i None = Absent
shown_of f k i (Some v) = Value (f.shown k i v)

-- what an update tells that came to this value, or was declined
abbrev pub told_of : {K V I O : Type 0} → Meanings K V I O → K → I → Option V → Answer O
told_of f k i None = Declined
told_of f k i (Some v) = Value (f.shown k i v)

-- the answer to an operation
abbrev pub answer : {K V I O : Type 0} → Meanings K V I O → PlainMap K V → KeyedOp K V I → Answer O
answer f m (Read k i) = shown_of f k i (m k)
answer f m (Upsert k v) = Stored
answer f m (Rmw k i) = told_of f k i (updated f k i (m k))
answer f m (Delete k) = Deleted
answer f m (Merge k i) = Stored

-- the map after a list of operations
abbrev pub after_all : {K V I O : Type 0} → (K → K → Ordering) → Meanings K V I O → PlainMap K V → List (KeyedOp K V I)
    → PlainMap K V
after_all cmp f m [] = m
after_all cmp f m (op ∷ ops) = after_all cmp f (after cmp f m op) ops

-- the answers to a list of operations, each from the map that the ones before it leave
abbrev pub answers : {K V I O : Type 0} → (K → K → Ordering) → Meanings K V I O → PlainMap K V → List (KeyedOp K V I)
    → List (Answer O)
answers cmp f m [] = []
answers cmp f m (op ∷ ops) = answer f m op ∷ answers cmp f (after cmp f m op) ops
