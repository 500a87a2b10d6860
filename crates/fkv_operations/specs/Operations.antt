-- All operations: those on keys, and relocations, which leave the map and answer Cleared.
use Rattle.std.specs.Prelude.{Bool, true, false, Option, Some, None}
use Rattle.std.specs.declared.cmp.Ordering.{Ordering}
use Rattle.fkv_functions.specs.Meanings.{Meanings}
use Rattle.fkv_functions.specs.Plain.{PlainMap}
use Rattle.fkv_operations.specs.declared.operations.KeyedOp.{KeyedOp}
use Rattle.fkv_operations.specs.declared.operations.KeyedOp.TheVariants as on_key
use Rattle.fkv_operations.specs.declared.operations.Op.{Op}
use Rattle.fkv_operations.specs.declared.operations.Op.TheVariants.{Read, Upsert, Rmw, Delete, Merge, Relocate}
use Rattle.fkv_operations.specs.declared.operations.Answer.{Answer}
use Rattle.fkv_operations.specs.declared.operations.Answer.TheVariants.{Cleared}
use Rattle.fkv_operations.specs.After.{after, answer}

-- the operation on a key, or none for a relocation
abbrev pub keyed : {K V I : Type 0} → Op K V I → Option (KeyedOp K V I)
keyed (Read k i) = Some (on_key.Read k i)
keyed (Upsert k v) = Some (on_key.Upsert k v)
keyed (Rmw k i) = Some (on_key.Rmw k i)
keyed (Delete k) = Some (on_key.Delete k)
keyed (Merge k i) = Some (on_key.Merge k i)
keyed Relocate = None

-- an operation on a key, among all operations
abbrev pub op_of : {K V I : Type 0} → KeyedOp K V I → Op K V I
op_of (on_key.Read k i) = Read k i
op_of (on_key.Upsert k v) = Upsert k v
op_of (on_key.Rmw k i) = Rmw k i
op_of (on_key.Delete k) = Delete k
op_of (on_key.Merge k i) = Merge k i

-- whether an operation may change the map
abbrev pub may_update : {K V I : Type 0} → Op K V I → Bool
may_update (Read k i) = false
may_update (Upsert k v) = true
may_update (Rmw k i) = true
may_update (Delete k) = true
may_update (Merge k i) = true
may_update Relocate = false

-- the map after an operation on a key, if there is one
abbrev pub after_keyed : {K V I O : Type 0} → (K → K → Ordering) → Meanings K V I O → PlainMap K V
    → Option (KeyedOp K V I) → PlainMap K V
after_keyed cmp f m None = m
after_keyed cmp f m (Some op) = after cmp f m op

-- the map after an operation: a relocation leaves it
abbrev pub map_after : {K V I O : Type 0} → (K → K → Ordering) → Meanings K V I O → PlainMap K V → Op K V I
    → PlainMap K V
map_after cmp f m op = after_keyed cmp f m (keyed op)

-- the answer to an operation on a key, if there is one, and else that of a relocation
abbrev pub answer_keyed : {K V I O : Type 0} → Meanings K V I O → PlainMap K V → Option (KeyedOp K V I) → Answer O
answer_keyed f m None = Cleared
answer_keyed f m (Some op) = answer f m op

-- the answer to an operation
abbrev pub answer_to : {K V I O : Type 0} → Meanings K V I O → PlainMap K V → Op K V I → Answer O
answer_to f m op = answer_keyed f m (keyed op)
