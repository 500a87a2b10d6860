-- Counts as whole numbers, which is how they cross.
use Rattle.std.specs.Prelude.{◌+◌, ◌%◌, ◌^◌, ℕ, ℤ, pos, nat_abs, List, map, Option, Some, None}
use Rattle.fkv_functions.specs.declared.names.Name.{Name}
use Rattle.fkv_functions.specs.Meanings.{Meanings}
use Rattle.fkv_functions.specs.Plain.{PlainMap}
use Rattle.fkv_operations.specs.declared.operations.KeyedOp.{KeyedOp}
use Rattle.fkv_operations.specs.declared.operations.KeyedOp.TheVariants.{Read, Upsert, Rmw, Delete, Merge}
use Rattle.fkv_operations.specs.declared.operations.Answer.{Answer}
use Rattle.fkv_operations.specs.declared.operations.Answer.TheVariants.{Value, Absent, Stored, Deleted, Cleared, Declined}

-- how often a key had an input, modulo 2^64, as a whole number
abbrev pub counted : Meanings Name ℤ ℤ ℤ
counted = record {
  first = λ k i. Some (pos 1);
  next = λ k v i. Some (pos ((nat_abs v + 1) % 2 ^ 64));
  shown = λ k i v. v;
}

abbrev pub whole_of : Option ℕ → Option ℤ
whole_of None = None
whole_of (Some n) = Some (pos n)

-- a map of counts, as one of whole numbers
abbrev pub whole : PlainMap Name ℕ → PlainMap Name ℤ
whole m k = whole_of (m k)

abbrev pub whole_pairs : List (Name × ℕ) → List (Name × ℤ)
whole_pairs pairs = map (λ p. (p.0, pos p.1)) pairs

-- an operation on counts, and an answer, as one of whole numbers
abbrev pub whole_op : KeyedOp Name ℕ ℤ → KeyedOp Name ℤ ℤ
whole_op (Read k i) = Read k i
whole_op (Upsert k n) = Upsert k (pos n)
whole_op (Rmw k i) = Rmw k i
whole_op (Delete k) = Delete k
whole_op (Merge k i) = Merge k i

abbrev pub whole_answer : Answer ℕ → Answer ℤ
whole_answer (Value n) = Value (pos n)
whole_answer Absent = Absent
whole_answer Stored = Stored
whole_answer Deleted = Deleted
whole_answer Cleared = Cleared
whole_answer Declined = Declined
