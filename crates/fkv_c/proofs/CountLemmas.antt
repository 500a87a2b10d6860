-- A store of counts is one of whole numbers.
use Rattle.std.specs.Prelude.{◌≡◌, ◌+◌, ◌%◌, ◌^◌, ℕ, ℤ, Bool, true, false, cond, List, [], ◌∷◌, map, All, Option, Some, None}
use Rattle.std.specs.BTreeMap.Range.{IsLtBy}
use Rattle.std.specs.BTreeMap.{is_at}
use Rattle.std.proofs.Common.{refl, sym, ap, ◌∙◌, subst}
use Rattle.fkv_functions.specs.declared.names.Name.{Name}
use Rattle.fkv_functions.specs.Names.{name_cmp}
use Rattle.fkv_functions.specs.Meanings.{updated}
use Rattle.fkv_functions.specs.Plain.{PlainMap, Same}
use Rattle.fkv_functions.specs.Sets.{counts}
use Rattle.fkv_operations.specs.After.{after, after_update, answer, shown_of, told_of}
use Rattle.fkv_operations.specs.declared.operations.KeyedOp.{KeyedOp}
use Rattle.fkv_operations.specs.declared.operations.KeyedOp.TheVariants.{Read, Upsert, Rmw, Delete, Merge}
use Rattle.fkv_operations.specs.declared.operations.Answer.{Answer}
use Rattle.fkv_c.specs.Counting.{counted, whole, whole_of, whole_op, whole_answer, whole_pairs}
use Rattle.fkv_c.specs.Leading.{FirstIsLeast}

cond_whole : (b : Bool) (v w : Option ℕ) → whole_of (cond b v w) ≡ cond b (whole_of v) (whole_of w)
cond_whole true v w = refl
cond_whole false v w = refl

updated_whole : (m : PlainMap Name ℕ) (k : Name) (i : ℤ) (held : Option ℕ)
    → Same (whole (after_update name_cmp m k (updated counts k i held))) (after_update name_cmp (whole m) k (updated counted k i (whole_of held)))
updated_whole m k i None q = cond_whole (is_at (name_cmp k) q) (Some 1) (m q)
updated_whole m k i (Some v) q = cond_whole (is_at (name_cmp k) q) (Some ((v + 1) % 2 ^ 64)) (m q)

-- the map after an operation
after_whole : (m : PlainMap Name ℕ) (op : KeyedOp Name ℕ ℤ)
    → Same (whole (after name_cmp counts m op)) (after name_cmp counted (whole m) (whole_op op))
after_whole m (Read k i) q = refl
after_whole m (Upsert k n) q = cond_whole (is_at (name_cmp k) q) (Some n) (m q)
after_whole m (Rmw k i) q = updated_whole m k i (m k) q
after_whole m (Delete k) q = cond_whole (is_at (name_cmp k) q) None (m q)
after_whole m (Merge k i) q = updated_whole m k i (m k) q

shown_whole : (k : Name) (i : ℤ) (held : Option ℕ) → whole_answer (shown_of counts k i held) ≡ shown_of counted k i (whole_of held)
shown_whole k i None = refl
shown_whole k i (Some v) = refl

told_whole : (k : Name) (i : ℤ) (held : Option ℕ)
    → whole_answer (told_of counts k i (updated counts k i held)) ≡ told_of counted k i (updated counted k i (whole_of held))
told_whole k i None = refl
told_whole k i (Some v) = refl

-- and its answer
answer_whole : (m : PlainMap Name ℕ) (op : KeyedOp Name ℕ ℤ) → whole_answer (answer counts m op) ≡ answer counted (whole m) (whole_op op)
answer_whole m (Read k i) = shown_whole k i (m k)
answer_whole m (Upsert k n) = refl
answer_whole m (Rmw k i) = told_whole k i (m k)
answer_whole m (Delete k) = refl
answer_whole m (Merge k i) = refl

-- what an operation on counts has made is what that on whole numbers makes
pub made_whole : (old new : PlainMap Name ℕ) (n : KeyedOp Name ℕ ℤ) (op : KeyedOp Name ℤ ℤ) (a : Answer ℕ) → whole_op n ≡ op
    → Same new (after name_cmp counts old n) → a ≡ answer counts old n
    → Same (whole new) (after name_cmp counted (whole old) op) × (whole_answer a ≡ answer counted (whole old) op)
made_whole old new n op a e same is =
    subst (λ o. Same (whole new) (after name_cmp counted (whole old) o) × (whole_answer a ≡ answer counted (whole old) o)) e
    (λ q. ap whole_of (same q) ∙ after_whole old n q, ap whole_answer is ∙ answer_whole old n)

keys_whole : (pairs : List (Name × ℕ)) → map (λ p. p.0) (whole_pairs pairs) ≡ map (λ p. p.0) pairs
keys_whole [] = refl
keys_whole (p ∷ ps) = ap (λ ks. p.0 ∷ ks) (keys_whole ps)

-- of pairs whose first name is the least it is the least of the same pairs as whole numbers
pub first_whole : (pairs : List (Name × ℕ)) → FirstIsLeast pairs → FirstIsLeast (whole_pairs pairs)
first_whole [] h = tt
first_whole (p ∷ ps) h = subst (All (IsLtBy name_cmp p.0)) (sym (keys_whole ps)) h
