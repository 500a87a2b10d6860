-- Laws of operations on plain maps.
use Rattle.std.specs.Prelude.{◌≡◌, false, List, [], ◌∷◌, ◌++◌}
use Rattle.std.specs.declared.cmp.Ordering.{Ordering}
use Rattle.std.proofs.Common.{refl, ap}
use Rattle.fkv_functions.specs.Meanings.{Meanings}
use Rattle.fkv_functions.specs.Plain.{PlainMap, Same}
use Rattle.fkv_operations.specs.declared.operations.KeyedOp.{KeyedOp}
use Rattle.fkv_operations.specs.declared.operations.KeyedOp.TheVariants.{Read, Upsert, Rmw, Delete, Merge}
use Rattle.fkv_operations.specs.After.{is_update, after, answer, after_all, answers}

-- maps that agree at each key are one map
pub same_map : {K V : Type 0} (m n : PlainMap K V) → Same m n → m ≡ n
same_map m n h = λ i k. h k i

-- an operation that is no update leaves the map
pub after-quiet : {K V I O : Type 0} (cmp : K → K → Ordering) (f : Meanings K V I O) (m : PlainMap K V) (op : KeyedOp K V I)
    → is_update op ≡ false
    → after cmp f m op ≡ m
after-quiet cmp f m (Read k i) h = refl
after-quiet cmp f m (Upsert k v) h = absurd (cc)
after-quiet cmp f m (Rmw k i) h = absurd (cc)
after-quiet cmp f m (Delete k) h = absurd (cc)
after-quiet cmp f m (Merge k i) h = absurd (cc)

module _ {K V I O : Type 0} (cmp : K → K → Ordering) (f : Meanings K V I O) where
  -- maps that agree at each key agree after each operation, and answer alike
  pub after-same : (m n : PlainMap K V) (op : KeyedOp K V I) → Same m n → Same (after cmp f m op) (after cmp f n op)
  after-same m n op h = λ k. ap (λ (p : PlainMap K V). after cmp f p op k) (same_map m n h)

  pub answer-same : (m n : PlainMap K V) (op : KeyedOp K V I) → Same m n → answer f m op ≡ answer f n op
  answer-same m n op h = ap (λ (p : PlainMap K V). answer f p op) (same_map m n h)

  -- one more operation
  pub after_all-append : (m : PlainMap K V) (ops : List (KeyedOp K V I)) (op : KeyedOp K V I)
      → after_all cmp f m (ops ++ op ∷ []) ≡ after cmp f (after_all cmp f m ops) op
  after_all-append m [] op = refl
  after_all-append m (one ∷ ops) op = after_all-append (after cmp f m one) ops op

  pub answers-append : (m : PlainMap K V) (ops : List (KeyedOp K V I)) (op : KeyedOp K V I)
      → answers cmp f m (ops ++ op ∷ []) ≡ answers cmp f m ops ++ answer f (after_all cmp f m ops) op ∷ []
  answers-append m [] op = refl
  answers-append m (one ∷ ops) op = ap (λ told. answer f m one ∷ told) (answers-append (after cmp f m one) ops op)
