-- The live map of several partitions: what a change of one of them does to it, and how it comes together.
use Rattle.std.proofs.Common.{◌≡◌, ◌≢◌, Bool, true, false, cond, ℕ, ◌+◌, ◌<◌, inl, inr, List, length, nat_lt, Option, Some, None, slice_get, slice_set, refl, sym, ◌∙◌, ap, arith}
use Rattle.std.proofs.lemmas.Bool.{cases_eq}
use Rattle.std.proofs.lemmas.Bool.Decides.{nat_tests}
use Rattle.std.proofs.lemmas.List.{length-set}
use Rattle.std.proofs.Math.Nat.{mod-lt}
use Rattle.std.specs.declared.cmp.Ordering.{Ordering}
use Rattle.std.specs.BTreeMap.{is_at}
use Rattle.fkv_functions.specs.Meanings.{Meanings, updated}
use Rattle.fkv_functions.specs.Plain.{PlainMap, Same, with_at, IsKeyOrder}
use Rattle.fkv_functions.proofs.ListLemmas.{get-set_same, get-set_other}
use Rattle.fkv_operations.specs.After.{after, after_update, answer, key_of, shown_of}
use Rattle.fkv_operations.specs.Operations.{keyed, after_keyed, answer_keyed, map_after, answer_to}
use Rattle.fkv_operations.specs.declared.operations.Op.{Op}
use Rattle.fkv_operations.specs.declared.operations.KeyedOp.{KeyedOp}
use Rattle.fkv_operations.specs.declared.operations.KeyedOp.TheVariants.{Read, Upsert, Rmw, Delete, Merge}
use Rattle.fkv_partition.specs.Views.{live_of, partition_of, IsBare, PartitionView}
use Rattle.fkv_partition.specs.Unions.{live_at, union_of}

-- ---- one partition changes
module _ {K V I O : Type 0} (cmp : K → K → Ordering) (o : IsKeyOrder cmp) (f : Meanings K V I O) (code : K → ℕ) (views : List (PartitionView K V I)) (p : ℕ) (old new : PartitionView K V I) (here : slice_get views p ≡ Some old) where
  -- a key that belongs to this partition, and one that does not
  pub live-here : (k : K) → partition_of (length views) (code k) ≡ p → union_of cmp code views k ≡ live_of cmp old k
  live-here k r = ap (λ (q : ℕ). live_at cmp (slice_get views q) k) r ∙ ap (λ t. live_at cmp t k) here

  live-set_here : (k : K) → partition_of (length views) (code k) ≡ p → union_of cmp code (slice_set views p new) k ≡ live_of cmp new k
  live-set_here k r =
      ap (λ (n : ℕ). live_at cmp (slice_get (slice_set views p new) (partition_of n (code k))) k) (length-set views p new)
      ∙ ap (λ (q : ℕ). live_at cmp (slice_get (slice_set views p new) q) k) r
      ∙ ap (λ t. live_at cmp t k) (get-set_same views p old new here)

  live-set_elsewhere : (k : K) → partition_of (length views) (code k) ≢ p → union_of cmp code (slice_set views p new) k ≡ union_of cmp code views k
  live-set_elsewhere k r =
      ap (λ (n : ℕ). live_at cmp (slice_get (slice_set views p new) (partition_of n (code k))) k) (length-set views p new)
      ∙ ap (λ t. live_at cmp t k) (get-set_other views p (partition_of (length views) (code k)) new r)

  -- nothing changed in the partition: nothing in the union
  pub live-quiet : Same (live_of cmp new) (live_of cmp old) → Same (union_of cmp code (slice_set views p new)) (union_of cmp code views)
  live-quiet h k = elim (cases_eq (partition_of (length views) (code k)) p) [
    | inl r ↦ live-set_here k r ∙ h k ∙ sym (live-here k r)
    | inr r ↦ live-set_elsewhere k r
  ]

  -- one value changed, at a key that belongs here
  live-with_at : (k : K) (v : Option V) → partition_of (length views) (code k) ≡ p → Same (live_of cmp new) (with_at cmp (live_of cmp old) k v) → Same (union_of cmp code (slice_set views p new)) (with_at cmp (union_of cmp code views) k v)
  live-with_at k v rk h q = elim (cases_eq (partition_of (length views) (code q)) p) [
    | inl r ↦ live-set_here q r ∙ h q ∙ ap (cond (is_at (cmp k) q) v) (sym (live-here q r))
    | inr r ↦ live-set_elsewhere q r ∙ off (is_at (cmp k) q) refl (λ t. r (ap (λ (x : K). partition_of (length views) (code x)) (sym (o.same k q t)) ∙ rk))
  ]
    where
      off : (b : Bool) → is_at (cmp k) q ≡ b → (is_at (cmp k) q ≡ true → ⊥) → union_of cmp code views q ≡ cond (is_at (cmp k) q) v (union_of cmp code views q)
      off true t n = absurd (n t)
      off false t n = rw t refl

  -- an update of a key that belongs here
  live-updated : (k : K) (i : I) → partition_of (length views) (code k) ≡ p
      → Same (live_of cmp new) (after_update cmp (live_of cmp old) k (updated f k i (live_of cmp old k)))
      → Same (union_of cmp code (slice_set views p new)) (after_update cmp (union_of cmp code views) k (updated f k i (union_of cmp code views k)))
  live-updated k i r h = by_update (updated f k i (live_of cmp old k)) refl h
    where
      came : (o : Option V) → updated f k i (live_of cmp old k) ≡ o → o ≡ updated f k i (union_of cmp code views k)
      came o e = sym e ∙ ap (updated f k i) (sym (live-here k r))

      by_update : (o : Option V) → updated f k i (live_of cmp old k) ≡ o → Same (live_of cmp new) (after_update cmp (live_of cmp old) k o)
          → Same (union_of cmp code (slice_set views p new)) (after_update cmp (union_of cmp code views) k (updated f k i (union_of cmp code views k)))
      by_update None e d q = live-quiet d q ∙ ap (λ (o : Option V). after_update cmp (union_of cmp code views) k o q) (came None e)
      by_update (Some v) e d q = live-with_at k (Some v) r d q ∙ ap (λ (o : Option V). after_update cmp (union_of cmp code views) k o q) (came (Some v) e)

  -- an operation with its key here does to the union what it does to the partition
  pub live-after : (op : KeyedOp K V I) → partition_of (length views) (code (key_of op)) ≡ p → Same (live_of cmp new) (after cmp f (live_of cmp old) op) → Same (union_of cmp code (slice_set views p new)) (after cmp f (union_of cmp code views) op)
  live-after (Read k i) r h = live-quiet h
  live-after (Upsert k v) r h = live-with_at k (Some v) r h
  live-after (Rmw k i) r h = live-updated k i r h
  live-after (Delete k) r h = live-with_at k None r h
  live-after (Merge k i) r h = live-updated k i r h

  -- and is answered the same
  pub answer-here : (op : KeyedOp K V I) → partition_of (length views) (code (key_of op)) ≡ p → answer f (live_of cmp old) op ≡ answer f (union_of cmp code views) op
  answer-here (Read k i) r = ap (shown_of f k i) (sym (live-here k r))
  answer-here (Upsert k v) r = refl
  answer-here (Rmw k i) r = ap (λ (m : Option V). answer f (λ q. m) (Rmw k i)) (sym (live-here k r))
  answer-here (Delete k) r = refl
  answer-here (Merge k i) r = refl

  -- so it is with every operation: one on no key changes nothing, and is answered the same everywhere
  pub live-after_op : (op : Op K V I) → ((o : KeyedOp K V I) → keyed op ≡ Some o → partition_of (length views) (code (key_of o)) ≡ p) → Same (live_of cmp new) (map_after cmp f (live_of cmp old) op) → Same (union_of cmp code (slice_set views p new)) (map_after cmp f (union_of cmp code views) op)
  live-after_op op own h = by_key (keyed op) refl own h
    where
      by_key : (k : Option (KeyedOp K V I)) → keyed op ≡ k → ((o : KeyedOp K V I) → k ≡ Some o → partition_of (length views) (code (key_of o)) ≡ p) → Same (live_of cmp new) (after_keyed cmp f (live_of cmp old) k) → Same (union_of cmp code (slice_set views p new)) (after_keyed cmp f (union_of cmp code views) k)
      by_key None e r d = live-quiet d
      by_key (Some o) e r d = live-after o (r o refl) d

  pub answer-to_op : (op : Op K V I) → ((o : KeyedOp K V I) → keyed op ≡ Some o → partition_of (length views) (code (key_of o)) ≡ p) → answer_to f (live_of cmp old) op ≡ answer_to f (union_of cmp code views) op
  answer-to_op op own = by_key (keyed op) own
    where
      by_key : (k : Option (KeyedOp K V I)) → ((o : KeyedOp K V I) → k ≡ Some o → partition_of (length views) (code (key_of o)) ≡ p) → answer_keyed f (live_of cmp old) k ≡ answer_keyed f (union_of cmp code views) k
      by_key None r = refl
      by_key (Some o) r = answer-here o (r o refl)

-- ---- one key, asked for by another
pub is_at-turned : {K : Type 0} (cmp : K → K → Ordering) (order : IsKeyOrder cmp) (k q : K) (b : Bool) → is_at (cmp k) q ≡ b → is_at (cmp q) k ≡ b
is_at-turned cmp order k q true h = ap (λ x. is_at (cmp x) k) (sym (order.same k q h)) ∙ order.self k
is_at-turned cmp order k q false h = no (is_at (cmp q) k) refl
  where
    no : (b : Bool) → is_at (cmp q) k ≡ b → is_at (cmp q) k ≡ false
    no true e = let t : true ≡ false = sym (order.self k) ∙ ap (λ x. is_at (cmp k) x) (sym (order.same q k e)) ∙ h in absurd (cc)
    no false e = e

-- ---- the live map of the first partitions, and of one more
module _ {K V I : Type 0} (cmp : K → K → Ordering) (code : K → ℕ) (views : List (PartitionView K V I)) where
  pub live-more : (i : ℕ) (v : PartitionView K V I) (m new : PlainMap K V) → slice_get views i ≡ Some v
      → ((q : K) → m q ≡ None → new q ≡ live_of cmp v q)
      → ((q : K) → partition_of (length views) (code q) ≢ i → new q ≡ m q)
      → Same m (λ q. cond (nat_lt (partition_of (length views) (code q)) i) (union_of cmp code views q) None)
      → Same new (λ q. cond (nat_lt (partition_of (length views) (code q)) (i + 1)) (union_of cmp code views q) None)
  live-more i v m new here live others before q = elim (cases_eq (partition_of (length views) (code q)) i) [
    | inl r ↦ (let low : nat_lt (partition_of (length views) (code q)) i ≡ false = grind (arith, nat_tests) in
        let high : nat_lt (partition_of (length views) (code q)) (i + 1) ≡ true = grind (arith, nat_tests) in
        let same : union_of cmp code views q ≡ live_of cmp v q = ap (λ p. live_at cmp (slice_get views p) q) r ∙ ap (λ x. live_at cmp x q) here in
        let none : m q ≡ None = before q ∙ ap (λ b. cond b (union_of cmp code views q) None) low in
        rw high (live q none ∙ sym same))
    | inr n ↦ others q n ∙ before q ∙ ap (λ b. cond b (union_of cmp code views q) None) (apart n)
  ]
    where
      apart : partition_of (length views) (code q) ≢ i → nat_lt (partition_of (length views) (code q)) i ≡ nat_lt (partition_of (length views) (code q)) (i + 1)
      apart n = both (nat_lt (partition_of (length views) (code q)) i) refl
        where
          both : (b : Bool) → nat_lt (partition_of (length views) (code q)) i ≡ b → nat_lt (partition_of (length views) (code q)) i ≡ nat_lt (partition_of (length views) (code q)) (i + 1)
          both true e = let t : nat_lt (partition_of (length views) (code q)) (i + 1) ≡ true = grind (arith, nat_tests) in e ∙ sym t
          both false e = let t : nat_lt (partition_of (length views) (code q)) (i + 1) ≡ false = grind (arith, nat_tests) in e ∙ sym t

  -- all of them are the union's
  pub live-all : (m : PlainMap K V) → 0 < length views → Same m (λ q. cond (nat_lt (partition_of (length views) (code q)) (length views)) (union_of cmp code views q) None) → Same m (union_of cmp code views)
  live-all m some h q = let low : partition_of (length views) (code q) < length views = mod-lt (code q) some in
      let t : nat_lt (partition_of (length views) (code q)) (length views) ≡ true = grind (arith, nat_tests) in
      h q ∙ ap (λ b. cond b (union_of cmp code views q) None) t

  -- no key of a partition has a value in the map of those before it
  pub bare_before : (i : ℕ) (v : PartitionView K V I) (m : PlainMap K V) → v.number ≡ i → v.count ≡ length views
      → Same m (λ q. cond (nat_lt (partition_of (length views) (code q)) i) (union_of cmp code views q) None)
      → IsBare code v m
  bare_before i v m numbered counted before k own =
      let here : partition_of (length views) (code k) ≡ i = ap (λ n. partition_of n (code k)) (sym counted) ∙ own ∙ numbered in
      let low : nat_lt (partition_of (length views) (code k)) i ≡ false = grind (arith, nat_tests) in
      before k ∙ ap (λ b. cond b (union_of cmp code views k) None) low
