-- The live map of all partitions, also where there is none.
use Rattle.std.proofs.Common.{◌≡◌, false, cond, ℕ, List, [], ◌∷◌, length, nat_lt, None, sym, ap, subst, ◌∙◌, arith}
use Rattle.std.proofs.lemmas.Bool.Decides.{nat_tests}
use Rattle.std.specs.declared.cmp.Ordering.{Ordering}
use Rattle.fkv_functions.specs.Plain.{PlainMap, Same}
use Rattle.fkv_partition.specs.Views.{partition_of, PartitionView}
use Rattle.fkv_partition.specs.Unions.{union_of}
use Rattle.fkv_partition.proofs.UnionLemmas as unions

module _ {K V I : Type 0} (cmp : K → K → Ordering) (code : K → ℕ) where
  pub union_none : (views : List (PartitionView K V I)) (m : PlainMap K V) → Same m (λ q. None)
      → Same m (λ q. cond (nat_lt (partition_of (length views) (code q)) 0) (union_of cmp code views q) None)
  union_none views m none q =
      let low : nat_lt (partition_of (length views) (code q)) 0 ≡ false = grind (arith, nat_tests) in
      rw low (none q)

  pub union_all : (views : List (PartitionView K V I)) (m : PlainMap K V) (i : ℕ) → length views ≡ i
      → Same m (λ q. cond (nat_lt (partition_of (length views) (code q)) i) (union_of cmp code views q) None)
      → Same m (union_of cmp code views)
  union_all [] m i end h q =
      let low : nat_lt (partition_of 0 (code q)) i ≡ false = grind (arith, nat_tests) in
      h q ∙ ap (λ b. cond b None None) low
  union_all (v ∷ views) m i end h q = unions.live-all cmp code (v ∷ views) m (omega arith)
      (subst (λ n. Same m (λ q. cond (nat_lt (partition_of (length (v ∷ views)) (code q)) n) (union_of cmp code (v ∷ views) q) None)) (sym end) h) q
