use Rattle.std.proofs.Common.{◌≡◌, IsTrue, None, cond, nat_lt, length, map}
use Rattle.std.specs.BTreeMap.{get}
use Rattle.fkv_functions.specs.Plain.{Same}
use Rattle.fkv_partition.specs.Views.{partition_of}
use Rattle.fkv_partition.specs.Unions.{union_of}
use Rattle.fkv_closing.proofs.gathering.gather.Given as goal

-- no reader counted a failure, and on a device that keeps the map has what is live in the partitions so far
abbrev pub invariant-loop-place : goal.invariant-loop-place
invariant-loop-place g l = record {
  sized : length l.readers ≡ length l.initial.readers;
  steady : map g.P.PageReader.failures l.readers ≡ map g.P.PageReader.failures l.initial.readers;
  so_far : IsTrue g.R.Receipt.keeps → Same (get g.F.Key.Ord.cmp l.tree) (λ q. cond (nat_lt (partition_of (length (map (λ part. part.partition) l.parts)) (g.F.Functions.code q)) l.place) (union_of g.F.Key.Ord.cmp g.F.Functions.code (map (λ part. part.partition) l.parts) q) None);
}
