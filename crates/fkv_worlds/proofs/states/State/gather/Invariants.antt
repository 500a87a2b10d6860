use Rattle.std.proofs.Common.{None, cond, nat_lt, length}
use Rattle.std.specs.BTreeMap.{get}
use Rattle.fkv_functions.specs.Plain.{Same}
use Rattle.fkv_partition.specs.Views.{partition_of}
use Rattle.fkv_partition.specs.Unions.{union_of}
use Rattle.fkv_worlds.proofs.states.State.gather.Given as goal

-- the map has what is live in the partitions so far
abbrev pub invariant-loop-partition : goal.invariant-loop-partition
invariant-loop-partition g l = Same (get g.F.Key.Ord.cmp l.map) (λ q. cond (nat_lt (partition_of (length l.self.partitions) (g.F.Functions.code q)) l.partition-index) (union_of g.F.Key.Ord.cmp g.F.Functions.code l.self.partitions q) None)
