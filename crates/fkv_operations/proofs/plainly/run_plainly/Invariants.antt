use Rattle.std.proofs.Common.{◌≡◌, take, None}
use Rattle.std.specs.BTreeMap.{get}
use Rattle.fkv_functions.specs.Plain.{Same}
use Rattle.fkv_operations.specs.After.{after_all, answers}
use Rattle.fkv_operations.proofs.plainly.run_plainly.Given as goal

-- the map and the answers are those of the operations so far
abbrev pub invariant-loop-op : goal.invariant-loop-op
invariant-loop-op g l = record {
  map : Same (get g.F.Key.Ord.cmp l.map) (after_all g.F.Key.Ord.cmp g.F.Functions.meaning (λ key. None) (take l.op-index l.ops));
  told : l.told.items ≡ answers g.F.Key.Ord.cmp g.F.Functions.meaning (λ key. None) (take l.op-index l.ops);
}
