use Rattle.std.proofs.Common.{◌≤◌, ◌-◌, take, length}
use Rattle.fkv_store.specs.Passes.{IsPassOf}
use Rattle.fkv_store.specs.Rows.{AreMade}
use Rattle.fkv_store.proofs.passes.Pass.update_all.Given as goal

abbrev pub invariant-loop-made : goal.invariant-loop-made
invariant-loop-made g l = record {
  own : IsPassOf l.store l.self;
  within : l.made ≤ length l.rows;
  made : AreMade g.H.Recorder.keeps g.F.Functions.code l.loads l.store l.initial.self (take l.made l.rows) l.self;
}

abbrev pub decreases-loop-made : goal.decreases-loop-made
decreases-loop-made g l = length l.rows - l.made
