use Rattle.std.proofs.Common.{◌≡◌, take}
use Rattle.fkv_store.specs.Passes.{PassView, IsPassOf}
use Rattle.fkv_store.specs.Rows.{AreMade}
use Rattle.fkv_store.specs.declared.running.Loads.{Loads}
use Rattle.fkv_store.proofs.passes.Pass.update_rows.Given as goal

abbrev pub invariant-loop-place : goal.invariant-loop-place
invariant-loop-place g l = record {
  number : (l.held.partition.number ≡ l.partition) × (l.held.partition.count ≡ l.store.count);
  own : IsPassOf l.store l.self;
  made : (how : Loads) (first : PassView _ _ _ _)
      → AreMade g.H.Recorder.keeps g.F.Functions.code how l.store first (take l.made l.rows) l.initial.self
      → AreMade g.H.Recorder.keeps g.F.Functions.code how l.store first (take l.place l.rows) l.self;
}
