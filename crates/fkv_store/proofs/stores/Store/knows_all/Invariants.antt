use Rattle.std.proofs.Common.{take}
use Rattle.std.specs.List.{All}
use Rattle.fkv_store.specs.Passes.{IsPassOf}
use Rattle.fkv_store.proofs.stores.Store.knows_all.Given as goal

abbrev pub invariant-loop-pass : goal.invariant-loop-pass
invariant-loop-pass g l = All (IsPassOf l.self) (take l.pass-index l.passes)
