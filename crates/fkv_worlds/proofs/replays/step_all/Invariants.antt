use Rattle.std.proofs.Common.{take}
use Rattle.fkv_hybrid.specs.Spelled.{IsEntryIn}
use Rattle.fkv_worlds.proofs.Naming.{stands}
use Rattle.fkv_worlds.specs.Reports.{RunsTo}
use Rattle.fkv_worlds.proofs.replays.step_all.Given as goal

-- the steps so far lead to the world
abbrev pub invariant-loop-step : goal.invariant-loop-step
invariant-loop-step g l = RunsTo stands (IsEntryIn {K = g.row.F-Key.Denot} {V = g.row.F-Value.Denot} g.F.Key.Fixed.codec g.F.Value.Fixed.codec) g.F.Key.Ord.cmp g.F.Mergeable.parts.joined g.F.Functions.meaning g.F.Functions.code l.fn.world (take l.step-index l.steps) l.world
