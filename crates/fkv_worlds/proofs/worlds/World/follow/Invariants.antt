use Rattle.std.proofs.Common.{◌≡◌, ◌+◌, ℕ, Option, Result}
use Rattle.fkv_functions.specs.declared.refusals.Refused.{Refused}
use Rattle.fkv_lives.specs.declared.outcomes.Outcome.{Outcome}
use Rattle.fkv_hybrid.specs.Spelled.{IsEntryIn}
use Rattle.fkv_worlds.proofs.Naming.{stands}
use Rattle.fkv_device.specs.declared.memory.MemoryReceipt.{MemoryReceipt}
use Rattle.fkv_worlds.specs.States.{WorldView}
use Rattle.fkv_worlds.specs.Reports.{RunsUntil, first_step}
use Rattle.fkv_worlds.proofs.worlds.World.follow.Given as goal

-- whatever the steps that are left come to, all of them come to
abbrev pub invariant-loop : goal.invariant-loop
invariant-loop g l = (n : ℕ) (new : WorldView g.row.F-Key.Denot g.row.F-Value.Denot g.row.F-Input.Denot g.row.F-Output.Denot MemoryReceipt) (result : Option (Result (Outcome g.row.F-Value.Denot g.row.F-Output.Denot) Refused)) → n + l.counter ≡ 10000
    → RunsUntil stands (IsEntryIn {K = g.row.F-Key.Denot} {V = g.row.F-Value.Denot} g.F.Key.Fixed.codec g.F.Value.Fixed.codec) g.F.Key.Ord.cmp g.F.Mergeable.parts.joined g.F.Functions.meaning g.F.Functions.code l.until l.place new result n l.step l.self
    → RunsUntil stands (IsEntryIn {K = g.row.F-Key.Denot} {V = g.row.F-Value.Denot} g.F.Key.Fixed.codec g.F.Value.Fixed.codec) g.F.Key.Ord.cmp g.F.Mergeable.parts.joined g.F.Functions.meaning g.F.Functions.code l.until l.place new result 10000 (first_step l.initial.self.state.partitions l.until l.place) l.initial.self
