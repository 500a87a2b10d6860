use Rattle.std.proofs.Common.{take}
use Rattle.fkv_functions.specs.Names.{name_cmp}
use Rattle.fkv_steps.specs.Bytes.{standing_of, IsNamedEntry}
use Rattle.fkv_steps.specs.Running.{RunLines}
use Rattle.fkv_steps.proofs.scripts.running.run_lines.Given as goal

-- the lines so far lead to the world, and told this
abbrev pub invariant-loop-line : goal.invariant-loop-line
invariant-loop-line g l = RunLines standing_of (IsNamedEntry g.F.Value.Fixed.codec) name_cmp g.F.Mergeable.parts.joined g.F.Functions.meaning g.F.Functions.code g.F.Value.FromAmount.written l.fn.world (take l.line-index l.lines) l.told.items l.world
