use Rattle.std.proofs.Common.{◌≡◌, ◌≤◌, ◌+◌, ◌∷◌, [], ◌++◌, take, subst, length, sym, ap, ◌∙◌, add-one, arith}
use Rattle.std.proofs.Math.Seq.{take-suc}
use Rattle.fkv_functions.specs.Names.{name_cmp}
use Rattle.fkv_steps.specs.Bytes.{standing_of, IsNamedEntry}
use Rattle.fkv_steps.specs.Running.{RunLines}
use Rattle.fkv_worlds.proofs.ReportLemmas.{take-all}
use Rattle.fkv_steps.proofs.RunningLemmas.{lines-append}
use Rattle.fkv_steps.proofs.scripts.running.run_lines.Goals as goal

pub loop-line-preserved : goal.loop-line-preserved
loop-line-preserved g c =
    let done = take c.loop-line.line-index c.args.lines.now in
    let line = c.line-item.result in
    let took : take (c.loop-line.line-index + 1) c.args.lines.now ≡ done ++ line ∷ [] =
    rw add-one (take-suc c.args.lines.now c.loop-line.line-index line c.loop-line-test.true ∙ ap (λ x. done ++ x ∷ []) (sym c.line-item.is)) in
    rw (took, c.in-Ok.ensures.items)
    (lines-append standing_of (IsNamedEntry g.F.Value.Fixed.codec) name_cmp g.F.Mergeable.parts.joined g.F.Functions.meaning g.F.Functions.code g.F.Value.FromAmount.written c.args.world.now c.loop-line.world c.run_line.new.world done c.loop-line.told.items line c.in-Some.one
    c.loop-line.invariant c.in-Some.ensures)

pub returns-clause-ok : goal.returns-clause-ok
returns-clause-ok g c =
    let past : length c.args.lines.now ≤ c.loop-line.line-index = (let t = c.loop-line-test.false in omega arith) in
    subst (λ ls. RunLines standing_of (IsNamedEntry g.F.Value.Fixed.codec) name_cmp g.F.Mergeable.parts.joined g.F.Functions.meaning g.F.Functions.code g.F.Value.FromAmount.written c.args.world.now ls c.loop-line.told.items c.loop-line.world) (take-all c.loop-line.line-index c.args.lines.now past) c.loop-line.invariant
