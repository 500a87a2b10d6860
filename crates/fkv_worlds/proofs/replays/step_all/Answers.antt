use Rattle.std.proofs.Common.{◌≡◌, ◌+◌, ◌∷◌, [], ◌++◌, take, subst, sym, ap, ◌∙◌, add-one, arith}
use Rattle.std.proofs.Math.Seq.{take-suc}
use Rattle.fkv_hybrid.specs.Spelled.{IsEntryIn}
use Rattle.fkv_worlds.proofs.Naming.{stands}
use Rattle.fkv_worlds.specs.Reports.{RunsTo}
use Rattle.fkv_worlds.proofs.ReportLemmas.{runs-append, take-all}
use Rattle.fkv_worlds.proofs.replays.step_all.Goals as goal

pub loop-step-preserved : goal.loop-step-preserved
loop-step-preserved g c =
    let done = take c.loop-step.step-index c.args.steps.now in
    let step = c.step-item.result in
    let took : take (c.loop-step.step-index + 1) c.args.steps.now ≡ done ++ step ∷ [] =
    rw add-one (take-suc c.args.steps.now c.loop-step.step-index step c.loop-step-test.true ∙ ap (λ x. done ++ x ∷ []) (sym c.step-item.is)) in
    rw took (runs-append _ _ g.F.Key.Ord.cmp g.F.Mergeable.parts.joined g.F.Functions.meaning g.F.Functions.code c.args.world.now c.loop-step.world c.try_step.new.self done step c.in-Some._told c.loop-step.invariant
    c.in-Some.ensures.kept)

pub returns-clause-ok : goal.returns-clause-ok
returns-clause-ok g c =
    subst (λ ss. RunsTo stands (IsEntryIn {K = g.row.F-Key.Denot} {V = g.row.F-Value.Denot} g.F.Key.Fixed.codec g.F.Value.Fixed.codec) g.F.Key.Ord.cmp g.F.Mergeable.parts.joined g.F.Functions.meaning g.F.Functions.code c.args.world.now ss c.loop-step.world) (take-all c.loop-step.step-index c.args.steps.now (let t = c.loop-step-test.false in omega arith)) c.loop-step.invariant
