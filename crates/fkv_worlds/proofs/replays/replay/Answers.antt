use Rattle.std.proofs.Common.{◌≡◌, inr, Result, Err, IfErr, map, [], sym, ap, ◌∙◌}
use Rattle.std.proofs.lemmas.Result.{IfOk-weaker, IfErr-weaker}
use Rattle.fkv_functions.specs.declared.refusals.Refused.{Refused}
use Rattle.fkv_functions.specs.declared.refusals.Refused.TheVariants.{BadConfig, NoMemory}
use Rattle.fkv_records.specs.Records.{size_of}
use Rattle.fkv_lives.specs.Histories.{backwards, issues_in, issue_of}
use Rattle.fkv_hybrid.specs.Spelled.{IsEntryIn}
use Rattle.fkv_worlds.proofs.Naming.{stands}
use Rattle.fkv_worlds.specs.Reports.{RunsTo}
use Rattle.fkv_worlds.specs.States.{empty_world}
use Rattle.fkv_worlds.proofs.ResultLemmas.{ok_not_err, err_as}
use Rattle.fkv_worlds.proofs.HistoryLemmas.{issued-runs}
use Rattle.fkv_worlds.proofs.replays.replay.Goals as goal

not_bad : {A : Type 0} (r : Result A Refused) → IfErr r (λ e. e ≡ NoMemory) → r ≡ Err BadConfig → ⊥
not_bad r only e = let h : BadConfig ≡ NoMemory = rw e at only in absurd (cc)

pub returns-in-Ok-clause-ok : goal.returns-in-Ok-clause-ok
returns-in-Ok-clause-ok g c =
    let size = size_of g.F.Key.Fixed.SIZE g.F.Value.Fixed.SIZE in
    IfOk-weaker c.run.result _ _ (λ v h.
    let ran : RunsTo stands (IsEntryIn {K = g.row.F-Key.Denot} {V = g.row.F-Value.Denot} g.F.Key.Fixed.codec g.F.Value.Fixed.codec) g.F.Key.Ord.cmp g.F.Mergeable.parts.joined g.F.Functions.meaning g.F.Functions.code (empty_world g.F.Mergeable.MERGES c.args.config.now size) c.args.steps.now c.run.new.world = rw (← c.in-Ok.ensures.ok) h.0 in
    record {
      world = c.run.new.world;
      ran = ran;
      headline = c.run.ensures.headline;
      report = h.1;
      issued = ap (map issue_of) h.1.lives
          ∙ issued-runs stands (IsEntryIn {K = g.row.F-Key.Denot} {V = g.row.F-Value.Denot} g.F.Key.Fixed.codec g.F.Value.Fixed.codec) g.F.Key.Ord.cmp g.F.Mergeable.parts.joined g.F.Functions.meaning g.F.Functions.code g.F.Mergeable.MERGES c.args.config.now size c.run.new.world c.args.steps.now ran c.run.ensures.headline
          ∙ ap (λ ts. issues_in (backwards c.args.steps.now ts [])) (sym h.1.outcomes);
    }) c.run.ensures.ok

pub returns-in-Ok-clause-good : goal.returns-in-Ok-clause-good
returns-in-Ok-clause-good g c = λ _. c.in-Ok.ensures.good ok_not_err

pub returns-in-Ok-clause-bad : goal.returns-in-Ok-clause-bad
returns-in-Ok-clause-bad g c = λ e. absurd (not_bad c.run.result c.run.ensures.only e)

pub returns-in-Ok-clause-only : goal.returns-in-Ok-clause-only
returns-in-Ok-clause-only g c = IfErr-weaker c.run.result _ _ (λ e h. inr h) c.run.ensures.only

pub returns-in-Err-clause-good : goal.returns-in-Err-clause-good
returns-in-Err-clause-good g c = λ n. c.in-Err.ensures.good (λ e. n (err_as e))

pub returns-in-Err-clause-bad : goal.returns-in-Err-clause-bad
returns-in-Err-clause-bad g c = λ e. c.in-Err.ensures.bad (err_as e)

pub returns-in-Err-clause-only : goal.returns-in-Err-clause-only
returns-in-Err-clause-only g c = c.in-Err.ensures.only
