use Rattle.std.proofs.Common.{sym, refl, ◌∙◌}
use Rattle.fkv_functions.specs.Names.{name_cmp}
use Rattle.fkv_steps.specs.Bytes.{standing_of, IsNamedEntry}
use Rattle.fkv_steps.specs.Running.{FollowsIssue}
use Rattle.fkv_steps.proofs.RunningLemmas.{did-finish}
use Rattle.fkv_steps.proofs.scripts.running.finish_issued.Goals as goal

pub returns-in_default : goal.returns-in_default
returns-in_default g c = FollowsIssue.tells (sym c.context_in.ensures ∙ c.in_default.is) refl refl

pub returns : goal.returns
returns g c =
    did-finish standing_of (IsNamedEntry g.F.Value.Fixed.codec) name_cmp g.F.Mergeable.parts.joined g.F.Functions.meaning g.F.Functions.code c.args.partition c.args.slot c.in-Some.context _ _ c.args.issued c.run_until.result
    (sym c.context_in.ensures ∙ c.in-Some.is) c.run_until.ensures.runs
