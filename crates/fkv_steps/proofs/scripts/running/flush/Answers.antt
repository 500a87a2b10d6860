use Rattle.std.proofs.Common.{sym, refl, ◌∙◌}
use Rattle.fkv_functions.specs.Names.{name_cmp}
use Rattle.fkv_steps.specs.Bytes.{standing_of, IsNamedEntry}
use Rattle.fkv_steps.specs.Running.{FollowsTake}
use Rattle.fkv_steps.proofs.RunningLemmas.{did-take}
use Rattle.fkv_steps.proofs.scripts.running.flush.Goals as goal

pub returns-then-not-is_page : goal.returns-then-not-is_page
returns-then-not-is_page g c = (_, _, c.in-Some.ensures.kept, FollowsTake.tells (sym c.is_page.ensures ∙ c.if-not-is_page.true) refl refl)

pub returns : goal.returns
returns g c =
    did-take standing_of (IsNamedEntry g.F.Value.Fixed.codec) name_cmp g.F.Mergeable.parts.joined g.F.Functions.meaning g.F.Functions.code g.F.Value.FromAmount.written c.args.partition c.args.access _ _ _ c.in-Some.taken c.try_step-2.result
    c.in-Some.ensures.kept (sym c.is_page.ensures ∙ c.if-not-is_page.false) c.try_step-2.ensures.kept
