use Rattle.std.proofs.Common.{◌∙◌, sym, ap}
use Rattle.fkv_functions.specs.Names.{name_cmp}
use Rattle.fkv_runs.specs.Merging.{first_key}
use Rattle.fkv_runs.proofs.MergeLemmas.{none_left, next_key}
use Rattle.fkv_runs.proofs.merging.MergePairs.next_name.Goals as goal

pub returns-in_err-name : goal.returns-in_err-name
returns-in_err-name g c =
    c.from_residual.ensures
    ∙ ap first_key (sym (none_left name_cmp g.P.Pairs.left c.self.inside.rests.items (sym c.in_err-name.was ∙ c.self.invariant)) ∙ c.self.view_is)

pub returns : goal.returns
returns g c =
    next_key name_cmp g.P.Pairs.left c.self.inside.rests.items c.in_ok-name.field-0-0 c.in_ok-name.name (sym c.in_ok-name.was ∙ c.self.invariant)
    ∙ ap first_key c.self.view_is
