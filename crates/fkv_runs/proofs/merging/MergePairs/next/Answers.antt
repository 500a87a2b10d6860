use Rattle.std.proofs.Common.{rules, ◌<◌, length, drop, ◌∙◌, sym, ap}
use Rattle.fkv_functions.specs.Names.{name_cmp}
use Rattle.fkv_runs.specs.Merging.{first_pair}
use Rattle.fkv_runs.proofs.MergeLemmas.{none_left, next_within, next_pair, next_rest}
use Rattle.fkv_runs.proofs.merging.MergePairs.next.Goals as goal

pub returns-in_err-place-clause-pair : goal.returns-in_err-place-clause-pair
returns-in_err-place-clause-pair g c =
    c.from_residual.ensures
    ∙ ap first_pair (sym (none_left name_cmp g.P.Pairs.left c.self.inside.rests.items (sym c.in_err-place.was ∙ c.self.invariant)) ∙ c.self.view_is)

pub returns-in_err-place-clause-after : goal.returns-in_err-place-clause-after
returns-in_err-place-clause-after g c =
    let none = none_left name_cmp g.P.Pairs.left c.self.inside.rests.items (sym c.in_err-place.was ∙ c.self.invariant) in
    sym c.self.view_is ∙ none ∙ ap (drop 1) (sym none ∙ c.self.view_is)

pub index_mut-requires : goal.index_mut-requires
index_mut-requires g c =
    let low : c.in_ok-place.place < length c.self.inside.rests.items = next_within name_cmp g.P.Pairs.left c.self.inside.rests.items c.in_ok-place.place c.in_ok-place.field-0-1 (sym c.in_ok-place.was ∙ c.self.invariant) in
    search rules

pub returns-clause-pair : goal.returns-clause-pair
returns-clause-pair g c =
    c.next-pair.ensures.pair
    ∙ next_pair name_cmp g.P.Pairs.left c.self.inside.rests.items c.in_ok-place.place c.in_ok-place.field-0-1 (sym c.in_ok-place.was ∙ c.self.invariant)
    c.index_mut.result.now c.index_mut.ensures.value
    ∙ ap first_pair c.self.view_is

pub returns-clause-after : goal.returns-clause-after
returns-clause-after g c =
    next_rest name_cmp g.P.Pairs.left c.self.inside.rests.items c.in_ok-place.place c.in_ok-place.field-0-1 (sym c.in_ok-place.was ∙ c.self.invariant)
    c.index_mut.result.now c.index_mut.ensures.value c.next-pair.new.self c.next-pair.ensures.after
    ∙ ap (drop 1) c.self.view_is
