use Rattle.std.proofs.Common.{length, map, sym, ap, subst, ◌∙◌}
use Rattle.std.specs.List.{All}
use Rattle.std.specs.Option.{IsSomeAnd, IsSome}
use Rattle.std.proofs.lemmas.Result.{IfOk-weaker}
use Rattle.fkv_jobs.proofs.SpreadLemmas.{back, all_asked, all_given, all_gave}
use Rattle.fkv_jobs.proofs.spread.run_spread.Goals as goal

pub turn_all-requires-clause-asked : goal.turn_all-requires-clause-asked
turn_all-requires-clause-asked g c κs within =
    subst (All (λ slot. IsSomeAnd slot.job g.J.Job.ready)) (sym c.as_mut_slice.ensures.value)
    (all_asked g.J.Job.ready c.args.jobs.items c.in-Ok.slots.items c.in-Ok.ensures.ok c.requires.ready)

pub given_by-requires : goal.given_by-requires
given_by-requires g c =
    let is = back c.in-Ok.slots.len c.in-Ok.slots.items c.turn_all.new.slots c.in-Ok.slots.ok.0 (c.turn_all.auto.slots ∙ ap length c.as_mut_slice.ensures.value) in
    subst (All (λ slot. IsSome slot.given)) (sym is)
    (all_given g.J.Job.gives c.as_mut_slice.result.now c.turn_all.new.slots c.turn_all.ensures)

pub returns-clause-ok : goal.returns-clause-ok
returns-clause-ok g c =
    let is = back c.in-Ok.slots.len c.in-Ok.slots.items c.turn_all.new.slots c.in-Ok.slots.ok.0 (c.turn_all.auto.slots ∙ ap length c.as_mut_slice.ensures.value) in
    IfOk-weaker c.given_by.result _ _
    (λ results given.
    all_gave g.J.Job.gives c.args.jobs.items c.as_mut_slice.result.now c.turn_all.new.slots results.items
    (ap (map (λ slot. slot.job)) c.as_mut_slice.ensures.value ∙ c.in-Ok.ensures.ok) c.turn_all.ensures (given ∙ ap (map (λ slot. slot.given)) is))
    c.given_by.ensures.ok
