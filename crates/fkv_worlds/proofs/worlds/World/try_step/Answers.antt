use Rattle.std.proofs.Common.{refl, arith}
use Rattle.fkv_worlds.proofs.HistoryLemmas.{recorded-acts}
use Rattle.fkv_worlds.proofs.worlds.World.try_step.Goals as goal

pub invariant_of-self-2 : goal.invariant_of-self-2
invariant_of-self-2 g c =
    let noted = c.push-noted.ensures.succeeds (let room = c.in-Ok.ensures.ok in omega arith) in
    let kept = c.push-kept.ensures.succeeds (let room = c.in-Ok-try_reserve.ensures.ok in omega arith) in
    rw (c.push-noted.ensures.items, noted, c.push-kept.ensures.items, kept, c.try_reserve.ensures.items, c.try_reserve-2.ensures.items)
    (recorded-acts _ _ g.F.Key.Ord.cmp g.F.Mergeable.parts.joined g.F.Functions.meaning g.F.Functions.code c.self.inside.state c.act-result.new.self c.self.inside.steps.items c.self.inside.outcomes.items c.args.step c.act-result.result c.sound.ensures c.self.invariant c.act-result.ensures.effect)

pub returns-clause-kept : goal.returns-clause-kept
returns-clause-kept g c =
    let noted = c.push-noted.ensures.succeeds (let room = c.in-Ok.ensures.ok in omega arith) in
    let kept = c.push-kept.ensures.succeeds (let room = c.in-Ok-try_reserve.ensures.ok in omega arith) in
    rw (← c.self.view_is) (record {
      acts = c.act-result.ensures.effect;
      steps = rw (c.push-noted.ensures.items, noted, c.try_reserve.ensures.items) refl;
      outcomes = rw (c.push-kept.ensures.items, kept, c.try_reserve-2.ensures.items) refl;
      headline = c.headline.ensures;
    })
