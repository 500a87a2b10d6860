use Rattle.std.proofs.Common.{refl}
use Rattle.fkv_functions.proofs.KeyOrder.{key_order}
use Rattle.fkv_functions.proofs.CallLemmas.{with_four, with_receipt}
use Rattle.fkv_worlds.proofs.StateLemmas.{within-by}
use Rattle.fkv_worlds.proofs.EventLemmas.{moment-behind, acts-seen, rows, event-later, refused-state, refused-give_up, does-give_up, life-told, ended-state}
use Rattle.fkv_worlds.proofs.states.State.give_up_at.Goals as goal

pub give_up-requires-whole : goal.give_up-requires-whole
give_up-requires-whole g c κs =
    let due = moment-behind c.self.view_is c.requires.due in
    with_receipt (event-later g.F.Key.Ord.cmp g.F.Functions.meaning g.F.Functions.code _ c.self.invariant c.args.place.partition c.args.now due c.index_mut-partition.result.now c.index_mut-partition.ensures.value)

pub invariant_of-self-in-Err : goal.invariant_of-self-in-Err
invariant_of-self-in-Err g c =
    let due = moment-behind c.self.view_is c.requires.due in
    refused-state g.F.Key.Ord.cmp g.F.Functions.meaning g.F.Functions.code _ c.self.invariant c.args.place.partition c.args.now due c.index_mut-partition.result.now c.index_mut-partition.ensures.value c.give_up.new.self c.in-Err.ensures.unchanged

pub returns-in-Err : goal.returns-in-Err
returns-in-Err g c =
    let due = moment-behind c.self.view_is c.requires.due in
    record { effect = acts-seen c.self.view_is (refused-give_up g.F.Key.Ord.cmp g.F.Mergeable.parts.joined g.F.Functions.meaning g.F.Functions.code _ c.self.invariant c.args.place c.args.now due c.index_mut-partition.result.now c.index_mut-partition.ensures.value c.give_up.new.self c.in-Err.refused c.in-Err.ensures.unchanged c.in-Err.ensures.effect) }

pub end_life-requires-whole : goal.end_life-requires-whole
end_life-requires-whole g c κs =
    let due = moment-behind c.self.view_is c.requires.due in
    let ev = c.in-Ok.ensures.event in
    with_four (life-told g.F.Key.Ord.cmp g.F.Functions.meaning g.F.Functions.code _ c.self.invariant c.args.place c.args.now due c.index_mut-partition.result.now c.index_mut-partition.ensures.value c.life_at-life.ensures c.deref.ensures.value ev.question ev.was)

pub invariant_of-self : goal.invariant_of-self
invariant_of-self g c =
    let ord = g.met.F.Key.Ord in
    let known = g.met.F.Key.FixedKey in
    let order = key_order g.F.Key.PartialEq.eq g.F.Key.Ord.cmp ord.matches_eq known.exact ord.total in
    let due = moment-behind c.self.view_is c.requires.due in
    ended-state g.F.Key.Ord.cmp g.F.Functions.meaning g.F.Functions.code _ c.self.invariant c.args.place c.args.now due c.index_mut-partition.result.now c.index_mut-partition.ensures.value c.give_up.new.self order c.give_up.ensures.others _ refl c.life_at-life.ensures c.deref.ensures.value c.end_life.ensures c.in-Ok.ensures.event

pub returns-in-Ok : goal.returns-in-Ok
returns-in-Ok g c =
    let due = moment-behind c.self.view_is c.requires.due in
    record {
      effect = does-give_up g.F.Key.Ord.cmp g.F.Mergeable.parts.joined g.F.Functions.meaning g.F.Functions.code _ c.self.invariant c.args.place c.args.now due c.index_mut-partition.result.now c.index_mut-partition.ensures.value c.give_up.new.self c.self.view_is c.life_at-life.ensures c.deref.ensures.value c.end_life.ensures
          c.in-Ok.ensures.effect c.in-Ok.ensures.event;
    }

pub life_at-life-requires-clause-partition : goal.life_at-life-requires-clause-partition
life_at-life-requires-clause-partition g c =
    let due = moment-behind c.self.view_is c.requires.due in
    (rows g.F.Key.Ord.cmp g.F.Functions.meaning g.F.Functions.code _ c.self.invariant c.args.place.partition c.args.now due).0

pub life_at-life-requires-clause-slot : goal.life_at-life-requires-clause-slot
life_at-life-requires-clause-slot g c = c.in-Ok.ensures.within.0

pub life_at-life-requires-clause-context : goal.life_at-life-requires-clause-context
life_at-life-requires-clause-context g c = c.in-Ok.ensures.within.1

pub life_at-life-requires-clause-rows : goal.life_at-life-requires-clause-rows
life_at-life-requires-clause-rows g c =
    let due = moment-behind c.self.view_is c.requires.due in
    within-by c.deref.ensures.value (rows g.F.Key.Ord.cmp g.F.Functions.meaning g.F.Functions.code _ c.self.invariant c.args.place.partition c.args.now due).3
