use Rattle.fkv_functions.proofs.KeyOrder.{key_order}
use Rattle.fkv_functions.proofs.CallLemmas.{with_receipt}
use Rattle.fkv_worlds.proofs.EventLemmas.{moment-behind, acts-seen, event-later, refused-state, refused-truncate, does-truncate, truncated-state}
use Rattle.fkv_worlds.proofs.states.State.truncate_at.Goals as goal

pub truncate_cleared-requires-whole : goal.truncate_cleared-requires-whole
truncate_cleared-requires-whole g c κs =
    let due = moment-behind c.self.view_is c.requires.due in
    with_receipt (event-later g.F.Key.Ord.cmp g.F.Functions.meaning g.F.Functions.code _ c.self.invariant c.args.partition c.args.now due c.index_mut.result.now c.index_mut.ensures.value)

pub invariant_of-self-in-Err : goal.invariant_of-self-in-Err
invariant_of-self-in-Err g c =
    let due = moment-behind c.self.view_is c.requires.due in
    refused-state g.F.Key.Ord.cmp g.F.Functions.meaning g.F.Functions.code _ c.self.invariant c.args.partition c.args.now due c.index_mut.result.now c.index_mut.ensures.value c.truncate_cleared.new.self c.in-Err.ensures.unchanged

pub returns-in-Err : goal.returns-in-Err
returns-in-Err g c =
    let due = moment-behind c.self.view_is c.requires.due in
    record { effect = acts-seen c.self.view_is (refused-truncate g.F.Key.Ord.cmp g.F.Mergeable.parts.joined g.F.Functions.meaning g.F.Functions.code _ c.self.invariant c.args.partition c.args.now due c.index_mut.result.now c.index_mut.ensures.value c.truncate_cleared.new.self c.in-Err.refused c.in-Err.ensures.unchanged c.in-Err.ensures.effect) }

pub invariant_of-self : goal.invariant_of-self
invariant_of-self g c =
    let ord = g.met.F.Key.Ord in
    let known = g.met.F.Key.FixedKey in
    let order = key_order g.F.Key.PartialEq.eq g.F.Key.Ord.cmp ord.matches_eq known.exact ord.total in
    let due = moment-behind c.self.view_is c.requires.due in
    truncated-state g.F.Key.Ord.cmp g.F.Functions.meaning g.F.Functions.code _ c.self.invariant c.args.partition c.args.now due c.index_mut.result.now c.index_mut.ensures.value c.truncate_cleared.new.self order _ c.in-Ok.ensures.event

pub returns-in-Ok : goal.returns-in-Ok
returns-in-Ok g c =
    let due = moment-behind c.self.view_is c.requires.due in
    rw (← c.self.view_is)
    (record { effect = does-truncate g.F.Key.Ord.cmp g.F.Mergeable.parts.joined g.F.Functions.meaning g.F.Functions.code _ c.self.invariant c.args.partition c.args.now due c.index_mut.result.now c.index_mut.ensures.value c.truncate_cleared.new.self c.in-Ok.begin c.in-Ok.ensures.begin.0 c.in-Ok.ensures.effect c.in-Ok.ensures.event })
