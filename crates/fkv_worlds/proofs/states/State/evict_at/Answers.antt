use Rattle.std.proofs.Common.{refl}
use Rattle.fkv_functions.proofs.KeyOrder.{key_order}
use Rattle.fkv_functions.proofs.CallLemmas.{with_receipt}
use Rattle.fkv_worlds.proofs.EventLemmas.{moment-behind, acts-seen, event-later, refused-state, refused-evict, does-evict, quiet-state}
use Rattle.fkv_worlds.proofs.states.State.evict_at.Goals as goal

pub shift_head-requires-whole : goal.shift_head-requires-whole
shift_head-requires-whole g c κs =
    let due = moment-behind c.self.view_is c.requires.due in
    with_receipt (event-later g.F.Key.Ord.cmp g.F.Functions.meaning g.F.Functions.code _ c.self.invariant c.args.partition c.args.now due c.index_mut.result.now c.index_mut.ensures.value)

pub invariant_of-self-in-Err : goal.invariant_of-self-in-Err
invariant_of-self-in-Err g c =
    let due = moment-behind c.self.view_is c.requires.due in
    refused-state g.F.Key.Ord.cmp g.F.Functions.meaning g.F.Functions.code _ c.self.invariant c.args.partition c.args.now due c.index_mut.result.now c.index_mut.ensures.value c.shift_head.new.self c.in-Err.ensures.unchanged

pub returns-in-Err : goal.returns-in-Err
returns-in-Err g c =
    let due = moment-behind c.self.view_is c.requires.due in
    record { effect = acts-seen c.self.view_is (refused-evict g.F.Key.Ord.cmp g.F.Mergeable.parts.joined g.F.Functions.meaning g.F.Functions.code _ c.self.invariant c.args.partition c.args.now due c.index_mut.result.now c.index_mut.ensures.value c.shift_head.new.self c.args.page c.in-Err.refused c.in-Err.ensures.unchanged c.in-Err.ensures.effect) }

pub invariant_of-self : goal.invariant_of-self
invariant_of-self g c =
    let ord = g.met.F.Key.Ord in
    let known = g.met.F.Key.FixedKey in
    let order = key_order g.F.Key.PartialEq.eq g.F.Key.Ord.cmp ord.matches_eq known.exact ord.total in
    let due = moment-behind c.self.view_is c.requires.due in
    quiet-state g.F.Key.Ord.cmp g.F.Functions.meaning g.F.Functions.code _ c.self.invariant c.args.partition c.args.now due c.index_mut.result.now c.index_mut.ensures.value c.shift_head.new.self order c.in-Ok.ensures.event (c.shift_head.ensures.pends refl)

pub returns-in-Ok : goal.returns-in-Ok
returns-in-Ok g c =
    let due = moment-behind c.self.view_is c.requires.due in
    record { effect = acts-seen c.self.view_is (does-evict g.F.Key.Ord.cmp g.F.Mergeable.parts.joined g.F.Functions.meaning g.F.Functions.code _ c.self.invariant c.args.partition c.args.now due c.index_mut.result.now c.index_mut.ensures.value c.shift_head.new.self c.args.page c.in-Ok.ensures.effect c.in-Ok.ensures.event) }
