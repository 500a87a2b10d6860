use Rattle.fkv_functions.proofs.KeyOrder.{key_order}
use Rattle.fkv_functions.proofs.CallLemmas.{with_receipt}
use Rattle.fkv_worlds.proofs.EventLemmas.{moment-behind, acts-seen, rows, enters-fit, event-later, refused-state, refused-enter, does-enter, entered-state}
use Rattle.fkv_worlds.proofs.states.State.enter_at.Goals as goal

pub enter-requires-whole : goal.enter-requires-whole
enter-requires-whole g c κs =
    let due = moment-behind c.self.view_is c.requires.due in
    with_receipt (event-later g.F.Key.Ord.cmp g.F.Functions.meaning g.F.Functions.code _ c.self.invariant c.args.partition c.args.now due c.index_mut.result.now c.index_mut.ensures.value)

pub seat_session-requires-clause-partition : goal.seat_session-requires-clause-partition
seat_session-requires-clause-partition g c =
    let due = moment-behind c.self.view_is c.requires.due in
    (rows g.F.Key.Ord.cmp g.F.Functions.meaning g.F.Functions.code _ c.self.invariant c.args.partition c.args.now due).0

pub seat_session-requires-clause-slot : goal.seat_session-requires-clause-slot
seat_session-requires-clause-slot g c =
    c.in-Ok.ensures.within

pub seat_session-requires-clause-enters : goal.seat_session-requires-clause-enters
seat_session-requires-clause-enters g c =
    let due = moment-behind c.self.view_is c.requires.due in
    (rows g.F.Key.Ord.cmp g.F.Functions.meaning g.F.Functions.code _ c.self.invariant c.args.partition c.args.now due).1

pub seat_session-requires-clause-seats : goal.seat_session-requires-clause-seats
seat_session-requires-clause-seats g c =
    let due = moment-behind c.self.view_is c.requires.due in
    (rows g.F.Key.Ord.cmp g.F.Functions.meaning g.F.Functions.code _ c.self.invariant c.args.partition c.args.now due).2

pub seat_session-requires-clause-count : goal.seat_session-requires-clause-count
seat_session-requires-clause-count g c =
    let due = moment-behind c.self.view_is c.requires.due in
    enters-fit g.F.Key.Ord.cmp g.F.Functions.meaning g.F.Functions.code _ c.self.invariant c.args.partition c.args.now due

pub invariant_of-self-in-Err : goal.invariant_of-self-in-Err
invariant_of-self-in-Err g c =
    let due = moment-behind c.self.view_is c.requires.due in
    refused-state g.F.Key.Ord.cmp g.F.Functions.meaning g.F.Functions.code _ c.self.invariant c.args.partition c.args.now due c.index_mut.result.now c.index_mut.ensures.value c.enter.new.self c.in-Err.ensures.unchanged

pub returns-in-Err : goal.returns-in-Err
returns-in-Err g c =
    let due = moment-behind c.self.view_is c.requires.due in
    record { effect = acts-seen c.self.view_is (refused-enter g.F.Key.Ord.cmp g.F.Mergeable.parts.joined g.F.Functions.meaning g.F.Functions.code _ c.self.invariant c.args.partition c.args.now due c.index_mut.result.now c.index_mut.ensures.value c.enter.new.self c.in-Err.refused c.in-Err.ensures.unchanged c.in-Err.ensures.effect) }

pub invariant_of-self : goal.invariant_of-self
invariant_of-self g c =
    let ord = g.met.F.Key.Ord in
    let known = g.met.F.Key.FixedKey in
    let order = key_order g.F.Key.PartialEq.eq g.F.Key.Ord.cmp ord.matches_eq known.exact ord.total in
    let due = moment-behind c.self.view_is c.requires.due in
    entered-state g.F.Key.Ord.cmp g.F.Functions.meaning g.F.Functions.code _ c.self.invariant c.args.partition c.args.now due c.index_mut.result.now c.index_mut.ensures.value c.enter.new.self order c.in-Ok.slot c.seat_session.ensures.enters c.seat_session.ensures.seats c.in-Ok.ensures.event c.enter.ensures.pends

pub returns-in-Ok : goal.returns-in-Ok
returns-in-Ok g c =
    let due = moment-behind c.self.view_is c.requires.due in
    record { effect = does-enter g.F.Key.Ord.cmp g.F.Mergeable.parts.joined g.F.Functions.meaning g.F.Functions.code _ c.self.invariant c.args.partition c.args.now due c.index_mut.result.now c.index_mut.ensures.value c.enter.new.self c.self.view_is c.in-Ok.slot c.seat_session.ensures.enters c.seat_session.ensures.seats c.in-Ok.ensures.effect c.in-Ok.ensures.event c.in-Ok.ensures.within }
