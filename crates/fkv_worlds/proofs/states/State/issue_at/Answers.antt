use Rattle.std.proofs.Common.{refl}
use Rattle.fkv_functions.proofs.KeyOrder.{key_order}
use Rattle.fkv_functions.proofs.CallLemmas.{with_receipt}
use Rattle.fkv_worlds.proofs.StateLemmas.{state-lives}
use Rattle.fkv_worlds.proofs.EventLemmas.{moment-behind, rows, issues-fit, no_memory_for_life-issue, event-later, refused-state_of, refused-issue, does-issue, issued-state}
use Rattle.fkv_worlds.proofs.states.State.issue_at.Goals as goal

pub issue-requires-whole : goal.issue-requires-whole
issue-requires-whole g c κs =
    let due = moment-behind c.self.view_is c.requires.due in
    with_receipt (event-later g.F.Key.Ord.cmp g.F.Functions.meaning g.F.Functions.code _ c.self.invariant c.args.partition c.args.now due c.index_mut.result.now c.index_mut.ensures.value)

pub returns-in_default : goal.returns-in_default
returns-in_default g c =
    let due = moment-behind c.self.view_is c.requires.due in
    record { effect = no_memory_for_life-issue g.F.Key.Ord.cmp g.F.Mergeable.parts.joined g.F.Functions.meaning g.F.Functions.code _ c.self.invariant c.args.partition c.args.now due c.self.view_is c.try_reserve.ensures.items c.args.slot c.args.op }

pub invariant_of-self-in-Err : goal.invariant_of-self-in-Err
invariant_of-self-in-Err g c =
    let due = moment-behind c.self.view_is c.requires.due in
    refused-state_of g.F.Key.Ord.cmp g.F.Functions.meaning g.F.Functions.code _ c.self.invariant c.args.partition c.args.now due c.index_mut.result.now c.index_mut.ensures.value c.issue.new.self c.in-Err.ensures.unchanged c.try_reserve.ensures.items

pub returns-in-Err : goal.returns-in-Err
returns-in-Err g c =
    let due = moment-behind c.self.view_is c.requires.due in
    record { effect = refused-issue g.F.Key.Ord.cmp g.F.Mergeable.parts.joined g.F.Functions.meaning g.F.Functions.code _ c.self.invariant c.args.partition c.args.now due c.index_mut.result.now c.index_mut.ensures.value c.issue.new.self c.self.view_is c.try_reserve.ensures.items c.args.slot c.args.op c.in-Err.refused c.in-Err.ensures.unchanged c.in-Err.ensures.effect }

pub invariant_of-self-in-Ok-issue : goal.invariant_of-self-in-Ok-issue
invariant_of-self-in-Ok-issue g c =
    let ord = g.met.F.Key.Ord in
    let known = g.met.F.Key.FixedKey in
    let order = key_order g.F.Key.PartialEq.eq g.F.Key.Ord.cmp ord.matches_eq known.exact ord.total in
    let due = moment-behind c.self.view_is c.requires.due in
    let within = c.in-Ok-issue.ensures.within in
    issued-state g.F.Key.Ord.cmp g.F.Functions.meaning g.F.Functions.code _ c.self.invariant c.args.partition c.args.now due c.index_mut.result.now c.index_mut.ensures.value c.issue.new.self order c.args.slot c.in-Ok-issue.context c.args.op
    c.try_reserve.ensures.items c.begin_life.ensures.lives c.begin_life.ensures.seats c.begin_life.ensures.begun c.begin_life.ensures.questions c.begin_life.ensures.receipts c.begin_life.ensures.enters
    c.in-Ok-issue.ensures.event (c.issue.ensures.pends refl) within.0 within.1

pub returns-in-Ok-issue : goal.returns-in-Ok-issue
returns-in-Ok-issue g c =
    let due = moment-behind c.self.view_is c.requires.due in
    record {
      effect = does-issue g.F.Key.Ord.cmp g.F.Mergeable.parts.joined g.F.Functions.meaning g.F.Functions.code _ c.self.invariant c.args.partition c.args.now due c.index_mut.result.now c.index_mut.ensures.value c.issue.new.self c.self.view_is c.args.slot c.in-Ok-issue.context c.args.op
          c.try_reserve.ensures.items c.begin_life.ensures.lives c.begin_life.ensures.seats c.begin_life.ensures.begun c.begin_life.ensures.questions c.begin_life.ensures.receipts c.begin_life.ensures.enters
          c.in-Ok-issue.ensures.effect c.in-Ok-issue.ensures.event c.in-Ok-issue.ensures.within.0;
    }

pub begin_life-requires-clause-partition : goal.begin_life-requires-clause-partition
begin_life-requires-clause-partition g c =
    let due = moment-behind c.self.view_is c.requires.due in
    (rows g.F.Key.Ord.cmp g.F.Functions.meaning g.F.Functions.code _ c.self.invariant c.args.partition c.args.now due).0

pub begin_life-requires-clause-seats : goal.begin_life-requires-clause-seats
begin_life-requires-clause-seats g c =
    let due = moment-behind c.self.view_is c.requires.due in
    (rows g.F.Key.Ord.cmp g.F.Functions.meaning g.F.Functions.code _ c.self.invariant c.args.partition c.args.now due).2

pub begin_life-requires-clause-begun : goal.begin_life-requires-clause-begun
begin_life-requires-clause-begun g c =
    let due = moment-behind c.self.view_is c.requires.due in
    (rows g.F.Key.Ord.cmp g.F.Functions.meaning g.F.Functions.code _ c.self.invariant c.args.partition c.args.now due).3

pub begin_life-requires-clause-questions : goal.begin_life-requires-clause-questions
begin_life-requires-clause-questions g c =
    let due = moment-behind c.self.view_is c.requires.due in
    (rows g.F.Key.Ord.cmp g.F.Functions.meaning g.F.Functions.code _ c.self.invariant c.args.partition c.args.now due).4

pub begin_life-requires-clause-receipts : goal.begin_life-requires-clause-receipts
begin_life-requires-clause-receipts g c =
    let due = moment-behind c.self.view_is c.requires.due in
    (rows g.F.Key.Ord.cmp g.F.Functions.meaning g.F.Functions.code _ c.self.invariant c.args.partition c.args.now due).5

pub begin_life-requires-clause-slot : goal.begin_life-requires-clause-slot
begin_life-requires-clause-slot g c = c.in-Ok-issue.ensures.within.0

pub begin_life-requires-clause-context : goal.begin_life-requires-clause-context
begin_life-requires-clause-context g c = c.in-Ok-issue.ensures.within.1

pub begin_life-requires-clause-issues : goal.begin_life-requires-clause-issues
begin_life-requires-clause-issues g c =
    let due = moment-behind c.self.view_is c.requires.due in
    issues-fit g.F.Key.Ord.cmp g.F.Functions.meaning g.F.Functions.code _ c.self.invariant c.args.partition c.args.now due c.args.slot c.in-Ok-issue.ensures.within.0

pub invariant_of-self : goal.invariant_of-self
invariant_of-self g c = state-lives g.F.Key.Ord.cmp g.F.Functions.meaning g.F.Functions.code _ c.self.invariant c.try_reserve.ensures.items
