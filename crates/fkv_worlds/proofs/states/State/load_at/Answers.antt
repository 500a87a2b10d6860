use Rattle.std.proofs.Common.{refl, sym, ◌∙◌}
use Rattle.fkv_functions.proofs.KeyOrder.{key_order}
use Rattle.fkv_functions.proofs.CallLemmas.{with_four, with_receipt}
use Rattle.fkv_worlds.proofs.StateLemmas.{within-by, load-question, is_context-bounds, receipt-context}
use Rattle.fkv_worlds.proofs.ActsLemmas.{receipt-behind, receipt-there, at-rows}
use Rattle.fkv_worlds.proofs.EventLemmas.{moment-behind, acts-seen, rows, event-later, refused-state, life-there, life-told, ended-state, loaded-state, does-load, load-leaves, load-ends, refused-load, does-fail}
use Rattle.fkv_worlds.proofs.states.State.load_at.Goals as goal

pub load-requires-whole : goal.load-requires-whole
load-requires-whole g c κs =
    let due = moment-behind c.self.view_is c.requires.due in
    with_receipt (event-later g.F.Key.Ord.cmp g.F.Functions.meaning g.F.Functions.code _ c.self.invariant c.args.place.partition c.args.now due c.index_mut-partition.result.now c.index_mut-partition.ensures.value)

pub invariant_of-self : goal.invariant_of-self
invariant_of-self g c =
    let ord = g.met.F.Key.Ord in
    let known = g.met.F.Key.FixedKey in
    let order = key_order g.F.Key.PartialEq.eq g.F.Key.Ord.cmp ord.matches_eq known.exact ord.total in
    let due = moment-behind c.self.view_is c.requires.due in
    loaded-state g.F.Key.Ord.cmp g.F.Functions.meaning g.F.Functions.code _ c.self.invariant c.args.place c.args.now due c.index_mut-partition.result.now c.index_mut-partition.ensures.value c.load.new.self order (c.load.ensures.others refl) c.in-Ok.progress
    c.note_progress.ensures.lives c.note_progress.ensures.questions c.note_progress.ensures.receipts c.note_progress.ensures.begun c.note_progress.ensures.seats c.note_progress.ensures.enters
    (c.in-Ok.ensures.event refl)

pub returns-in-Ok : goal.returns-in-Ok
returns-in-Ok g c =
    let due = moment-behind c.self.view_is c.requires.due in
    let receipt = receipt-behind c.self.view_is c.args.place c.requires.asked in
    let comes = c.read_asked-came.ensures.came receipt.0 (at-rows c.args.place c.deref.ensures.value receipt.1) in
    record {
      effect = does-load g.F.Key.Ord.cmp g.F.Mergeable.parts.joined g.F.Functions.meaning g.F.Functions.code _ c.self.invariant c.args.place c.args.now due c.index_mut-partition.result.now c.index_mut-partition.ensures.value c.load.new.self c.self.view_is c.in-Ok.progress
          c.note_progress.ensures.lives c.note_progress.ensures.questions c.note_progress.ensures.receipts c.note_progress.ensures.begun c.note_progress.ensures.seats c.note_progress.ensures.enters c.note_progress.ensures.told
          c.args.access receipt.0 c.read_asked-came.result receipt.1 comes c.in-Ok.ensures.effect (c.in-Ok.ensures.event refl);
    }

pub invariant_of-self-then-not-ends_operation : goal.invariant_of-self-then-not-ends_operation
invariant_of-self-then-not-ends_operation g c =
    let due = moment-behind c.self.view_is c.requires.due in
    let receipt = receipt-behind c.self.view_is c.args.place c.requires.asked in
    let comes = c.read_asked-came.ensures.came receipt.0 (at-rows c.args.place c.deref.ensures.value receipt.1) in
    let same = load-leaves g.F.Key.Ord.cmp g.F.Mergeable.parts.joined g.F.Functions.meaning g.F.Functions.code _ c.self.invariant c.args.place c.args.now due c.index_mut-partition.result.now c.index_mut-partition.ensures.value c.load.new.self c.args.access receipt.0 c.read_asked-came.result receipt.1 comes c.in-Err.refused c.in-Err.ensures.effect c.in-Err.ensures.fails (sym c.ends_operation.ensures ∙ c.if-not-ends_operation.true) in
    refused-state g.F.Key.Ord.cmp g.F.Functions.meaning g.F.Functions.code _ c.self.invariant c.args.place.partition c.args.now due c.index_mut-partition.result.now c.index_mut-partition.ensures.value c.load.new.self same

pub returns-then-not-ends_operation : goal.returns-then-not-ends_operation
returns-then-not-ends_operation g c =
    let due = moment-behind c.self.view_is c.requires.due in
    let receipt = receipt-behind c.self.view_is c.args.place c.requires.asked in
    let comes = c.read_asked-came.ensures.came receipt.0 (at-rows c.args.place c.deref.ensures.value receipt.1) in
    record { effect = acts-seen c.self.view_is (refused-load g.F.Key.Ord.cmp g.F.Mergeable.parts.joined g.F.Functions.meaning g.F.Functions.code _ c.self.invariant c.args.place c.args.now due c.index_mut-partition.result.now c.index_mut-partition.ensures.value c.load.new.self c.args.access receipt.0 c.read_asked-came.result receipt.1 comes c.in-Err.refused c.in-Err.ensures.effect c.in-Err.ensures.fails (sym c.ends_operation.ensures ∙ c.if-not-ends_operation.true)) }

pub end_life-requires-whole : goal.end_life-requires-whole
end_life-requires-whole g c κs =
    let due = moment-behind c.self.view_is c.requires.due in
    let receipt = receipt-behind c.self.view_is c.args.place c.requires.asked in
    let comes = c.read_asked-came.ensures.came receipt.0 (at-rows c.args.place c.deref.ensures.value receipt.1) in
    let ev = load-ends g.F.Key.Ord.cmp g.F.Mergeable.parts.joined g.F.Functions.meaning g.F.Functions.code _ c.self.invariant c.args.place c.args.now due c.index_mut-partition.result.now c.index_mut-partition.ensures.value c.load.new.self c.args.access receipt.0 c.read_asked-came.result receipt.1 comes c.in-Err.refused c.in-Err.ensures.effect c.in-Err.ensures.fails (sym c.ends_operation.ensures ∙ c.if-not-ends_operation.false) in
    with_four (life-told g.F.Key.Ord.cmp g.F.Functions.meaning g.F.Functions.code _ c.self.invariant c.args.place c.args.now due c.index_mut-partition.result.now c.index_mut-partition.ensures.value c.life_at-life.ensures c.deref-in-Err.ensures.value ev.question ev.was)

pub invariant_of-self-in-Err : goal.invariant_of-self-in-Err
invariant_of-self-in-Err g c =
    let ord = g.met.F.Key.Ord in
    let known = g.met.F.Key.FixedKey in
    let order = key_order g.F.Key.PartialEq.eq g.F.Key.Ord.cmp ord.matches_eq known.exact ord.total in
    let due = moment-behind c.self.view_is c.requires.due in
    let receipt = receipt-behind c.self.view_is c.args.place c.requires.asked in
    let comes = c.read_asked-came.ensures.came receipt.0 (at-rows c.args.place c.deref.ensures.value receipt.1) in
    let ev = load-ends g.F.Key.Ord.cmp g.F.Mergeable.parts.joined g.F.Functions.meaning g.F.Functions.code _ c.self.invariant c.args.place c.args.now due c.index_mut-partition.result.now c.index_mut-partition.ensures.value c.load.new.self c.args.access receipt.0 c.read_asked-came.result receipt.1 comes c.in-Err.refused c.in-Err.ensures.effect c.in-Err.ensures.fails (sym c.ends_operation.ensures ∙ c.if-not-ends_operation.false) in
    ended-state g.F.Key.Ord.cmp g.F.Functions.meaning g.F.Functions.code _ c.self.invariant c.args.place c.args.now due c.index_mut-partition.result.now c.index_mut-partition.ensures.value c.load.new.self order (c.load.ensures.others refl) _ refl c.life_at-life.ensures c.deref-in-Err.ensures.value c.end_life.ensures ev

pub returns-else-not-ends_operation : goal.returns-else-not-ends_operation
returns-else-not-ends_operation g c =
    let due = moment-behind c.self.view_is c.requires.due in
    let receipt = receipt-behind c.self.view_is c.args.place c.requires.asked in
    let comes = c.read_asked-came.ensures.came receipt.0 (at-rows c.args.place c.deref.ensures.value receipt.1) in
    record {
      effect = does-fail g.F.Key.Ord.cmp g.F.Mergeable.parts.joined g.F.Functions.meaning g.F.Functions.code _ c.self.invariant c.args.place c.args.now due c.index_mut-partition.result.now c.index_mut-partition.ensures.value c.load.new.self c.args.access receipt.0 c.read_asked-came.result receipt.1 comes c.in-Err.refused c.in-Err.ensures.effect c.in-Err.ensures.fails c.self.view_is c.life_at-life.ensures c.deref-in-Err.ensures.value c.end_life.ensures (sym c.ends_operation.ensures ∙ c.if-not-ends_operation.false);
    }

pub read_asked-came-requires-clause-partition : goal.read_asked-came-requires-clause-partition
read_asked-came-requires-clause-partition g c =
    let due = moment-behind c.self.view_is c.requires.due in
    (rows g.F.Key.Ord.cmp g.F.Functions.meaning g.F.Functions.code _ c.self.invariant c.args.place.partition c.args.now due).0

pub read_asked-came-requires-clause-rows : goal.read_asked-came-requires-clause-rows
read_asked-came-requires-clause-rows g c =
    let due = moment-behind c.self.view_is c.requires.due in
    within-by c.deref.ensures.value (rows g.F.Key.Ord.cmp g.F.Functions.meaning g.F.Functions.code _ c.self.invariant c.args.place.partition c.args.now due).5

pub read_asked-came-requires-clause-asked : goal.read_asked-came-requires-clause-asked
read_asked-came-requires-clause-asked g c = receipt-there c.self.view_is c.args.place c.deref.ensures.value c.requires.asked

pub note_progress-requires-clause-partition : goal.note_progress-requires-clause-partition
note_progress-requires-clause-partition g c =
    let due = moment-behind c.self.view_is c.requires.due in
    (rows g.F.Key.Ord.cmp g.F.Functions.meaning g.F.Functions.code _ c.self.invariant c.args.place.partition c.args.now due).0

pub note_progress-requires-clause-begun : goal.note_progress-requires-clause-begun
note_progress-requires-clause-begun g c =
    let due = moment-behind c.self.view_is c.requires.due in
    (rows g.F.Key.Ord.cmp g.F.Functions.meaning g.F.Functions.code _ c.self.invariant c.args.place.partition c.args.now due).3

pub note_progress-requires-clause-questions : goal.note_progress-requires-clause-questions
note_progress-requires-clause-questions g c =
    let due = moment-behind c.self.view_is c.requires.due in
    (rows g.F.Key.Ord.cmp g.F.Functions.meaning g.F.Functions.code _ c.self.invariant c.args.place.partition c.args.now due).4

pub note_progress-requires-clause-receipts : goal.note_progress-requires-clause-receipts
note_progress-requires-clause-receipts g c =
    let due = moment-behind c.self.view_is c.requires.due in
    (rows g.F.Key.Ord.cmp g.F.Functions.meaning g.F.Functions.code _ c.self.invariant c.args.place.partition c.args.now due).5

pub note_progress-requires-clause-life : goal.note_progress-requires-clause-life
note_progress-requires-clause-life g c =
    let due = moment-behind c.self.view_is c.requires.due in
    let ev = load-question g.F.Key.Ord.cmp g.F.Functions.meaning _ _ c.args.place.slot c.args.place.context c.args.now c.in-Ok.progress (c.in-Ok.ensures.event refl) in
    life-there g.F.Key.Ord.cmp g.F.Functions.meaning g.F.Functions.code _ c.self.invariant c.args.place c.args.now due c.index_mut-partition.result.now c.index_mut-partition.ensures.value ev.0 ev.1

pub life_at-life-requires-clause-partition : goal.life_at-life-requires-clause-partition
life_at-life-requires-clause-partition g c =
    let due = moment-behind c.self.view_is c.requires.due in
    (rows g.F.Key.Ord.cmp g.F.Functions.meaning g.F.Functions.code _ c.self.invariant c.args.place.partition c.args.now due).0

pub life_at-life-requires-clause-slot : goal.life_at-life-requires-clause-slot
life_at-life-requires-clause-slot g c =
    let receipt = receipt-behind c.self.view_is c.args.place c.requires.asked in
    (is_context-bounds c.args.place (receipt-context _ c.args.place receipt.0 receipt.1)).0

pub life_at-life-requires-clause-context : goal.life_at-life-requires-clause-context
life_at-life-requires-clause-context g c =
    let receipt = receipt-behind c.self.view_is c.args.place c.requires.asked in
    (is_context-bounds c.args.place (receipt-context _ c.args.place receipt.0 receipt.1)).1

pub life_at-life-requires-clause-rows : goal.life_at-life-requires-clause-rows
life_at-life-requires-clause-rows g c =
    let due = moment-behind c.self.view_is c.requires.due in
    within-by c.deref-in-Err.ensures.value (rows g.F.Key.Ord.cmp g.F.Functions.meaning g.F.Functions.code _ c.self.invariant c.args.place.partition c.args.now due).3
