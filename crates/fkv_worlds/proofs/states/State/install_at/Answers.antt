use Rattle.std.proofs.Common.{refl, Some, sym, ◌∙◌, ap}
use Rattle.fkv_functions.proofs.KeyOrder.{key_order}
use Rattle.fkv_functions.proofs.CallLemmas.{with_receipt}
use Rattle.fkv_worlds.proofs.ActsLemmas.{question-behind}
use Rattle.fkv_worlds.proofs.EventLemmas.{moment-behind, acts-seen, rows, event-later, refused-state, refused-install, does-install, life-there, progressed-state}
use Rattle.fkv_worlds.proofs.states.State.install_at.Goals as goal

pub install-requires-whole : goal.install-requires-whole
install-requires-whole g c κs =
    let due = moment-behind c.self.view_is c.requires.moment in
    with_receipt (event-later g.F.Key.Ord.cmp g.F.Functions.meaning g.F.Functions.code _ c.self.invariant c.args.place.partition c.args.now due c.index_mut-partition.result.now c.index_mut-partition.ensures.value)

pub invariant_of-self-in-Err : goal.invariant_of-self-in-Err
invariant_of-self-in-Err g c =
    let due = moment-behind c.self.view_is c.requires.moment in
    refused-state g.F.Key.Ord.cmp g.F.Functions.meaning g.F.Functions.code _ c.self.invariant c.args.place.partition c.args.now due c.index_mut-partition.result.now c.index_mut-partition.ensures.value c.install.new.self c.in-Err.ensures.unchanged

pub returns-in-Err : goal.returns-in-Err
returns-in-Err g c =
    let due = moment-behind c.self.view_is c.requires.moment in
    let asks = question-behind c.self.view_is c.args.place c.requires.asked ∙ ap Some (sym c.make-built.ensures) in
    record { effect = acts-seen c.self.view_is (refused-install g.F.Key.Ord.cmp g.F.Mergeable.parts.joined g.F.Functions.meaning g.F.Functions.code _ c.self.invariant c.args.place c.args.now due c.index_mut-partition.result.now c.index_mut-partition.ensures.value c.install.new.self c.make-built.result asks c.in-Err.refused c.in-Err.ensures.unchanged c.in-Err.ensures.effect) }

pub invariant_of-self : goal.invariant_of-self
invariant_of-self g c =
    let ord = g.met.F.Key.Ord in
    let known = g.met.F.Key.FixedKey in
    let order = key_order g.F.Key.PartialEq.eq g.F.Key.Ord.cmp ord.matches_eq known.exact ord.total in
    let due = moment-behind c.self.view_is c.requires.moment in
    progressed-state g.F.Key.Ord.cmp g.F.Functions.meaning g.F.Functions.code _ c.self.invariant c.args.place c.args.now due c.index_mut-partition.result.now c.index_mut-partition.ensures.value c.install.new.self order (c.install.ensures.others refl) c.in-Ok.installed
    c.note_progress.ensures.lives c.note_progress.ensures.questions c.note_progress.ensures.receipts c.note_progress.ensures.begun c.note_progress.ensures.seats c.note_progress.ensures.enters
    (c.in-Ok.ensures.event refl) (c.in-Ok.ensures.finds refl)

pub returns-in-Ok : goal.returns-in-Ok
returns-in-Ok g c =
    let due = moment-behind c.self.view_is c.requires.moment in
    let asks = question-behind c.self.view_is c.args.place c.requires.asked ∙ ap Some (sym c.make-built.ensures) in
    record {
      effect = does-install g.F.Key.Ord.cmp g.F.Mergeable.parts.joined g.F.Functions.meaning g.F.Functions.code _ c.self.invariant c.args.place c.args.now due c.index_mut-partition.result.now c.index_mut-partition.ensures.value c.install.new.self c.self.view_is c.in-Ok.installed
          c.note_progress.ensures.lives c.note_progress.ensures.questions c.note_progress.ensures.receipts c.note_progress.ensures.begun c.note_progress.ensures.seats c.note_progress.ensures.enters c.note_progress.ensures.told
          c.make-built.result asks c.in-Ok.ensures.effect (c.in-Ok.ensures.event refl);
    }

pub note_progress-requires-clause-partition : goal.note_progress-requires-clause-partition
note_progress-requires-clause-partition g c =
    let due = moment-behind c.self.view_is c.requires.moment in
    (rows g.F.Key.Ord.cmp g.F.Functions.meaning g.F.Functions.code _ c.self.invariant c.args.place.partition c.args.now due).0

pub note_progress-requires-clause-begun : goal.note_progress-requires-clause-begun
note_progress-requires-clause-begun g c =
    let due = moment-behind c.self.view_is c.requires.moment in
    (rows g.F.Key.Ord.cmp g.F.Functions.meaning g.F.Functions.code _ c.self.invariant c.args.place.partition c.args.now due).3

pub note_progress-requires-clause-questions : goal.note_progress-requires-clause-questions
note_progress-requires-clause-questions g c =
    let due = moment-behind c.self.view_is c.requires.moment in
    (rows g.F.Key.Ord.cmp g.F.Functions.meaning g.F.Functions.code _ c.self.invariant c.args.place.partition c.args.now due).4

pub note_progress-requires-clause-receipts : goal.note_progress-requires-clause-receipts
note_progress-requires-clause-receipts g c =
    let due = moment-behind c.self.view_is c.requires.moment in
    (rows g.F.Key.Ord.cmp g.F.Functions.meaning g.F.Functions.code _ c.self.invariant c.args.place.partition c.args.now due).5

pub note_progress-requires-clause-slot : goal.note_progress-requires-clause-slot
note_progress-requires-clause-slot g c = c.in-Ok.ensures.within.0

pub note_progress-requires-clause-context : goal.note_progress-requires-clause-context
note_progress-requires-clause-context g c = c.in-Ok.ensures.within.1

pub note_progress-requires-clause-life : goal.note_progress-requires-clause-life
note_progress-requires-clause-life g c =
    let due = moment-behind c.self.view_is c.requires.moment in
    let ev = c.in-Ok.ensures.event refl in
    life-there g.F.Key.Ord.cmp g.F.Functions.meaning g.F.Functions.code _ c.self.invariant c.args.place c.args.now due c.index_mut-partition.result.now c.index_mut-partition.ensures.value ev.question ev.was
