use Rattle.std.proofs.Common.{◌∙◌, ◌<◌, length, slice_set, refl, ap, arith}
use Rattle.fkv_locked.specs.Kept.{place_of}
use Rattle.fkv_locked.specs.declared.turns.Turn.TheVariants.{Done}
use Rattle.fkv_locked.proofs.TurnLemmas.{went_next, went_build, went_wait, went_load, went_done}
use Rattle.fkv_locked.proofs.turns.note.Goals as goal

pub returns-in-Next-clause-kept : goal.returns-in-Next-clause-kept
returns-in-Next-clause-kept g c k old new now event kept =
    went_next g.F.Key.Ord.cmp g.F.Functions.meaning old new (g.H.Recorder.entries c.args.history.now) c.args.lows.now.items c.args.looks.now.items c.args.book.now now kept c.args.operation.now
    (rw c.in-Next.is at event)

pub returns-in-NeedsBuild-clause-kept : goal.returns-in-NeedsBuild-clause-kept
returns-in-NeedsBuild-clause-kept g c k old new now event kept =
    went_build g.F.Key.Ord.cmp g.F.Functions.meaning old new (g.H.Recorder.entries c.args.history.now) c.args.lows.now.items c.args.looks.now.items c.args.book.now now kept c.args.operation.now
    c.in-NeedsBuild.ask (rw c.in-NeedsBuild.is at event)

pub returns-in-Waits-clause-kept : goal.returns-in-Waits-clause-kept
returns-in-Waits-clause-kept g c k old new now event kept =
    went_wait g.F.Key.Ord.cmp g.F.Functions.meaning old new (g.H.Recorder.entries c.args.history.now) c.args.lows.now.items c.args.looks.now.items c.args.book.now now kept c.args.operation.now
    c.in-Waits.why (rw c.in-Waits.is at event)

pub returns-in-NeedsLoad-clause-kept : goal.returns-in-NeedsLoad-clause-kept
returns-in-NeedsLoad-clause-kept g c k old new now event kept =
    let count = c.updates-at.ensures ∙ g.met.H.Recorder.counted c.args.history.now k in
    let a = c.requires.within.0 in
    let b = c.requires.within.1 in
    let l = c.requires.marks.1 in
    let low : place_of c.args.operation.now.session.slot c.args.operation.now.context < length c.args.looks.now.items = omega arith in
    went_load g.F.Key.Ord.cmp g.F.Functions.meaning old new (g.H.Recorder.entries c.args.history.now) c.args.lows.now.items c.args.looks.now.items c.args.book.now now kept c.args.operation.now
    c.in-NeedsLoad.receipt c.in-NeedsLoad.address c.set_mark.new.marks.items (rw c.in-NeedsLoad.is at event)
    (c.set_mark.ensures ∙ ap (slice_set c.args.looks.now.items (place_of c.args.operation.now.session.slot c.args.operation.now.context)) count) low

pub returns-in-Done-clause-kept : goal.returns-in-Done-clause-kept
returns-in-Done-clause-kept g c k old new now event kept =
    let count = c.updates-at.ensures ∙ g.met.H.Recorder.counted c.args.history.now k in
    rw c.finish.ensures.book
    (went_done g.F.Key.Ord.cmp g.F.Functions.meaning old new (g.H.Recorder.entries c.args.history.now) c.args.lows.now.items c.args.looks.now.items c.args.book.now now kept c.args.operation.now
    c.in-Done.answer c.in-Done._effect
    (record { session = c.args.operation.now.session.number; number = c.args.operation.now.number; op = c.args.operation.now.op; answer = c.in-Done.answer; low = c.mark_at.result; at = c.updates-at.result; high = c.updates-at.result })
    (g.H.Recorder.entries c.finish.new.history) (rw c.in-Done.is at event) refl refl count count c.mark_at.ensures (c.finish.ensures.entries k))

pub returns-in-Done-clause-tells : goal.returns-in-Done-clause-tells
returns-in-Done-clause-tells g c = rw c.in-Done.is (_, ap Done c.finish.ensures.entry, refl)
