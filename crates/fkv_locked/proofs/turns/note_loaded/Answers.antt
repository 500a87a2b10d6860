use Rattle.std.proofs.Common.{◌∙◌, refl, ap}
use Rattle.fkv_locked.specs.declared.turns.Turn.TheVariants.{Done}
use Rattle.fkv_locked.proofs.TurnLemmas.{came_next, came_build, came_wait, came_further, came_done}
use Rattle.fkv_locked.proofs.turns.note_loaded.Goals as goal

pub returns-in-Next-clause-kept : goal.returns-in-Next-clause-kept
returns-in-Next-clause-kept g c k old new looks is event kept =
    came_next g.F.Key.Ord.cmp g.F.Functions.meaning old new (g.H.Recorder.entries c.args.history.now) c.args.lows.now.items looks c.args.book.now 0 kept c.args.operation.now
    (rw c.in-Next.is at event)

pub returns-in-NeedsBuild-clause-kept : goal.returns-in-NeedsBuild-clause-kept
returns-in-NeedsBuild-clause-kept g c k old new looks is event kept =
    came_build g.F.Key.Ord.cmp g.F.Functions.meaning old new (g.H.Recorder.entries c.args.history.now) c.args.lows.now.items looks c.args.book.now 0 kept c.args.operation.now
    c.in-NeedsBuild.ask (rw c.in-NeedsBuild.is at event)

pub returns-in-Waits-clause-kept : goal.returns-in-Waits-clause-kept
returns-in-Waits-clause-kept g c k old new looks is event kept =
    came_wait g.F.Key.Ord.cmp g.F.Functions.meaning old new (g.H.Recorder.entries c.args.history.now) c.args.lows.now.items looks c.args.book.now 0 kept c.args.operation.now
    c.in-Waits.why (rw c.in-Waits.is at event)

pub returns-in-NeedsLoad-clause-kept : goal.returns-in-NeedsLoad-clause-kept
returns-in-NeedsLoad-clause-kept g c k old new looks is event kept =
    came_further g.F.Key.Ord.cmp g.F.Functions.meaning old new (g.H.Recorder.entries c.args.history.now) c.args.lows.now.items looks c.args.book.now 0 kept c.args.operation.now
    c.in-NeedsLoad.receipt c.in-NeedsLoad.address (rw c.in-NeedsLoad.is at event)

pub returns-in-Done-clause-kept : goal.returns-in-Done-clause-kept
returns-in-Done-clause-kept g c k old new looks is event kept =
    let count = c.updates-high.ensures ∙ g.met.H.Recorder.counted c.args.history.now k in
    rw c.finish.ensures.book
    (came_done g.F.Key.Ord.cmp g.F.Functions.meaning old new (g.H.Recorder.entries c.args.history.now) c.args.lows.now.items looks c.args.book.now 0 kept c.args.operation.now
    c.in-Done.answer c.in-Done._effect
    (record { session = c.args.operation.now.session.number; number = c.args.operation.now.number; op = c.args.operation.now.op; answer = c.in-Done.answer; low = c.mark_at.result; at = c.args.look; high = c.updates-high.result })
    (g.H.Recorder.entries c.finish.new.history) (rw c.in-Done.is at event) refl refl is count c.mark_at.ensures (c.finish.ensures.entries k))

pub returns-in-Done-clause-tells : goal.returns-in-Done-clause-tells
returns-in-Done-clause-tells g c = rw c.in-Done.is (_, ap Done c.finish.ensures.entry, refl)
