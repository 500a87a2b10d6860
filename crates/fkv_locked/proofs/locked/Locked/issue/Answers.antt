use Rattle.std.proofs.Common.{◌<◌, ◌∙◌, inr, length, slice_set, ap, arith}
use Rattle.std.proofs.lemmas.List.{length-set}
use Rattle.fkv_locked.specs.Kept.{place_of}
use Rattle.fkv_locked.specs.Marks.{Marks}
use Rattle.fkv_locked.proofs.KeptLemmas.{marked_same}
use Rattle.fkv_locked.proofs.TurnLemmas.{issue_keeps}
use Rattle.fkv_locked.proofs.locked.Locked.issue.Goals as goal

pub invariant_of-self-in-Ok : goal.invariant_of-self-in-Ok
invariant_of-self-in-Ok g c =
    let moment = c.issue.ensures.moment in
    let start = c.starting-self-inside.ensures in
    let next = c.in-Some.ensures.some in
    let was = c.self.invariant.0 in
    let a = c.in-Ok.ensures.within.0 in
    let b = c.in-Ok.ensures.within.1 in
    let l = c.self.invariant.1 in (
      omega arith,
      rw c.set_mark.ensures (length-set c.self.inside.lows.items (place_of c.args.session.slot c.in-Ok.context) c.updates-held.result ∙ c.self.invariant.1),
      c.self.invariant.2,
      λ k held.
          let count = c.updates-held.ensures ∙ g.met.H.Recorder.counted c.self.inside.history k in
          let low : place_of c.args.session.slot c.in-Ok.context < length c.self.inside.lows.items = omega arith in
          issue_keeps g.F.Key.Ord.cmp g.F.Functions.meaning c.self.inside.partition c.issue.new.self (g.H.Recorder.entries c.self.inside.history) c.self.inside.lows.items c.self.inside.looks.items c.self.inside.book
          c.in-Some.now (c.self.invariant.3 k held) c.args.session.slot c.in-Ok.context c.op.result g.F.Functions.code c.set_mark.new.marks.items b (omega arith) c.in-Ok.ensures.event (c.issue.ensures.pends held)
          (c.set_mark.ensures ∙ ap (slice_set c.self.inside.lows.items (place_of c.args.session.slot c.in-Ok.context)) count) low,
    )

pub returns-in-Err-clause-refused : goal.returns-in-Err-clause-refused
returns-in-Err-clause-refused g c = rw (← c.self.view_is, ← c.in-Some.ensures.some, ← c.op.ensures) (inr c.in-Err.ensures.effect)

pub returns-in-Ok-clause-marks : goal.returns-in-Ok-clause-marks
returns-in-Ok-clause-marks g c =
    rw (← c.self.view_is)
    (Marks.issues c.args.session.slot c.in-Ok.context c.in-Ok.ensures.within.1 c.in-Ok.ensures.event.closed
    (rw (← c.updates-held.ensures) c.set_mark.ensures))

pub returns-in-Ok-clause-mark : goal.returns-in-Ok-clause-mark
returns-in-Ok-clause-mark g c =
    let a = c.in-Ok.ensures.within.0 in
    let b = c.in-Ok.ensures.within.1 in
    let l = c.self.invariant.1 in
    let low : place_of c.args.session.slot c.in-Ok.context < length c.self.inside.lows.items = omega arith in
    rw (← c.self.view_is)
    (marked_same c.self.inside.lows.items c.set_mark.new.marks.items (place_of c.args.session.slot c.in-Ok.context) c.updates-held.result
    c.set_mark.ensures low ∙ c.updates-held.ensures)
