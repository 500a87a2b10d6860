use Rattle.std.proofs.Common.{inr, arith}
use Rattle.fkv_locked.proofs.TurnLemmas.{quiet_keeps}
use Rattle.fkv_locked.proofs.locked.Locked.leave.Goals as goal

pub invariant_of-self-in-Ok : goal.invariant_of-self-in-Ok
invariant_of-self-in-Ok g c =
    let moment = c.leave.ensures.moment in
    let start = c.starting-self-inside.ensures in
    let next = c.in-Some.ensures.some in
    let was = c.self.invariant.0 in (
      omega arith,
      c.self.invariant.1,
      c.self.invariant.2,
      λ k held. quiet_keeps g.F.Key.Ord.cmp g.F.Functions.meaning c.self.inside.partition c.leave.new.self (g.H.Recorder.entries c.self.inside.history) c.self.inside.lows.items c.self.inside.looks.items c.self.inside.book
          c.in-Some.now (c.self.invariant.3 k held) g.R.Receipt.keeps held (omega arith) c.in-Ok.ensures.event (c.in-Ok.ensures.pends held),
    )

pub returns-in-Err-clause-effect : goal.returns-in-Err-clause-effect
returns-in-Err-clause-effect g c = inr (rw (← c.self.view_is, ← c.in-Some.ensures.some) c.in-Err.ensures.effect)
