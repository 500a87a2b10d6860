use Rattle.std.proofs.Common.{arith}
use Rattle.fkv_locked.proofs.TurnLemmas.{quiet_keeps}
use Rattle.fkv_locked.proofs.locked.Locked.enter.Goals as goal

pub invariant_of-self-in-Ok : goal.invariant_of-self-in-Ok
invariant_of-self-in-Ok g c =
    let moment = c.enter.ensures.moment in
    let start = c.starting-self-inside.ensures in
    let next = c.in-Some-next_moment.ensures.some in
    let was = c.self.invariant.0 in (
      omega arith,
      c.self.invariant.1,
      c.self.invariant.2,
      λ k held. quiet_keeps g.F.Key.Ord.cmp g.F.Functions.meaning c.self.inside.partition c.enter.new.self (g.H.Recorder.entries c.self.inside.history) c.self.inside.lows.items c.self.inside.looks.items c.self.inside.book
          c.in-Some-next_moment.now (c.self.invariant.3 k held) g.R.Receipt.keeps held (omega arith) c.in-Ok.ensures.event c.in-Ok.ensures.pends,
    )

pub returns-in-Ok-clause-enters : goal.returns-in-Ok-clause-enters
returns-in-Ok-clause-enters g c = rw (← c.self.view_is, ← c.in-Some-next_moment.ensures.some) c.in-Ok.ensures.effect
