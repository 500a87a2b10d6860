use Rattle.std.proofs.Common.{arith}
use Rattle.fkv_locked.proofs.TurnLemmas.{give_up_keeps}
use Rattle.fkv_locked.proofs.locked.Locked.give_up.Goals as goal

pub invariant_of-self-in-Ok : goal.invariant_of-self-in-Ok
invariant_of-self-in-Ok g c =
    let moment = c.give_up.ensures.moment in
    let start = c.starting-self-inside.ensures in
    let next = c.in-Some.ensures.some in
    let was = c.self.invariant.0 in (
      omega arith,
      c.self.invariant.1,
      c.self.invariant.2,
      λ k held. give_up_keeps g.F.Key.Ord.cmp g.F.Functions.meaning c.self.inside.partition c.give_up.new.self (g.H.Recorder.entries c.self.inside.history) c.self.inside.lows.items c.self.inside.looks.items c.self.inside.book
          c.in-Some.now (c.self.invariant.3 k held) c.args.operation.now.session.slot c.args.operation.now.context (omega arith) c.in-Ok.ensures.event c.give_up.ensures.others,
    )

pub returns-in-Ok-clause-effect : goal.returns-in-Ok-clause-effect
returns-in-Ok-clause-effect g c = rw (← c.self.view_is, ← c.in-Some.ensures.some) c.in-Ok.ensures.effect
