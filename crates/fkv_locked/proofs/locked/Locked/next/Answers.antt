use Rattle.std.proofs.Common.{inr, arith}
use Rattle.fkv_locked.proofs.CompactingLemmas.{turn_keeps, next_tells}
use Rattle.fkv_locked.proofs.locked.Locked.next.Goals as goal

pub invariant_of-self-in-Ok : goal.invariant_of-self-in-Ok
invariant_of-self-in-Ok g c =
    let moment = c.next.ensures.moment in
    let start = c.starting-self-inside.ensures in
    let next = c.in-Some.ensures.some in
    let was = c.self.invariant.0 in (
      omega arith,
      c.self.invariant.1,
      c.self.invariant.2,
      λ k held. turn_keeps g.F.Key.Ord.cmp g.F.Functions.meaning c.self.inside.partition c.next.new.partition (g.H.Recorder.entries c.self.inside.history) c.self.inside.lows.items c.self.inside.looks.items c.self.inside.book
          (c.self.invariant.3 k held) g.R.Receipt.keeps c.args.compactor.now c.in-Some.now held (omega arith) c.in-Ok.ensures.event,
    )

pub returns-in-Err-clause-effect : goal.returns-in-Err-clause-effect
returns-in-Err-clause-effect g c = inr (rw (← c.self.view_is, ← c.in-Some.ensures.some) c.in-Err.ensures.effect)

pub returns-in-Ok-clause-effect : goal.returns-in-Ok-clause-effect
returns-in-Ok-clause-effect g c = inr (rw (← c.self.view_is, ← c.in-Some.ensures.some) c.in-Ok.ensures.effect)

pub returns-in-Ok-clause-cleared : goal.returns-in-Ok-clause-cleared
returns-in-Ok-clause-cleared g c = rw (← c.self.view_is, ← c.in-Some.ensures.some) c.in-Ok.ensures.cleared

pub returns-in-Ok-clause-tells : goal.returns-in-Ok-clause-tells
returns-in-Ok-clause-tells g c =
    rw (← c.self.view_is, ← c.in-Some.ensures.some)
    (next_tells g.R.Receipt.stands g.F.Key.Ord.cmp g.F.Mergeable.parts.joined g.F.Functions.meaning g.F.Functions.code c.self.inside.partition c.next.new.partition c.args.compactor.now c.in-Some.now _ c.in-Ok.ensures.effect)
