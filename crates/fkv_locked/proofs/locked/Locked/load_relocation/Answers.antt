use Rattle.std.proofs.Common.{inr, arith}
use Rattle.fkv_locked.proofs.CompactingLemmas.{load_keeps, load_tells}
use Rattle.fkv_locked.proofs.locked.Locked.load_relocation.Goals as goal

pub invariant_of-self : goal.invariant_of-self
invariant_of-self g c =
    let moment = c.load.ensures.moment in
    let start = c.starting-self-inside.ensures in
    let next = c.in-Some.ensures.some in
    let was = c.self.invariant.0 in (
      omega arith,
      c.self.invariant.1,
      c.self.invariant.2,
      λ k held. load_keeps g.F.Key.Ord.cmp g.F.Functions.meaning c.self.inside.partition c.load.new.partition (g.H.Recorder.entries c.self.inside.history) c.self.inside.lows.items c.self.inside.looks.items c.self.inside.book
          (c.self.invariant.3 k held) g.R.Receipt.stands _ g.F.Mergeable.parts.joined g.F.Functions.code g.R.Receipt.keeps c.args.compactor.now c.in-Some.now c.args.came c.load.result held (omega arith) c.load.ensures.effect c.load.ensures.event,
    )

pub returns-clause-effect : goal.returns-clause-effect
returns-clause-effect g c = inr (rw (← c.self.view_is, ← c.in-Some.ensures.some) c.load.ensures.effect)

pub returns-clause-tells : goal.returns-clause-tells
returns-clause-tells g c =
    rw (← c.self.view_is, ← c.in-Some.ensures.some)
    (load_tells g.R.Receipt.stands g.F.Key.Ord.cmp g.F.Mergeable.parts.joined g.F.Functions.meaning g.F.Functions.code c.self.inside.partition c.load.new.partition c.args.compactor.now c.in-Some.now c.load.result _ c.args.came c.load.ensures.effect)
