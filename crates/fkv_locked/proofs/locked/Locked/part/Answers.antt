use Rattle.fkv_locked.proofs.CompactingLemmas.{part_keeps}
use Rattle.fkv_locked.proofs.locked.Locked.part.Goals as goal

pub invariant_of-self : goal.invariant_of-self
invariant_of-self g c = (
  c.part.ensures.past,
  c.self.invariant.1,
  c.self.invariant.2,
  λ k held. part_keeps g.F.Key.Ord.cmp g.F.Functions.meaning c.self.inside.partition c.part.new.partition (g.H.Recorder.entries c.self.inside.history) c.self.inside.lows.items c.self.inside.looks.items c.self.inside.book
      (c.self.invariant.3 k held) g.R.Receipt.keeps c.args.compactor c.self.inside.clock c.part.new.clock c.part.result c.self.invariant.0 c.part.ensures.effect c.part.ensures.operations (c.part.ensures.pends held)
      (c.part.ensures.live held),
)

pub returns-clause-effect : goal.returns-clause-effect
returns-clause-effect g c = rw (← c.self.view_is) c.part.ensures.effect
