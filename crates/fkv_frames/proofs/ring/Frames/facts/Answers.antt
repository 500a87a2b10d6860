use Rattle.fkv_frames.proofs.Slots.{sized-in_frames}
use Rattle.fkv_frames.proofs.ring.Frames.facts.Goals as goal

pub returns-clause-sizes : goal.returns-clause-sizes
returns-clause-sizes c = rw (← c.self.view_is) (sized-in_frames c.self.inside c.self.invariant.sizes)
