use Rattle.fkv_worlds.proofs.states.State.sound.Goals as goal

pub returns : goal.returns
returns g c = rw (← c.self.view_is) c.self.invariant
