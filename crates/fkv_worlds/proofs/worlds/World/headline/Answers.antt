use Rattle.fkv_worlds.proofs.worlds.World.headline.Goals as goal

pub returns : goal.returns
returns g c =
    rw (← c.self.view_is) (record {
      placed = c.sound.ensures.world.placed;
      denotes = c.sound.ensures.world.denotes;
      paired = c.self.invariant.paired;
      issued = c.self.invariant.history.lives;
      account = c.self.invariant.account;
    })
