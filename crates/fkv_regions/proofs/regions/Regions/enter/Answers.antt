use Rattle.fkv_regions.specs.Inside.{state_of}
use Rattle.fkv_regions.proofs.MoveLemmas.{moved-entered, free-fits}
use Rattle.fkv_regions.proofs.regions.Regions.enter.Goals as goal

pub invariant_of-self-2 : goal.invariant_of-self-2
invariant_of-self-2 c =
    let moved = moved-entered (state_of c.self.inside) c.in_ok-slot.slot (free-fits c.self.inside.epochs c.in_ok-slot.slot c.facts.ensures.ordered c.in_ok-slot.ensures.slot) c.self.invariant in
    rw (c.in_ok-slot.ensures.effect, c.look.ensures, c.view-now.ensures) moved.regions

pub returns-clause-moved : goal.returns-clause-moved
returns-clause-moved c =
    let moved = moved-entered (state_of c.self.inside) c.in_ok-slot.slot (free-fits c.self.inside.epochs c.in_ok-slot.slot c.facts.ensures.ordered c.in_ok-slot.ensures.slot) c.self.invariant in
    rw (← c.self.view_is, c.in_ok-slot.ensures.effect, c.look.ensures, c.view-now.ensures) moved
