use Rattle.fkv_regions.specs.Inside.{state_of}
use Rattle.fkv_regions.proofs.MoveLemmas.{moved-left}
use Rattle.fkv_regions.proofs.regions.Regions.leave.Goals as goal

pub invariant_of-self-2 : goal.invariant_of-self-2
invariant_of-self-2 c =
    let moved = moved-left (state_of c.self.inside) c.args.slot c.facts.ensures.ordered c.self.invariant in
    rw (c.in_ok-due.ensures.effect, c.run.ensures, c.deref.ensures.0, c.in_ok-due.ensures.due) moved.regions

pub returns-clause-moved : goal.returns-clause-moved
returns-clause-moved c =
    let moved = moved-left (state_of c.self.inside) c.args.slot c.facts.ensures.ordered c.self.invariant in
    rw (← c.self.view_is, c.in_ok-due.ensures.effect, c.run.ensures, c.deref.ensures.0, c.in_ok-due.ensures.due) moved
