use Rattle.std.proofs.Common.{rules}
use Rattle.std.specs.Prelude.{IsTrue}
use Rattle.fkv_epoch.specs.Moves.{is_entered}
use Rattle.fkv_regions.specs.Inside.{state_of}
use Rattle.fkv_regions.proofs.MoveLemmas.{moved-refreshed, entered-fits}
use Rattle.fkv_regions.proofs.regions.Regions.refresh.Goals as goal

pub invariant_of-self-2 : goal.invariant_of-self-2
invariant_of-self-2 c =
    let there : IsTrue (is_entered c.self.inside.epochs c.args.slot) = search rules in
    let moved = moved-refreshed (state_of c.self.inside) c.args.slot (entered-fits c.self.inside.epochs c.args.slot c.facts.ensures.ordered there) c.facts.ensures.ordered c.self.invariant in
    rw (c.in_ok-due.ensures.effect, c.look.ensures, c.view.ensures, c.run.ensures, c.deref.ensures.0, c.in_ok-due.ensures.due) moved.regions

pub returns-clause-moved : goal.returns-clause-moved
returns-clause-moved c =
    let there : IsTrue (is_entered c.self.inside.epochs c.args.slot) = search rules in
    let moved = moved-refreshed (state_of c.self.inside) c.args.slot (entered-fits c.self.inside.epochs c.args.slot c.facts.ensures.ordered there) c.facts.ensures.ordered c.self.invariant in
    rw (← c.self.view_is, c.in_ok-due.ensures.effect, c.look.ensures, c.view.ensures, c.run.ensures, c.deref.ensures.0, c.in_ok-due.ensures.due) moved
