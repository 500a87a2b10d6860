use Rattle.std.proofs.Common.{◌<◌, length, arith}
use Rattle.std.proofs.lemmas.Grind.{common_steps}
use Rattle.fkv_regions.specs.Inside.{state_of}
use Rattle.fkv_regions.specs.RegionsView.{IsHeadDue}
use Rattle.fkv_regions.proofs.MoveLemmas.{moved-head}
use Rattle.fkv_regions.proofs.regions.Regions.shift_head.Goals as goal

pub invariant_of-self-2 : goal.invariant_of-self-2
invariant_of-self-2 c =
    let due : IsHeadDue (state_of c.self.inside) c.args.page = rw (← c.self.view_is) at (c.is_head_due.ensures.0 c.if-not-is_head_due.false) in
    let room : length c.self.inside.epochs.waiting < 16 = grind (arith, common_steps) in
    let moved = moved-head (state_of c.self.inside) c.args.page c.facts.ensures.ordered room due c.self.invariant in
    rw (c.in_ok-due.ensures.effect, c.run.ensures, c.deref.ensures.0, c.in_ok-due.ensures.due, c.start-start.ensures.value) moved.regions

pub returns-clause-moved : goal.returns-clause-moved
returns-clause-moved c =
    let due : IsHeadDue (state_of c.self.inside) c.args.page = rw (← c.self.view_is) at (c.is_head_due.ensures.0 c.if-not-is_head_due.false) in
    let room : length c.self.inside.epochs.waiting < 16 = grind (arith, common_steps) in
    let moved = moved-head (state_of c.self.inside) c.args.page c.facts.ensures.ordered room due c.self.invariant in
    rw (← c.self.view_is, c.in_ok-due.ensures.effect, c.run.ensures, c.deref.ensures.0, c.in_ok-due.ensures.due, c.start-start.ensures.value) moved
