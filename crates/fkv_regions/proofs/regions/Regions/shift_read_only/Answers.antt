use Rattle.std.proofs.Common.{◌<◌, ◌≤◌, length, arith}
use Rattle.std.proofs.lemmas.Grind.{common_steps}
use Rattle.fkv_records.specs.Places.{start_at}
use Rattle.fkv_regions.specs.Inside.{state_of}
use Rattle.fkv_regions.specs.RegionsView.{IsReadOnlyDue}
use Rattle.fkv_regions.proofs.OffsetLemmas.{start-below}
use Rattle.fkv_regions.proofs.MoveLemmas.{moved-read_only}
use Rattle.fkv_regions.proofs.regions.Regions.shift_read_only.Goals as goal

pub start-start-requires : goal.start-start-requires
start-start-requires c =
    let due : IsReadOnlyDue (state_of c.self.inside) c.args.page c.args.tail = rw (← c.self.view_is) at (c.is_read_only_due.ensures.0 c.if-not-is_read_only_due.false) in
    let low : start_at c.self.inside.shape.page_bits c.args.page ≤ c.args.tail = start-below c.self.inside.shape.page_bits c.args.page c.args.tail due.begun in
    omega (arith, c.requires.most)

pub invariant_of-self-2 : goal.invariant_of-self-2
invariant_of-self-2 c =
    let due : IsReadOnlyDue (state_of c.self.inside) c.args.page c.args.tail = rw (← c.self.view_is) at (c.is_read_only_due.ensures.0 c.if-not-is_read_only_due.false) in
    let room : length c.self.inside.epochs.waiting < 16 = grind (arith, common_steps) in
    let moved = moved-read_only (state_of c.self.inside) c.args.page c.args.tail c.requires.most c.facts.ensures.ordered room due c.self.invariant in
    rw (c.in_ok-due.ensures.effect, c.run.ensures, c.deref.ensures.0, c.in_ok-due.ensures.due, c.start-start.ensures.value) moved.regions

pub returns-clause-moved : goal.returns-clause-moved
returns-clause-moved c =
    let due : IsReadOnlyDue (state_of c.self.inside) c.args.page c.args.tail = rw (← c.self.view_is) at (c.is_read_only_due.ensures.0 c.if-not-is_read_only_due.false) in
    let room : length c.self.inside.epochs.waiting < 16 = grind (arith, common_steps) in
    let moved = moved-read_only (state_of c.self.inside) c.args.page c.args.tail c.requires.most c.facts.ensures.ordered room due c.self.invariant in
    rw (← c.self.view_is, c.in_ok-due.ensures.effect, c.run.ensures, c.deref.ensures.0, c.in_ok-due.ensures.due, c.start-start.ensures.value) moved
