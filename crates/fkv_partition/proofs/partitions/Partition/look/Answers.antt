use Rattle.std.proofs.Common.{◌≡◌, ◌<◌, ◌≤◌, Some, ap, subst, ◌∙◌}
use Rattle.fkv_regions.specs.Offsets.{view_at}
use Rattle.fkv_texts.specs.Text.{entry_at}
use Rattle.fkv_lookups.specs.Decisions.{low_of}
use Rattle.fkv_partition.specs.Going.{GoesOn}
use Rattle.fkv_functions.proofs.CallLemmas.{with_six}
use Rattle.fkv_partition.proofs.MoveLemmas.{open-here}
use Rattle.fkv_partition.proofs.LookLemmas.{address-at, begun-here, place-flushed, place-reading, place-there, place-open}
use Rattle.fkv_partition.proofs.partitions.Partition.look.Goals as goal

pub view-view-requires-whole : goal.view-view-requires-whole
view-view-requires-whole g c κs =
    let v = c.args.self.now in
    let x = c.args.relocation.now in
    with_six (
    rw c.records.ensures ((open-here v c.args.slot c.args.context x c.requires.here).inside))

pub ask-requires-clause-flushed : goal.ask-requires-clause-flushed
ask-requires-clause-flushed g c =
    let v = c.args.self.now in
    let x = c.args.relocation.now in
    let low = c.low_of.ensures
    ∙ ap (λ b. low_of b c.view-view.result) (c.begin-begin.ensures ∙ ap (λ r. r.log.begin) c.records-2.ensures)
    ∙ ap (λ w. low_of c.args.self.now.records.log.begin w) (c.view-view.ensures.value ∙ ap (λ r. view_at r.log.regions.views c.args.slot) c.records.ensures) in
    let under = subst (λ n. x.target < n) low c.if-target-low_of.true in
    place-flushed g.F.Key.Ord.cmp g.F.Mergeable.parts.joined g.F.Functions.code v c.facts.ensures.compacting c.facts.ensures.sound c.args.slot c.args.context x c.requires.here c.requires.uncleared under

pub ask-requires-clause-stands : goal.ask-requires-clause-stands
ask-requires-clause-stands g c =
    let v = c.args.self.now in
    let x = c.args.relocation.now in
    let low = c.low_of.ensures
    ∙ ap (λ b. low_of b c.view-view.result) (c.begin-begin.ensures ∙ ap (λ r. r.log.begin) c.records-2.ensures)
    ∙ ap (λ w. low_of c.args.self.now.records.log.begin w) (c.view-view.ensures.value ∙ ap (λ r. view_at r.log.regions.views c.args.slot) c.records.ensures) in
    let under = subst (λ n. x.target < n) low c.if-target-low_of.true in
    let begins = c.begin-begin.ensures ∙ ap (λ r. r.log.begin) c.records-2.ensures in
    rw begins (place-reading g.F.Key.Ord.cmp g.F.Mergeable.parts.joined g.F.Functions.code v c.facts.ensures.compacting c.facts.ensures.sound c.args.slot c.args.context x c.requires.here c.requires.uncleared under)

pub returns-then-target-low_of-clause-effect : goal.returns-then-target-low_of-clause-effect
returns-then-target-low_of-clause-effect g c =
    let v = c.args.self.now in
    let x = c.args.relocation.now in
    let low = c.low_of.ensures
    ∙ ap (λ b. low_of b c.view-view.result) (c.begin-begin.ensures ∙ ap (λ r. r.log.begin) c.records-2.ensures)
    ∙ ap (λ w. low_of c.args.self.now.records.log.begin w) (c.view-view.ensures.value ∙ ap (λ r. view_at r.log.regions.views c.args.slot) c.records.ensures) in
    let under = subst (λ n. x.target < n) low c.if-target-low_of.true in
    let begins = c.begin-begin.ensures ∙ ap (λ r. r.log.begin) c.records-2.ensures in
    GoesOn.reads x c.requires.here c.requires.fresh c.requires.uncleared under (rw begins at c.ask.ensures.effect)

pub record_at-entry-requires-clause-there : goal.record_at-entry-requires-clause-there
record_at-entry-requires-clause-there g c =
    let v = c.args.self.now in
    let x = c.args.relocation.now in
    let low = c.low_of.ensures
    ∙ ap (λ b. low_of b c.view-view.result) (c.begin-begin.ensures ∙ ap (λ r. r.log.begin) c.records-2.ensures)
    ∙ ap (λ w. low_of c.args.self.now.records.log.begin w) (c.view-view.ensures.value ∙ ap (λ r. view_at r.log.regions.views c.args.slot) c.records.ensures) in
    let over = subst (λ n. n ≤ x.target) low c.if-target-low_of.false in
    rw c.records-3.ensures ((place-there g.F.Key.Ord.cmp g.F.Mergeable.parts.joined g.F.Functions.code v c.facts.ensures.compacting c.facts.ensures.sound c.args.slot c.args.context x c.requires.here c.requires.uncleared over))

pub record_at-entry-requires-clause-in_frame : goal.record_at-entry-requires-clause-in_frame
record_at-entry-requires-clause-in_frame g c =
    let v = c.args.self.now in
    let x = c.args.relocation.now in
    let low = c.low_of.ensures
    ∙ ap (λ b. low_of b c.view-view.result) (c.begin-begin.ensures ∙ ap (λ r. r.log.begin) c.records-2.ensures)
    ∙ ap (λ w. low_of c.args.self.now.records.log.begin w) (c.view-view.ensures.value ∙ ap (λ r. view_at r.log.regions.views c.args.slot) c.records.ensures) in
    let over = subst (λ n. n ≤ x.target) low c.if-target-low_of.false in
    rw c.records-3.ensures ((place-open g.F.Key.Ord.cmp g.F.Mergeable.parts.joined g.F.Functions.code v c.facts.ensures.compacting c.facts.ensures.sound c.args.slot c.args.context x c.requires.here c.requires.uncleared over))

pub check_liveness-requires-clause-stands : goal.check_liveness-requires-clause-stands
check_liveness-requires-clause-stands g c =
    address-at c.records-3.result.now.log.text c.args.relocation.now.target c.record_at-entry.result c.record_at-entry.ensures.entry

pub returns-clause-effect : goal.returns-clause-effect
returns-clause-effect g c =
    let v = c.args.self.now in
    let x = c.args.relocation.now in
    let low = c.low_of.ensures
    ∙ ap (λ b. low_of b c.view-view.result) (c.begin-begin.ensures ∙ ap (λ r. r.log.begin) c.records-2.ensures)
    ∙ ap (λ w. low_of c.args.self.now.records.log.begin w) (c.view-view.ensures.value ∙ ap (λ r. view_at r.log.regions.views c.args.slot) c.records.ensures) in
    let over = subst (λ n. n ≤ x.target) low c.if-target-low_of.false in
    let there = (subst (λ r. entry_at r.log.text x.target ≡ Some c.record_at-entry.result) c.records-3.ensures c.record_at-entry.ensures.entry) in
    GoesOn.checks x c.record_at-entry.result c.requires.here c.requires.fresh c.requires.uncleared over there c.check_liveness.ensures.effect

pub returns-then-target-low_of-clause-cleared : goal.returns-then-target-low_of-clause-cleared
returns-then-target-low_of-clause-cleared g c = λ is. absurd (c.ask.ensures.uncleared is)

pub check_liveness-requires-clause-begun : goal.check_liveness-requires-clause-begun
check_liveness-requires-clause-begun g c = begun-here g.F.Key.Ord.cmp g.F.Mergeable.parts.joined g.F.Functions.code c.args.self.now c.facts.ensures.compacting c.facts.ensures.sound c.args.slot c.args.context c.args.relocation.now c.requires.here c.requires.uncleared

pub check_liveness-requires-clause-is : goal.check_liveness-requires-clause-is
check_liveness-requires-clause-is g c =
    let there = subst (λ r. entry_at r.log.text c.args.relocation.now.target ≡ Some c.record_at-entry.result) (c.records-3.ensures) c.record_at-entry.ensures.entry in
    λ _. there

pub returns-then-target-low_of-clause-event : goal.returns-then-target-low_of-clause-event
returns-then-target-low_of-clause-event g c = c.ask.ensures.event

pub returns-then-target-low_of-clause-unchanged : goal.returns-then-target-low_of-clause-unchanged
returns-then-target-low_of-clause-unchanged g c = c.ask.ensures.unchanged

pub returns-then-target-low_of-clause-moment : goal.returns-then-target-low_of-clause-moment
returns-then-target-low_of-clause-moment g c = c.ask.ensures.moment

pub returns-clause-event : goal.returns-clause-event
returns-clause-event g c = c.check_liveness.ensures.event

pub returns-clause-cleared : goal.returns-clause-cleared
returns-clause-cleared g c = c.check_liveness.ensures.cleared

pub returns-clause-unchanged : goal.returns-clause-unchanged
returns-clause-unchanged g c = c.check_liveness.ensures.unchanged

pub returns-clause-moment : goal.returns-clause-moment
returns-clause-moment g c = c.check_liveness.ensures.moment

pub ask-requires-clause-later : goal.ask-requires-clause-later
ask-requires-clause-later g c = c.requires.later

pub ask-requires-clause-session : goal.ask-requires-clause-session
ask-requires-clause-session g c = c.requires.session

pub ask-requires-clause-context : goal.ask-requires-clause-context
ask-requires-clause-context g c = c.requires.context

pub ask-requires-clause-here : goal.ask-requires-clause-here
ask-requires-clause-here g c = c.requires.here

pub check_liveness-requires-clause-later : goal.check_liveness-requires-clause-later
check_liveness-requires-clause-later g c = c.requires.later

pub check_liveness-requires-clause-session : goal.check_liveness-requires-clause-session
check_liveness-requires-clause-session g c = c.requires.session

pub check_liveness-requires-clause-context : goal.check_liveness-requires-clause-context
check_liveness-requires-clause-context g c = c.requires.context

pub check_liveness-requires-clause-here : goal.check_liveness-requires-clause-here
check_liveness-requires-clause-here g c = c.requires.here
