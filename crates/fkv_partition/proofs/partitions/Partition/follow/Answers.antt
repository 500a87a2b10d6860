use Rattle.std.proofs.Common.{Some, refl, sym, ap, ◌∙◌, arith}
use Rattle.fkv_functions.proofs.KeyOrder.{key_order}
use Rattle.fkv_texts.proofs.CoverLemmas.{cleared-lower}
use Rattle.fkv_partition.proofs.DecidedLemmas.{page_flushed}
use Rattle.fkv_partition.specs.Checking.{ChecksLiveness}
use Rattle.fkv_functions.proofs.CallLemmas.{with_six}
use Rattle.fkv_partition.proofs.MoveLemmas.{event-done, past-place, open-here, stands-here, low-here, keyless-here}
use Rattle.fkv_partition.proofs.CheckingLemmas.{told-so, superseded-one, superseded-newer, ready, further-disk, tracing}
use Rattle.fkv_partition.specs.Checking.{NeedsNoCopy}
use Rattle.fkv_partition.proofs.ApartLemmas.{no-higher, has-come}
use Rattle.fkv_partition.proofs.partitions.Partition.follow.Goals as goal

pub lowest-requires-whole : goal.lowest-requires-whole
lowest-requires-whole g c κs =
    let v = c.args.self.now in
    let x = c.args.relocation.now in
    with_six (
    (open-here v c.args.slot c.args.context x c.requires.here).inside)

pub reach-came-requires-clause-begin : goal.reach-came-requires-clause-begin
reach-came-requires-clause-begin g c = no-higher c.lowest.ensures.begin c.higher_of-low.ensures.right

pub reach-came-requires-clause-closed : goal.reach-came-requires-clause-closed
reach-came-requires-clause-closed g c = no-higher c.lowest.ensures.closed c.higher_of-low.ensures.right

pub reach-came-requires-clause-entry : goal.reach-came-requires-clause-entry
reach-came-requires-clause-entry g c =
    ap Some c.address.ensures ∙ sym c.requires.leads

pub finish-requires-clause-issued : goal.finish-requires-clause-issued
finish-requires-clause-issued g c =
    let v = c.args.self.now in
    let x = c.args.relocation.now in
    let e = c.args.entry in
    (stands-here v c.args.slot c.args.context x c.requires.here c.facts.ensures.compacting).issued

pub finish-requires-clause-place : goal.finish-requires-clause-place
finish-requires-clause-place g c =
    let v = c.args.self.now in
    let x = c.args.relocation.now in
    let e = c.args.entry in
    (stands-here v c.args.slot c.args.context x c.requires.here c.facts.ensures.compacting).place

pub finish-requires-clause-low : goal.finish-requires-clause-low
finish-requires-clause-low g c =
    let v = c.args.self.now in
    let x = c.args.relocation.now in
    let e = c.args.entry in
    low-here v c.args.slot c.args.context x c.requires.here c.facts.ensures.compacting c.facts.ensures.sound.traced

pub finish-requires-clause-superseded : goal.finish-requires-clause-superseded
finish-requires-clause-superseded g c =
    let ord = g.met.F.Key.Ord in
    let facts = g.met.F.Key.FixedKey in
    let order = key_order g.F.Key.PartialEq.eq g.F.Key.Ord.cmp ord.matches_eq facts.exact ord.total in
    let v = c.args.self.now in
    let x = c.args.relocation.now in
    let e = c.args.entry in
    let so = told-so g.F.Key.Ord.cmp g.F.Mergeable.parts.joined g.F.Functions.code {u = c.args.self.now} refl c.args.slot x.target e.key c.lowest.ensures.value c.higher_of-low.ensures.value c.reach-came.ensures c.liveness_of.ensures c.in-Superseded.is in
    superseded-one g.F.Key.Ord.cmp v.records.log.text x.target e c.requires.is (superseded-newer g.F.Key.Ord.cmp g.F.Mergeable.parts.joined g.F.Functions.code order v c.facts.ensures.sound c.args.slot (open-here v c.args.slot c.args.context x c.requires.here).inside x.target e c.requires.stands c.requires.is c.args.kept c.requires.entry_stands c.requires.leads so)

pub append_again-requires-clause-stands : goal.append_again-requires-clause-stands
append_again-requires-clause-stands g c =
    let ord = g.met.F.Key.Ord in
    let facts = g.met.F.Key.FixedKey in
    let order = key_order g.F.Key.PartialEq.eq g.F.Key.Ord.cmp ord.matches_eq facts.exact ord.total in
    let v = c.args.self.now in
    let x = c.args.relocation.now in
    let e = c.args.entry in
    let so = told-so g.F.Key.Ord.cmp g.F.Mergeable.parts.joined g.F.Functions.code {u = c.args.self.now} refl c.args.slot x.target e.key c.lowest.ensures.value c.higher_of-low.ensures.value c.reach-came.ensures c.liveness_of.ensures c.in-Last.is in
    rw c.renewed-whole.ensures (c.requires.own, ready g.F.Key.Ord.cmp g.F.Mergeable.parts.joined g.F.Functions.code order v c.facts.ensures.sound c.args.slot (open-here v c.args.slot c.args.context x c.requires.here).inside x.target e c.requires.stands c.requires.is c.args.kept c.requires.entry_stands c.requires.leads c.in-Last.parts so c.requires.begun (stands-here v c.args.slot c.args.context x c.requires.here c.facts.ensures.compacting).frozen c.requires.some (λ yes_keeps. cleared-lower g.F.Key.Ord.cmp v.records.log.text x.target v.cleared (stands-here v c.args.slot c.args.context x c.requires.here c.facts.ensures.compacting).issued (c.facts.ensures.compacting.cleared yes_keeps)))

pub ask-requires-clause-flushed : goal.ask-requires-clause-flushed
ask-requires-clause-flushed g c =
    let ord = g.met.F.Key.Ord in
    let facts = g.met.F.Key.FixedKey in
    let order = key_order g.F.Key.PartialEq.eq g.F.Key.Ord.cmp ord.matches_eq facts.exact ord.total in
    let v = c.args.self.now in
    let x = c.args.relocation.now in
    let e = c.args.entry in
    let so = told-so g.F.Key.Ord.cmp g.F.Mergeable.parts.joined g.F.Functions.code {u = c.args.self.now} refl c.args.slot x.target e.key c.lowest.ensures.value c.higher_of-low.ensures.value c.reach-came.ensures c.liveness_of.ensures c.in-Further.is in
    let disk = further-disk g.F.Key.Ord.cmp g.F.Mergeable.parts.joined g.F.Functions.code order v c.facts.ensures.sound c.args.slot (open-here v c.args.slot c.args.context x c.requires.here).inside x.target e c.requires.stands c.requires.is c.args.kept c.requires.entry_stands c.requires.leads c.in-Further.wanted c.in-Further.parts c.requires.begun so in
    page_flushed v.records c.in-Further.wanted c.facts.ensures.sound.traced disk.0 disk.1

pub ask-requires-clause-stands : goal.ask-requires-clause-stands
ask-requires-clause-stands g c =
    let ord = g.met.F.Key.Ord in
    let facts = g.met.F.Key.FixedKey in
    let order = key_order g.F.Key.PartialEq.eq g.F.Key.Ord.cmp ord.matches_eq facts.exact ord.total in
    let v = c.args.self.now in
    let x = c.args.relocation.now in
    let e = c.args.entry in
    let so = told-so g.F.Key.Ord.cmp g.F.Mergeable.parts.joined g.F.Functions.code {u = c.args.self.now} refl c.args.slot x.target e.key c.lowest.ensures.value c.higher_of-low.ensures.value c.reach-came.ensures c.liveness_of.ensures c.in-Further.is in
    let begins = c.begin.ensures ∙ ap (λ r. r.log.begin) c.records.ensures in
    rw begins (c.requires.own, tracing g.F.Key.Ord.cmp g.F.Mergeable.parts.joined g.F.Functions.code order v c.facts.ensures.sound c.args.slot (open-here v c.args.slot c.args.context x c.requires.here).inside x.target e c.requires.stands c.requires.is c.args.kept c.requires.entry_stands c.requires.leads c.in-Further.wanted c.in-Further.parts c.requires.begun so c.args.now c.requires.some)

pub returns-in-Superseded-clause-event : goal.returns-in-Superseded-clause-event
returns-in-Superseded-clause-event g c =
    let v = c.args.self.now in
    let x = c.args.relocation.now in
    let e = c.args.entry in
    rw c.finish.ensures (event-done g.R.Receipt.keeps g.F.Key.Ord.cmp v c.args.slot c.args.context c.args.now c.requires.context (keyless-here v c.args.slot c.args.context c.args.relocation.now c.requires.here) x.target (past-place v x.target c.facts.ensures.sound.traced (stands-here v c.args.slot c.args.context x c.requires.here c.facts.ensures.compacting).place).0)

pub returns-in-Superseded-clause-cleared : goal.returns-in-Superseded-clause-cleared
returns-in-Superseded-clause-cleared g c =
    let v = c.args.self.now in
    let x = c.args.relocation.now in
    let e = c.args.entry in
    λ is. rw c.finish.ensures (past-place v x.target c.facts.ensures.sound.traced (stands-here v c.args.slot c.args.context x c.requires.here c.facts.ensures.compacting).place).1

pub returns-in-Last-clause-effect : goal.returns-in-Last-clause-effect
returns-in-Last-clause-effect g c =
    let v = c.args.self.now in
    let x = c.args.relocation.now in
    let e = c.args.entry in
    let so = told-so g.F.Key.Ord.cmp g.F.Mergeable.parts.joined g.F.Functions.code {u = c.args.self.now} refl c.args.slot x.target e.key c.lowest.ensures.value c.higher_of-low.ensures.value c.reach-came.ensures c.liveness_of.ensures c.in-Last.is in
    ChecksLiveness.last c.args.kept c.in-Last.parts (record { some = c.requires.some; own = c.requires.own; leads = c.requires.found; outcome_is = so }) (rw c.renewed-whole.ensures at c.append_again.ensures.effect)

pub returns-in-Further-clause-effect : goal.returns-in-Further-clause-effect
returns-in-Further-clause-effect g c =
    let v = c.args.self.now in
    let x = c.args.relocation.now in
    let e = c.args.entry in
    let so = told-so g.F.Key.Ord.cmp g.F.Mergeable.parts.joined g.F.Functions.code {u = c.args.self.now} refl c.args.slot x.target e.key c.lowest.ensures.value c.higher_of-low.ensures.value c.reach-came.ensures c.liveness_of.ensures c.in-Further.is in
    let begins = c.begin.ensures ∙ ap (λ r. r.log.begin) c.records.ensures in
    ChecksLiveness.further c.args.kept c.in-Further.wanted c.in-Further.parts (record { some = c.requires.some; own = c.requires.own; leads = c.requires.found; outcome_is = so }) (rw begins at c.ask.ensures.effect)

pub overflow_add-target : goal.overflow_add-target
overflow_add-target g c =
    let frozen = (stands-here c.args.self.now c.args.slot c.args.context c.args.relocation.now c.requires.here c.facts.ensures.compacting).frozen in
    let regions = c.facts.ensures.sound.traced.regions.agree in
    let safe = regions.in_order.safe in
    let most = regions.in_order.most in
    omega (arith, frozen, safe, most)

pub returns-in-Superseded-clause-effect : goal.returns-in-Superseded-clause-effect
returns-in-Superseded-clause-effect g c =
    let v = c.args.self.now in
    let x = c.args.relocation.now in
    let e = c.args.entry in
    let so = told-so g.F.Key.Ord.cmp g.F.Mergeable.parts.joined g.F.Functions.code {u = c.args.self.now} refl c.args.slot x.target e.key c.lowest.ensures.value c.higher_of-low.ensures.value c.reach-came.ensures c.liveness_of.ensures c.in-Superseded.is in
    ChecksLiveness.superseded (NeedsNoCopy.newer so) c.finish.ensures refl

pub returns-in-Superseded-clause-moment : goal.returns-in-Superseded-clause-moment
returns-in-Superseded-clause-moment g c = has-come c.finish.ensures refl

pub returns-in-Further-clause-cleared : goal.returns-in-Further-clause-cleared
returns-in-Further-clause-cleared g c = λ is. absurd (c.ask.ensures.uncleared is)

pub returns-in-Last-clause-event : goal.returns-in-Last-clause-event
returns-in-Last-clause-event g c = c.append_again.ensures.event

pub returns-in-Last-clause-cleared : goal.returns-in-Last-clause-cleared
returns-in-Last-clause-cleared g c = c.append_again.ensures.cleared

pub returns-in-Last-clause-unchanged : goal.returns-in-Last-clause-unchanged
returns-in-Last-clause-unchanged g c = c.append_again.ensures.unchanged

pub returns-in-Last-clause-moment : goal.returns-in-Last-clause-moment
returns-in-Last-clause-moment g c = c.append_again.ensures.moment

pub returns-in-Further-clause-event : goal.returns-in-Further-clause-event
returns-in-Further-clause-event g c = c.ask.ensures.event

pub returns-in-Further-clause-unchanged : goal.returns-in-Further-clause-unchanged
returns-in-Further-clause-unchanged g c = c.ask.ensures.unchanged

pub returns-in-Further-clause-moment : goal.returns-in-Further-clause-moment
returns-in-Further-clause-moment g c = c.ask.ensures.moment

pub finish-requires-clause-session : goal.finish-requires-clause-session
finish-requires-clause-session g c = c.requires.session

pub finish-requires-clause-context : goal.finish-requires-clause-context
finish-requires-clause-context g c = c.requires.context

pub append_again-requires-clause-later : goal.append_again-requires-clause-later
append_again-requires-clause-later g c = c.requires.later

pub append_again-requires-clause-session : goal.append_again-requires-clause-session
append_again-requires-clause-session g c = c.requires.session

pub append_again-requires-clause-context : goal.append_again-requires-clause-context
append_again-requires-clause-context g c = c.requires.context

pub append_again-requires-clause-here : goal.append_again-requires-clause-here
append_again-requires-clause-here g c = c.requires.here

pub ask-requires-clause-later : goal.ask-requires-clause-later
ask-requires-clause-later g c = c.requires.later

pub ask-requires-clause-session : goal.ask-requires-clause-session
ask-requires-clause-session g c = c.requires.session

pub ask-requires-clause-context : goal.ask-requires-clause-context
ask-requires-clause-context g c = c.requires.context

pub ask-requires-clause-here : goal.ask-requires-clause-here
ask-requires-clause-here g c = c.requires.here
