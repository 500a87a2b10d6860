use Rattle.std.proofs.Common.{◌≢◌, inl, option_map, refl, sym, ap, subst, ◌∙◌}
use Rattle.std.specs.Prelude.{IfSome}
use Rattle.fkv_functions.proofs.KeyOrder.{key_order}
use Rattle.fkv_index.specs.Words.{address_of}
use Rattle.fkv_operations.specs.declared.entries.IndexEntry.{IndexEntry}
use Rattle.fkv_lookups.specs.RecordsViews.{class_in, IsEntryOf}
use Rattle.fkv_partition.specs.Views.{partition_of}
use Rattle.fkv_partition.specs.Checking.{NeedsNoCopy, ChecksLiveness}
use Rattle.fkv_partition.proofs.ApartLemmas.{none-by, some-by, has-come}
use Rattle.fkv_partition.proofs.MoveLemmas.{event-done, past-place, open-here, stands-here, low-here, keyless-here}
use Rattle.fkv_partition.proofs.CheckingLemmas.{superseded-one, superseded-foreign, superseded-nowhere}
use Rattle.fkv_partition.proofs.partitions.Partition.check_liveness.Goals as goal

pub finish-requires-clause-issued : goal.finish-requires-clause-issued
finish-requires-clause-issued g c =
    let v = c.args.self.now in
    let x = c.args.relocation.now in
    (stands-here v c.args.slot c.args.context x c.requires.here c.facts.ensures.compacting).issued

pub finish-requires-clause-place : goal.finish-requires-clause-place
finish-requires-clause-place g c =
    let v = c.args.self.now in
    let x = c.args.relocation.now in
    (stands-here v c.args.slot c.args.context x c.requires.here c.facts.ensures.compacting).place

pub finish-requires-clause-low : goal.finish-requires-clause-low
finish-requires-clause-low g c =
    let v = c.args.self.now in
    let x = c.args.relocation.now in
    low-here v c.args.slot c.args.context x c.requires.here c.facts.ensures.compacting c.facts.ensures.sound.traced

pub returns-then-is_none-clause-event : goal.returns-then-is_none-clause-event
returns-then-is_none-clause-event g c =
    let v = c.args.self.now in
    let x = c.args.relocation.now in
    rw c.finish.ensures (event-done g.R.Receipt.keeps g.F.Key.Ord.cmp v c.args.slot c.args.context c.args.now c.requires.context (keyless-here v c.args.slot c.args.context c.args.relocation.now c.requires.here) x.target (past-place v x.target c.facts.ensures.sound.traced (stands-here v c.args.slot c.args.context x c.requires.here c.facts.ensures.compacting).place).0)

pub returns-then-is_none-clause-cleared : goal.returns-then-is_none-clause-cleared
returns-then-is_none-clause-cleared g c =
    let v = c.args.self.now in
    let x = c.args.relocation.now in
    λ is. rw c.finish.ensures (past-place v x.target c.facts.ensures.sound.traced (stands-here v c.args.slot c.args.context x c.requires.here c.facts.ensures.compacting).place).1

pub finish-requires-then-home-number-clause-issued : goal.finish-requires-then-home-number-clause-issued
finish-requires-then-home-number-clause-issued g c =
    let v = c.args.self.now in
    let x = c.args.relocation.now in
    (stands-here v c.args.slot c.args.context x c.requires.here c.facts.ensures.compacting).issued

pub finish-requires-then-home-number-clause-place : goal.finish-requires-then-home-number-clause-place
finish-requires-then-home-number-clause-place g c =
    let v = c.args.self.now in
    let x = c.args.relocation.now in
    (stands-here v c.args.slot c.args.context x c.requires.here c.facts.ensures.compacting).place

pub finish-requires-then-home-number-clause-low : goal.finish-requires-then-home-number-clause-low
finish-requires-then-home-number-clause-low g c =
    let v = c.args.self.now in
    let x = c.args.relocation.now in
    low-here v c.args.slot c.args.context x c.requires.here c.facts.ensures.compacting c.facts.ensures.sound.traced

pub finish-requires-then-home-number-clause-superseded : goal.finish-requires-then-home-number-clause-superseded
finish-requires-then-home-number-clause-superseded g c =
    let ord = g.met.F.Key.Ord in
    let facts = g.met.F.Key.FixedKey in
    let order = key_order g.F.Key.PartialEq.eq g.F.Key.Ord.cmp ord.matches_eq facts.exact ord.total in
    let v = c.args.self.now in
    let x = c.args.relocation.now in
    let e = c.args.entry in
    let other : partition_of c.args.self.now.count (g.F.Functions.code c.args.entry.key) ≢ c.args.self.now.number = λ q. c.if-home-number.true (c.home-home.ensures ∙ q ∙ sym c.number.ensures) in
    superseded-one g.F.Key.Ord.cmp v.records.log.text x.target e c.requires.is (superseded-foreign g.F.Key.Ord.cmp g.F.Mergeable.parts.joined g.F.Functions.code order v c.facts.ensures.sound c.args.slot (open-here v c.args.slot c.args.context x c.requires.here).inside x.target e c.requires.stands c.requires.is other)

pub returns-then-home-number-clause-event : goal.returns-then-home-number-clause-event
returns-then-home-number-clause-event g c =
    let v = c.args.self.now in
    let x = c.args.relocation.now in
    rw c.finish-then-home-number.ensures (event-done g.R.Receipt.keeps g.F.Key.Ord.cmp v c.args.slot c.args.context c.args.now c.requires.context (keyless-here v c.args.slot c.args.context c.args.relocation.now c.requires.here) x.target (past-place v x.target c.facts.ensures.sound.traced (stands-here v c.args.slot c.args.context x c.requires.here c.facts.ensures.compacting).place).0)

pub returns-then-home-number-clause-cleared : goal.returns-then-home-number-clause-cleared
returns-then-home-number-clause-cleared g c =
    let v = c.args.self.now in
    let x = c.args.relocation.now in
    λ is. rw c.finish-then-home-number.ensures (past-place v x.target c.facts.ensures.sound.traced (stands-here v c.args.slot c.args.context x c.requires.here c.facts.ensures.compacting).place).1

pub finish-requires-in-None-clause-issued : goal.finish-requires-in-None-clause-issued
finish-requires-in-None-clause-issued g c =
    let v = c.args.self.now in
    let x = c.args.relocation.now in
    (stands-here v c.args.slot c.args.context x c.requires.here c.facts.ensures.compacting).issued

pub finish-requires-in-None-clause-place : goal.finish-requires-in-None-clause-place
finish-requires-in-None-clause-place g c =
    let v = c.args.self.now in
    let x = c.args.relocation.now in
    (stands-here v c.args.slot c.args.context x c.requires.here c.facts.ensures.compacting).place

pub finish-requires-in-None-clause-low : goal.finish-requires-in-None-clause-low
finish-requires-in-None-clause-low g c =
    let v = c.args.self.now in
    let x = c.args.relocation.now in
    low-here v c.args.slot c.args.context x c.requires.here c.facts.ensures.compacting c.facts.ensures.sound.traced

pub finish-requires-in-None-clause-superseded : goal.finish-requires-in-None-clause-superseded
finish-requires-in-None-clause-superseded g c =
    let ord = g.met.F.Key.Ord in
    let facts = g.met.F.Key.FixedKey in
    let order = key_order g.F.Key.PartialEq.eq g.F.Key.Ord.cmp ord.matches_eq facts.exact ord.total in
    let v = c.args.self.now in
    let x = c.args.relocation.now in
    let e = c.args.entry in
    let none = (sym c.find-found.ensures.address ∙ ap (option_map (λ (q : IndexEntry). address_of q.word)) c.in-None.is) in
    superseded-one g.F.Key.Ord.cmp v.records.log.text x.target e c.requires.is (superseded-nowhere g.F.Key.Ord.cmp g.F.Mergeable.parts.joined g.F.Functions.code order v c.facts.ensures.sound c.args.slot (open-here v c.args.slot c.args.context x c.requires.here).inside x.target e c.requires.stands c.requires.is none)

pub returns-in-None-clause-event : goal.returns-in-None-clause-event
returns-in-None-clause-event g c =
    let v = c.args.self.now in
    let x = c.args.relocation.now in
    rw c.finish-in-None.ensures (event-done g.R.Receipt.keeps g.F.Key.Ord.cmp v c.args.slot c.args.context c.args.now c.requires.context (keyless-here v c.args.slot c.args.context c.args.relocation.now c.requires.here) x.target (past-place v x.target c.facts.ensures.sound.traced (stands-here v c.args.slot c.args.context x c.requires.here c.facts.ensures.compacting).place).0)

pub returns-in-None-clause-cleared : goal.returns-in-None-clause-cleared
returns-in-None-clause-cleared g c =
    let v = c.args.self.now in
    let x = c.args.relocation.now in
    λ is. rw c.finish-in-None.ensures (past-place v x.target c.facts.ensures.sound.traced (stands-here v c.args.slot c.args.context x c.requires.here c.facts.ensures.compacting).place).1

pub finish-requires-clause-superseded : goal.finish-requires-clause-superseded
finish-requires-clause-superseded g c =
    superseded-one g.F.Key.Ord.cmp c.args.self.now.records.log.text c.args.relocation.now.target c.args.entry c.requires.is (λ _. inl (none-by c.args.entry.value c.is_none.ensures c.if-is_none.true))

pub returns-then-is_none-clause-effect : goal.returns-then-is_none-clause-effect
returns-then-is_none-clause-effect g c = ChecksLiveness.superseded (NeedsNoCopy.tombstone (none-by c.args.entry.value c.is_none.ensures c.if-is_none.true)) c.finish.ensures refl

pub returns-then-is_none-clause-moment : goal.returns-then-is_none-clause-moment
returns-then-is_none-clause-moment g c = has-come c.finish.ensures refl

pub returns-then-home-number-clause-effect : goal.returns-then-home-number-clause-effect
returns-then-home-number-clause-effect g c =
    let other : partition_of c.args.self.now.count (g.F.Functions.code c.args.entry.key) ≢ c.args.self.now.number = λ q. c.if-home-number.true (c.home-home.ensures ∙ q ∙ sym c.number.ensures) in
    ChecksLiveness.superseded (NeedsNoCopy.foreign other) c.finish-then-home-number.ensures refl

pub returns-then-home-number-clause-moment : goal.returns-then-home-number-clause-moment
returns-then-home-number-clause-moment g c = has-come c.finish-then-home-number.ensures refl

pub returns-in-None-clause-effect : goal.returns-in-None-clause-effect
returns-in-None-clause-effect g c =
    let none = (sym c.find-found.ensures.entry ∙ c.in-None.is) in
    ChecksLiveness.superseded (NeedsNoCopy.nowhere none) c.finish-in-None.ensures refl

pub returns-in-None-clause-moment : goal.returns-in-None-clause-moment
returns-in-None-clause-moment g c = has-come c.finish-in-None.ensures refl

pub follow-requires-clause-some : goal.follow-requires-clause-some
follow-requires-clause-some g c = some-by c.args.entry.value c.is_none.ensures c.if-is_none.false

pub follow-requires-clause-own : goal.follow-requires-clause-own
follow-requires-clause-own g c =
    (sym c.home-home.ensures ∙ c.if-home-number.false ∙ c.number.ensures)

pub follow-requires-clause-found : goal.follow-requires-clause-found
follow-requires-clause-found g c =
    (sym c.find-found.ensures.entry ∙ c.in-Some.is)

pub follow-requires-clause-leads : goal.follow-requires-clause-leads
follow-requires-clause-leads g c =
    (sym c.find-found.ensures.address ∙ ap (option_map (λ (q : IndexEntry). address_of q.word)) c.in-Some.is)

pub follow-requires-clause-entry_stands : goal.follow-requires-clause-entry_stands
follow-requires-clause-entry_stands g c =
    let held = subst (λ o. IfSome o (λ q. IsEntryOf c.args.self.now.records (class_in g.F.Functions.code c.args.self.now.records c.args.entry.key) q)) c.in-Some.is c.find-found.ensures.stands in
    held

pub returns-in-Some-clause-effect : goal.returns-in-Some-clause-effect
returns-in-Some-clause-effect g c = c.follow.ensures.effect

pub returns-in-Some-clause-event : goal.returns-in-Some-clause-event
returns-in-Some-clause-event g c = c.follow.ensures.event

pub returns-in-Some-clause-cleared : goal.returns-in-Some-clause-cleared
returns-in-Some-clause-cleared g c = c.follow.ensures.cleared

pub returns-in-Some-clause-unchanged : goal.returns-in-Some-clause-unchanged
returns-in-Some-clause-unchanged g c = c.follow.ensures.unchanged

pub returns-in-Some-clause-moment : goal.returns-in-Some-clause-moment
returns-in-Some-clause-moment g c = c.follow.ensures.moment
