use Rattle.std.proofs.Common.{refl, sym, ◌∙◌, ap}
use Rattle.fkv_functions.proofs.KeyOrder.{key_order}
use Rattle.fkv_regions.specs.declared.offsets.Region.TheVariants as region
use Rattle.fkv_operations.specs.After.{key_of}
use Rattle.fkv_partition.specs.Contexts.{claim_by}
use Rattle.fkv_partition.specs.Views.{slots_of, seen_at}
use Rattle.fkv_partition.specs.KeyGoing.{replaces}
use Rattle.fkv_partition.proofs.AskedLemmas.{key_at}
use Rattle.fkv_partition.proofs.EventLemmas.{event-replaces, claims-none, last-is, merging-at}
use Rattle.fkv_partition.proofs.DecidedLemmas.{replaced-at, met-replaceable}
use Rattle.fkv_partition.proofs.partitions.Partition.rewrite.Goals as goal

pub replace-requires-clause-unclaimed : goal.replace-requires-clause-unclaimed
replace-requires-clause-unclaimed g c =
    let d = c.requires.decided in
    claims-none c.args.self.now c.args.slot c.args.context c.args.operation.now d.here (ap claim_by d.fresh)

pub replace-requires-clause-last : goal.replace-requires-clause-last
replace-requires-clause-last g c =
    let ord = g.met.F.Key.Ord in
    let facts = g.met.F.Key.FixedKey in
    let order = key_order g.F.Key.PartialEq.eq g.F.Key.Ord.cmp ord.matches_eq facts.exact ord.total in
    let v = c.args.self.now in
    let x = c.args.operation.now in
    let d = c.requires.decided in
    let inside = (key_at (slots_of v) v.contexts c.args.slot c.args.context x d.here).inside in
    let m = replaced-at g.F.Key.Ord.cmp g.F.Mergeable.parts.joined g.F.Functions.meaning g.F.Functions.code v c.args.slot x.op c.args.value c.args.answer (λ w. c.meetings_tell.ensures.mutable g.R.Receipt.keeps g.F.Key.Ord.cmp g.F.Mergeable.parts.joined g.F.Functions.code v.records (key_of x.op) c.args.slot w order c.facts.ensures.sound.traced c.facts.ensures.sound.resolved inside) d.decided in
    let same = last-is _ c.args.last m.1.entry c.requires.last m.1.last in
    rw same (met-replaceable g.F.Key.Ord.cmp g.F.Mergeable.parts.joined g.F.Functions.code v.records (seen_at v c.args.slot) (key_of x.op) m.0 region.Mutable order m.1)

pub replace-requires-clause-mutable : goal.replace-requires-clause-mutable
replace-requires-clause-mutable g c =
    let ord = g.met.F.Key.Ord in
    let facts = g.met.F.Key.FixedKey in
    let order = key_order g.F.Key.PartialEq.eq g.F.Key.Ord.cmp ord.matches_eq facts.exact ord.total in
    let v = c.args.self.now in
    let x = c.args.operation.now in
    let d = c.requires.decided in
    let inside = (key_at (slots_of v) v.contexts c.args.slot c.args.context x d.here).inside in
    let m = replaced-at g.F.Key.Ord.cmp g.F.Mergeable.parts.joined g.F.Functions.meaning g.F.Functions.code v c.args.slot x.op c.args.value c.args.answer (λ w. c.meetings_tell.ensures.mutable g.R.Receipt.keeps g.F.Key.Ord.cmp g.F.Mergeable.parts.joined g.F.Functions.code v.records (key_of x.op) c.args.slot w order c.facts.ensures.sound.traced c.facts.ensures.sound.resolved inside) d.decided in
    let same = last-is _ c.args.last m.1.entry c.requires.last m.1.last in
    rw same (c.meetings_tell.ensures.unfrozen g.R.Receipt.keeps g.F.Key.Ord.cmp g.F.Mergeable.parts.joined g.F.Functions.code v.records (key_of x.op) c.args.slot m.0 c.facts.ensures.sound.traced c.facts.ensures.sound.resolved inside m.1)

pub returns-clause-effect : goal.returns-clause-effect
returns-clause-effect g c = rw c.replace.ensures (replaces c.args.operation.now c.args.value c.args.answer c.args.last c.requires.decided c.requires.last refl refl)

pub returns-clause-event : goal.returns-clause-event
returns-clause-event g c =
    let ord = g.met.F.Key.Ord in
    let facts = g.met.F.Key.FixedKey in
    let order = key_order g.F.Key.PartialEq.eq g.F.Key.Ord.cmp ord.matches_eq facts.exact ord.total in
    let v = c.args.self.now in
    let x = c.args.operation.now in
    let d = c.requires.decided in
    let inside = (key_at (slots_of v) v.contexts c.args.slot c.args.context x d.here).inside in
    rw c.replace.ensures
    (event-replaces g.F.Key.Ord.cmp g.F.Mergeable.parts.joined g.F.Functions.meaning g.F.Functions.code v c.args.slot c.args.context c.args.now x d.here g.F.Mergeable.parts
    (λ m. g.met.F.Mergeable.merges (merging-at v g.F.Mergeable.MERGES c.args.slot c.args.context x c.facts.ensures.sound (sym c.merges-merges.ensures.functions ∙ c.merges-merges.ensures.value) d.here m))
    c.args.last.address c.args.value c.args.answer
    (c.meetings_tell.ensures.held g.R.Receipt.keeps g.F.Key.Ord.cmp g.F.Mergeable.parts.joined g.F.Functions.code v.records (key_of x.op) c.args.slot order c.facts.ensures.sound.traced c.facts.ensures.sound.resolved inside)
    (c.records_change.ensures.lives g.F.Key.Ord.cmp g.R.Receipt.keeps g.F.Functions.code v.records c.args.value (key_of x.op) c.args.last order c.facts.ensures.sound.traced c.requires.last) d.decided)
