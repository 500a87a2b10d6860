use Rattle.std.proofs.Common.{refl, sym, ◌∙◌}
use Rattle.fkv_functions.proofs.KeyOrder.{key_order}
use Rattle.fkv_operations.specs.After.{key_of}
use Rattle.fkv_lookups.specs.Decisions.{low_of}
use Rattle.fkv_partition.specs.Views.{slots_of, seen_at}
use Rattle.fkv_partition.proofs.AskedLemmas.{free-here}
use Rattle.fkv_partition.proofs.DecidedLemmas.{seen-begun, first-met}
use Rattle.fkv_partition.proofs.KeyAtOnceLemmas.{at_once-some, at_once-high, at_once-last, done-at_once, unwritten}
use Rattle.fkv_partition.proofs.partitions.Partition.write_at.Goals as goal

pub revalue-requires-clause-last : goal.revalue-requires-clause-last
revalue-requires-clause-last g c =
    let ord = g.met.F.Key.Ord in
    let facts = g.met.F.Key.FixedKey in
    let order = key_order g.F.Key.PartialEq.eq g.F.Key.Ord.cmp ord.matches_eq facts.exact ord.total in
    let v = c.args.self.now in
    let k = key_of c.args.op.now in
    let s = c.facts.ensures.sound in
    let up = seen-begun v c.args.slot s.traced c.requires.entered in
    let m = c.meetings_tell.ensures.mutable g.R.Receipt.keeps g.F.Key.Ord.cmp g.F.Mergeable.parts.joined g.F.Functions.code v.records k c.args.slot c.args.held order s.traced s.resolved c.requires.entered c.requires.met in
    let same = first-met g.F.Key.Ord.cmp g.F.Mergeable.parts.joined g.F.Functions.code v c.args.slot k (λ a entry. c.lookups_tell.ensures.first g.R.Receipt.keeps g.F.Key.Ord.cmp g.F.Mergeable.parts.joined g.F.Functions.code v.records k (low_of v.records.log.begin (seen_at v c.args.slot)) a order s.traced s.resolved entry up) c.args.held m c.args.last c.requires.first in
    at_once-some g.F.Key.Ord.cmp g.F.Mergeable.parts.joined g.F.Functions.meaning g.F.Functions.code v c.args.slot k c.args.held c.args.last m same order

pub revalue-requires-clause-mutable : goal.revalue-requires-clause-mutable
revalue-requires-clause-mutable g c =
    let ord = g.met.F.Key.Ord in
    let facts = g.met.F.Key.FixedKey in
    let order = key_order g.F.Key.PartialEq.eq g.F.Key.Ord.cmp ord.matches_eq facts.exact ord.total in
    let v = c.args.self.now in
    let k = key_of c.args.op.now in
    let s = c.facts.ensures.sound in
    let up = seen-begun v c.args.slot s.traced c.requires.entered in
    let m = c.meetings_tell.ensures.mutable g.R.Receipt.keeps g.F.Key.Ord.cmp g.F.Mergeable.parts.joined g.F.Functions.code v.records k c.args.slot c.args.held order s.traced s.resolved c.requires.entered c.requires.met in
    let same = first-met g.F.Key.Ord.cmp g.F.Mergeable.parts.joined g.F.Functions.code v c.args.slot k (λ a entry. c.lookups_tell.ensures.first g.R.Receipt.keeps g.F.Key.Ord.cmp g.F.Mergeable.parts.joined g.F.Functions.code v.records k (low_of v.records.log.begin (seen_at v c.args.slot)) a order s.traced s.resolved entry up) c.args.held m c.args.last c.requires.first in
    at_once-high g.F.Key.Ord.cmp g.F.Mergeable.parts.joined g.F.Functions.meaning g.F.Functions.code v c.args.slot k c.args.held c.args.last m same
    (c.meetings_tell.ensures.unfrozen g.R.Receipt.keeps g.F.Key.Ord.cmp g.F.Mergeable.parts.joined g.F.Functions.code v.records k c.args.slot c.args.held s.traced s.resolved c.requires.entered m)

pub returns-clause-done : goal.returns-clause-done
returns-clause-done g c =
    let ord = g.met.F.Key.Ord in
    let facts = g.met.F.Key.FixedKey in
    let order = key_order g.F.Key.PartialEq.eq g.F.Key.Ord.cmp ord.matches_eq facts.exact ord.total in
    let v = c.args.self.now in
    let k = key_of c.args.op.now in
    let s = c.facts.ensures.sound in
    let up = seen-begun v c.args.slot s.traced c.requires.entered in
    let m = c.meetings_tell.ensures.mutable g.R.Receipt.keeps g.F.Key.Ord.cmp g.F.Mergeable.parts.joined g.F.Functions.code v.records k c.args.slot c.args.held order s.traced s.resolved c.requires.entered c.requires.met in
    let same = first-met g.F.Key.Ord.cmp g.F.Mergeable.parts.joined g.F.Functions.code v c.args.slot k (λ a entry. c.lookups_tell.ensures.first g.R.Receipt.keeps g.F.Key.Ord.cmp g.F.Mergeable.parts.joined g.F.Functions.code v.records k (low_of v.records.log.begin (seen_at v c.args.slot)) a order s.traced s.resolved entry up) c.args.held m c.args.last c.requires.first in
    let last = at_once-last g.F.Key.Ord.cmp g.F.Mergeable.parts.joined g.F.Functions.meaning g.F.Functions.code v c.args.slot k c.args.held c.args.last m same in
    let value = c.in-Some.value in
    let writes = c.in-Some.ensures.some in
    rw c.revalue.ensures
    (done-at_once g.F.Key.Ord.cmp g.F.Mergeable.parts.joined g.F.Functions.meaning g.F.Functions.code v c.args.slot c.args.op.now c.args.held c.args.last m same c.args._context c.args._issued c.args.now
    c.requires.entered c.requires.own c.requires.free
    (free-here (slots_of v) v.contexts c.args.slot c.args._context s.places c.requires.session c.requires.low c.requires.entered c.requires.free)
    c.requires.low c.requires.met
    (c.meetings_tell.ensures.held g.R.Receipt.keeps g.F.Key.Ord.cmp g.F.Mergeable.parts.joined g.F.Functions.code v.records k c.args.slot order s.traced s.resolved c.requires.entered)
    c.requires.merging g.F.Mergeable.parts (λ h. g.met.F.Mergeable.merges (sym c.merges-merges.ensures.functions ∙ c.merges-merges.ensures.value ∙ c.requires.merging h))
    value c.in-Some.answer writes
    (c.records_change.ensures.lives g.F.Key.Ord.cmp g.R.Receipt.keeps g.F.Functions.code v.records value k c.args.last order s.traced last) g.R.Receipt.stands)

pub returns-in_default-clause-left : goal.returns-in_default-clause-left
returns-in_default-clause-left g c = λ _. unwritten g.F.Key.Ord.cmp g.F.Mergeable.parts.joined g.F.Functions.meaning g.F.Functions.code c.args.self.now c.args.slot c.args.op.now c.args.held c.requires.met (c.in_default.ensures.none refl)
