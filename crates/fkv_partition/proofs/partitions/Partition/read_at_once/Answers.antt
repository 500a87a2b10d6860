use Rattle.std.proofs.Common.{◌≡◌, sym, ap, subst, ◌∙◌}
use Rattle.fkv_functions.proofs.KeyOrder.{key_order}
use Rattle.fkv_operations.specs.After.{shown_of}
use Rattle.fkv_lookups.specs.Decisions.{low_of}
use Rattle.fkv_partition.specs.Views.{seen_at}
use Rattle.fkv_partition.proofs.DecidedLemmas.{seen-begun, whole-first}
use Rattle.fkv_partition.proofs.KeyReadLemmas.{met-read, whole-read}
use Rattle.fkv_partition.proofs.partitions.Partition.read_at_once.Goals as goal

pub returns-in-Some-clause-done : goal.returns-in-Some-clause-done
returns-in-Some-clause-done g c =
    let ord = g.met.F.Key.Ord in
    let facts = g.met.F.Key.FixedKey in
    let order = key_order g.F.Key.PartialEq.eq g.F.Key.Ord.cmp ord.matches_eq facts.exact ord.total in
    let v = c.args.self.now in
    let k = c.args.key.now in
    let s = c.facts.ensures.sound in
    let up = seen-begun v c.args.slot s.traced c.requires.entered in
    let own = sym c.home.ensures ∙ c.if-home-self.false ∙ ap (λ u. u.number) c.self.view_is in
    let holds = c.meetings_tell.ensures.held g.R.Receipt.keeps g.F.Key.Ord.cmp g.F.Mergeable.parts.joined g.F.Functions.code v.records k c.args.slot order s.traced s.resolved c.requires.entered in
    let last = c.in-Some.ensures in
    let met = whole-first g.F.Key.Ord.cmp g.F.Mergeable.parts.joined g.F.Functions.code v c.args.slot k (λ a entry. c.lookups_tell.ensures.first g.R.Receipt.keeps g.F.Key.Ord.cmp g.F.Mergeable.parts.joined g.F.Functions.code v.records k (low_of v.records.log.begin (seen_at v c.args.slot)) a order s.traced s.resolved entry up) last.0 (sym c.newest_in_memory-first.ensures ∙ last.1) last.2 in
    whole-read g.F.Key.Ord.cmp g.F.Mergeable.parts.joined g.F.Functions.meaning g.F.Functions.code v c.args.slot k c.args.input.now own holds (seen_at v c.args.slot) last.0.address last.0.value c.shown.result met
    (subst (λ o. c.shown.result ≡ shown_of g.F.Functions.meaning k c.args.input.now o) (sym last.3) c.shown.ensures)

pub returns : goal.returns
returns g c =
    let ord = g.met.F.Key.Ord in
    let facts = g.met.F.Key.FixedKey in
    let order = key_order g.F.Key.PartialEq.eq g.F.Key.Ord.cmp ord.matches_eq facts.exact ord.total in
    let v = c.args.self.now in
    let k = c.args.key.now in
    let s = c.facts.ensures.sound in
    let own = sym c.home.ensures ∙ c.if-home-self.false ∙ ap (λ u. u.number) c.self.view_is in
    let holds = c.meetings_tell.ensures.held g.R.Receipt.keeps g.F.Key.Ord.cmp g.F.Mergeable.parts.joined g.F.Functions.code v.records k c.args.slot order s.traced s.resolved c.requires.entered in
    record {
      done = met-read g.F.Key.Ord.cmp g.F.Mergeable.parts.joined g.F.Functions.meaning g.F.Functions.code v c.args.slot k c.args.input.now own holds c.met-met.result c.shown-2.result c.met-met.ensures c.in_default-met.not-OnDisk
          (subst (λ o. c.shown-2.result ≡ shown_of g.F.Functions.meaning k c.args.input.now o) c.held.ensures c.shown-2.ensures);
      left = λ none. absurd (cc);
    }
