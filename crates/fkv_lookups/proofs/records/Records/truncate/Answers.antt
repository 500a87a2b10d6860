use Rattle.std.proofs.Common.{◌≡◌, ◌∙◌, refl, ap, subst, arith}
use Rattle.fkv_records.specs.Places.{start_at}
use Rattle.fkv_records.specs.Records.{size_of}
use Rattle.fkv_index.specs.Changes.{SweepsEntries}
use Rattle.fkv_lookups.proofs.TruncationLemmas.{traced-truncated}
use Rattle.fkv_lookups.proofs.records.Records.truncate.Goals as goal

pub invariant_of-self-2 : goal.invariant_of-self-2
invariant_of-self-2 g c =
    let i = c.self.inside in
    let made = c.in-Ok.ensures in
    let due = made.ok.0 refl in
    let at : c.begin-begin.result ≡ start_at i.log.bits c.args.page = c.begin-begin.ensures ∙ ap (λ (l : _). l.begin) made.effect in
    let swept = subst (λ n. SweepsEntries n i.index c.sweep.new.self) at c.sweep.ensures.entries in
    traced-truncated _ _ i.partition_bits i.bucket_bits (size_of g.F.Key.Fixed.SIZE g.F.Value.Fixed.SIZE) (start_at i.log.bits c.args.page) i.index c.sweep.new.self i.log c.truncate.new.self made.effect (let up = due.higher in omega arith) c.facts.ensures.log swept c.sweep.ensures.words.buckets c.sweep.ensures.map c.self.invariant
