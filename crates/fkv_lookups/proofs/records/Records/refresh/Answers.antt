use Rattle.fkv_records.specs.Records.{size_of}
use Rattle.fkv_lookups.proofs.TracedLemmas.{traced-moved}
use Rattle.fkv_lookups.proofs.SessionLemmas.{err-same, records-moved}
use Rattle.fkv_lookups.proofs.records.Records.refresh.Goals as goal

pub invariant_of-self : goal.invariant_of-self
invariant_of-self g c =
    let i = c.self.inside in
    let made = c.refresh-moved.ensures in
    traced-moved c.refresh-moved.result _ _ i.partition_bits i.bucket_bits (size_of g.F.Key.Fixed.SIZE g.F.Value.Fixed.SIZE) i.index i.log c.refresh-moved.new.self _ made.effect (err-same _ _ c.refresh-moved.result made.refused) made.raised.closed c.facts.ensures.log c.self.invariant

pub returns-clause-effect : goal.returns-clause-effect
returns-clause-effect g c =
    let i = c.self.inside in
    rw (← c.self.view_is) (records-moved c.refresh-moved.result _ _ g.R.Receipt.keeps i.partition_bits i.bucket_bits (size_of g.F.Key.Fixed.SIZE g.F.Value.Fixed.SIZE) i.index _ i.log c.refresh-moved.new.self c.refresh-moved.ensures.effect)
