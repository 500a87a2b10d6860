use Rattle.fkv_records.specs.Records.{size_of}
use Rattle.fkv_lookups.proofs.TracedLemmas.{traced-same}
use Rattle.fkv_lookups.proofs.SessionLemmas.{entered-text}
use Rattle.fkv_lookups.proofs.records.Records.enter.Goals as goal

pub invariant_of-self : goal.invariant_of-self
invariant_of-self g c =
    let i = c.self.inside in
    let log = c.enter-slot.new.self in
    let t = entered-text c.enter-slot.result i.log log _ c.enter-slot.ensures.effect c.enter-slot.ensures.unchanged in
    traced-same _ _ i.partition_bits i.bucket_bits (size_of g.F.Key.Fixed.SIZE g.F.Value.Fixed.SIZE) i.index i.log log t.text t.from t.tail c.facts.ensures.log c.self.invariant
