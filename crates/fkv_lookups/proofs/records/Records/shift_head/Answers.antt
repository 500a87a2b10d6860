use Rattle.fkv_records.specs.Records.{size_of}
use Rattle.fkv_lookups.proofs.TracedLemmas.{traced-moved}
use Rattle.fkv_lookups.proofs.SessionLemmas.{records-moved, records-same}
use Rattle.fkv_lookups.proofs.records.Records.shift_head.Goals as goal

pub invariant_of-self : goal.invariant_of-self
invariant_of-self g c =
    let i = c.self.inside in
    let made = c.shift_head-moved.ensures in
    traced-moved c.shift_head-moved.result _ _ i.partition_bits i.bucket_bits (size_of g.F.Key.Fixed.SIZE g.F.Value.Fixed.SIZE) i.index i.log c.shift_head-moved.new.self _ made.effect made.unchanged made.raised.closed c.facts.ensures.log c.self.invariant

pub returns-clause-effect : goal.returns-clause-effect
returns-clause-effect g c =
    let i = c.self.inside in
    rw (← c.self.view_is) (records-moved c.shift_head-moved.result _ _ g.R.Receipt.keeps i.partition_bits i.bucket_bits (size_of g.F.Key.Fixed.SIZE g.F.Value.Fixed.SIZE) i.index _ i.log c.shift_head-moved.new.self c.shift_head-moved.ensures.effect)

pub returns-clause-unchanged : goal.returns-clause-unchanged
returns-clause-unchanged g c =
    let i = c.self.inside in
    rw (← c.self.view_is) (records-same c.shift_head-moved.result _ _ i.partition_bits i.bucket_bits (size_of g.F.Key.Fixed.SIZE g.F.Value.Fixed.SIZE) i.index i.log c.shift_head-moved.new.self c.shift_head-moved.ensures.unchanged)
