use Rattle.fkv_records.specs.Records.{size_of}
use Rattle.fkv_lookups.proofs.TracedLemmas.{traced-empty}
use Rattle.fkv_lookups.proofs.records.Records.new.Goals as goal

pub invariant_of-result : goal.invariant_of-result
invariant_of-result g c =
    let made = c.in_ok-index.ensures in
    rw made.made
    (traced-empty _ _ c.args.partition_bits c.args.bucket_bits (size_of g.F.Key.Fixed.SIZE g.F.Value.Fixed.SIZE) c.args.shape.page_bits c.args.frames c.in_ok-log.log c.requires.partition c.requires.bucket c.in_ok-log.ensures.ok c.facts.ensures.log
    (rw made.made at made.map) (rw made.made at made.entries))
