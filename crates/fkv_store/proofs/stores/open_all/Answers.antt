use Rattle.std.proofs.Common.{◌<◌, ◌^◌, Err, ⊎_elim, inl, ap}
use Rattle.fkv_partition.specs.Limits.{IsPartitionOf}
use Rattle.fkv_records.specs.Records.{size_of}
use Rattle.fkv_store.proofs.stores.open_all.Goals as goal

pub returns-in-Err-clause-only : goal.returns-in-Err-clause-only
returns-in-Err-clause-only g c =
    let below : c.loop-number.number < 2 ^ c.args.config.now.partition_bits = rw c.requires.count at c.loop-number-test.true in
    let of : IsPartitionOf c.args.config.now (size_of g.F.Key.Fixed.SIZE g.F.Value.Fixed.SIZE) c.loop-number.number =
    record { limits = c.requires.limits; below = below } in
    ⊎_elim (λ bad. absurd (c.in-Err.ensures.bad (ap Err bad) of)) (λ memory. inl (memory, c.loop-number.invariant.steady))
    c.in-Err.ensures.only

pub returns-in-Err-writer-clause-only : goal.returns-in-Err-writer-clause-only
returns-in-Err-writer-clause-only g c = rw c.loop-number.invariant.steady at c.in-Err-writer.ensures.counted
