use Rattle.std.proofs.Common.{◌≡◌, ◌≤◌, true, false, inl, arith, refl, ap, subst, ◌∙◌}
use Rattle.std.proofs.Math.Nat.{not-le_of_lt}
use Rattle.fkv_lookups.specs.RecordsViews.{empty_records}
use Rattle.fkv_partition.proofs.KeepLemmas.{compacting-empty}
use Rattle.fkv_partition.proofs.SoundLemmas.{sound-empty}
use Rattle.fkv_partition.proofs.partitions.Partition.new.Goals as goal

false-true : {P : Type 0} → false ≡ true → P
false-true h = absurd (cc)

pub invariant_of-result : goal.invariant_of-result
invariant_of-result g c =
    let shape = c.in-Some.ensures.some in
    let at = c.args.config.now in
    let empty = c.in_ok-records.ensures.ok ∙ ap (λ b. empty_records at.partition_bits at.bucket_bits b c.in-Some.shape.record_size at.frames) shape.0 ∙ ap (λ r. empty_records at.partition_bits at.bucket_bits at.page_bits r at.frames) shape.1 in
    rw (c.partitions-count.ensures.count, empty, c.in_ok-contexts.ensures.ok)
    (record {
      sound = sound-empty g.F.Mergeable.MERGES c.args.config.now _ c.args.number (omega (arith, c.partitions-count.ensures.count, c.if-number-count.false)) (rw empty at c.facts.ensures.traced) (rw empty at c.facts.ensures.resolved)
          (rw empty at c.in_ok-records.ensures.tentative);
      compacting = compacting-empty g.R.Receipt.keeps g.F.Key.Ord.cmp g.F.Mergeable.parts.joined g.F.Functions.code _ refl refl refl refl refl;
    })

pub returns-clause-good : goal.returns-clause-good
returns-clause-good g c = λ _. record {
  limits = c.in-Some.ensures.range.0 refl;
  below = omega (arith, c.partitions-count.ensures.count, c.if-number-count.false);
}

pub returns-in_default-clause-good : goal.returns-in_default-clause-good
returns-in_default-clause-good g c = λ h. absurd (h refl)

pub returns-in_default-clause-bad : goal.returns-in_default-clause-bad
returns-in_default-clause-bad g c = λ bad p. false-true (c.in_default.ensures.range.1 p.limits)

pub returns-in_default-clause-only : goal.returns-in_default-clause-only
returns-in_default-clause-only g c = inl refl

pub returns-then-number-count-clause-good : goal.returns-then-number-count-clause-good
returns-then-number-count-clause-good g c = λ h. absurd (h refl)

pub returns-then-number-count-clause-bad : goal.returns-then-number-count-clause-bad
returns-then-number-count-clause-bad g c = λ bad p. not-le_of_lt p.below (subst (λ n. n ≤ c.args.number) c.partitions-count.ensures.count c.if-number-count.true)

pub returns-then-number-count-clause-only : goal.returns-then-number-count-clause-only
returns-then-number-count-clause-only g c = inl refl

pub new-requires-clause-partition : goal.new-requires-clause-partition
new-requires-clause-partition g c = (c.in-Some.ensures.range.0 refl).partition_bits

pub new-requires-clause-bucket : goal.new-requires-clause-bucket
new-requires-clause-bucket g c = (c.in-Some.ensures.range.0 refl).bucket_bits

pub new-requires-clause-size : goal.new-requires-clause-size
new-requires-clause-size g c = c.in-Some.ensures.some.1
