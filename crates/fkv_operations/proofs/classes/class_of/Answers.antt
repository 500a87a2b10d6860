use Rattle.std.proofs.Common.{◌≡◌, ◌*◌, ◌/◌, ◌%◌, ◌-◌, ◌^◌, ap, ◌∙◌, arith, bit_and}
use Rattle.std.proofs.lemmas.Nat.{and_mask, one_shl}
use Rattle.fkv_operations.proofs.classes.class_of.Goals as goal

pub returns-clause-value : goal.returns-clause-value
returns-clause-value c =
    let above = c.args.hash / 2 ^ c.args.partition_bits in
    let buckets : 1 * 2 ^ c.args.bucket_bits % 2 ^ 64 ≡ 2 ^ c.args.bucket_bits = one_shl c.args.bucket_bits 64 (omega arith) in
    ap (λ b. record { bucket = b; tag = c.args.hash / 2 ^ 49 }) (ap (λ n. bit_and above (n - 1)) buckets ∙ and_mask above c.args.bucket_bits)
