use Rattle.std.proofs.Common.{◌≡◌, ◌%◌, ◌-◌, ℕ, bit_and, sym, subst}
use Rattle.std.proofs.lemmas.Nat.{and_mask}
use Rattle.fkv_operations.proofs.classes.partition_at.Goals as goal

pub returns : goal.returns
returns c = subst (λ (n : ℕ). bit_and c.args.hash (n - 1) ≡ c.args.hash % n) (sym c.requires.1) (and_mask c.args.hash c.requires.0)
