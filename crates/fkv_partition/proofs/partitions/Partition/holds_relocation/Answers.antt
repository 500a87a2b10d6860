use Rattle.std.proofs.Common.{◌≡◌, Bool, Option, Some, None, is_some, refl}
use Rattle.std.specs.Bool.{OnTrue}
use Rattle.fkv_partition.proofs.partitions.Partition.holds_relocation.Goals as goal

held-some : {A : Type 0} (o : Option A) {b : Bool} → b ≡ is_some o → OnTrue b ((x : A) × (o ≡ Some x))
held-some None is = rw is tt
held-some (Some x) is = rw is (x, refl)

pub returns-clause-some : goal.returns-clause-some
returns-clause-some g c = (held-some _ c.is_relocating.ensures)
