-- The moment of a step in a partition of a world, or why there is none.
use Rattle.std.specs.Prelude.{◌≡◌, ◌<◌, ◌≤◌, ◌+◌, ◌-◌, ◌^◌, ℕ, length}
use Rattle.fkv_functions.specs.declared.refusals.Refused.{Refused}
use Rattle.fkv_functions.specs.declared.refusals.Refused.TheVariants.{Unknown, Worn}
use Rattle.fkv_worlds.specs.States.{StateView}

-- there is such a partition, and this is the next moment
pub record IsMomentIn {K V I O R : Type 0} (s : StateView K V I O R) (p now : ℕ) : Type 0 where
  pub there : p < length s.partitions
  pub next : now ≡ s.moment + 1
  pub fits : now < 2 ^ 64

-- there is no such partition, or no moment is left
pub data IsUntimely {K V I O R : Type 0} (s : StateView K V I O R) (p : ℕ) (refused : Refused) : Type 0 where
  no_partition : length s.partitions ≤ p → refused ≡ Unknown → IsUntimely s p refused
  worn : p < length s.partitions → s.moment ≡ 2 ^ 64 - 1 → refused ≡ Worn → IsUntimely s p refused
