-- Where a step is.
use Rattle.std.specs.Prelude.{ℕ}
use Rattle.fkv_lives.specs.declared.steps.Step.{Step}
use Rattle.fkv_lives.specs.declared.steps.Step.TheVariants.{Enter, Leave, Refresh, ReadOnly, Take, Write, Head, Issue, Go, Install, Load, GiveUp, Truncate}

-- the partition of a step
abbrev pub partition_in : {K V I : Type 0} → Step K V I → ℕ
partition_in (Enter p) = p
partition_in (Leave p slot) = p
partition_in (Refresh p slot) = p
partition_in (ReadOnly p page) = p
partition_in (Take p) = p
partition_in (Write p access) = p
partition_in (Head p page) = p
partition_in (Issue p slot op) = p
partition_in (Go w) = w.partition
partition_in (Install w) = w.partition
partition_in (Load w access) = w.partition
partition_in (GiveUp w) = w.partition
partition_in (Truncate p) = p
