-- The live map of several partitions, the union of theirs.
use Rattle.std.specs.Prelude.{ℕ, List, Option, Some, None, slice_get, length}
use Rattle.std.specs.declared.cmp.Ordering.{Ordering}
use Rattle.fkv_functions.specs.Plain.{PlainMap}
use Rattle.fkv_partition.specs.Views.{live_of, partition_of, PartitionView}

-- the live map of the partition at a place; empty where there is none
abbrev pub live_at : {K V I : Type 0} → (K → K → Ordering) → Option (PartitionView K V I) → PlainMap K V
live_at cmp None = λ k. None
live_at cmp (Some v) = live_of cmp v

-- each key's value in the partition that its hash names
abbrev pub union_of : {K V I : Type 0} → (K → K → Ordering) → (K → ℕ) → List (PartitionView K V I) → PlainMap K V
union_of cmp code views k = live_at cmp (slice_get views (partition_of (length views) (code k))) k
