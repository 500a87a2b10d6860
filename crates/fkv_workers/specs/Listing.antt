-- Runs of partitions, and why there are none.
use Rattle.std.specs.Prelude.{◌≡◌, ◌≢◌, ◌++◌, ◌∷◌, ℕ, Bool, IsTrue, List, length, map, slice_get, Some, Result, Ok, Err}
use Rattle.std.specs.BTreeMap.{is_at}
use Rattle.std.specs.List.{AllByRecursion}
use Rattle.std.specs.List.Sorted.{IsStrictlySortedBy}
use Rattle.std.specs.Map.{lookup, keys_of}
use Rattle.fkv_functions.specs.Names.{name_cmp}
use Rattle.fkv_functions.specs.declared.names.Name.{Name}
use Rattle.fkv_functions.specs.declared.refusals.Refused.{Refused}
use Rattle.fkv_functions.specs.declared.refusals.Refused.TheVariants.{NoMemory}
use Rattle.fkv_device.specs.Standing.{Standing}
use Rattle.fkv_records.specs.Places.{page_at}
use Rattle.fkv_hybrid.specs.Scans.{IsScanRefusal, MayFail}
use Rattle.fkv_partition.specs.Views.{live_of, partition_of, PartitionView}

-- the run of a partition: its keys rise, and each is one of the partition's; on a device that keeps, each key of the partition has in
-- it what it has there
pub record IsRunOf {V I : Type 0} (keeps : Bool) (code : Name → ℕ) (view : PartitionView Name V I) (run : List (Name × V)) : Type 0 where
  pub rising : IsStrictlySortedBy name_cmp (keys_of run)
  pub homed : AllByRecursion (λ k. partition_of view.count (code k) ≡ view.number) (keys_of run)
  pub has : IsTrue keeps → (k : Name) → partition_of view.count (code k) ≡ view.number
      → lookup (is_at (name_cmp k)) run ≡ live_of name_cmp view k

-- why a partition has no run: memory is refused, or a flushed page of it is not read, by the failures of its reader before and after;
-- on a device that keeps, only where such a page may fail
pub record IsRunless {R P V I : Type 0} (keeps : Bool) (stands : R → Standing) (can_fail : R → ℕ → Type 0) (reads : P → ℕ)
    (view : PartitionView Name V I) (reader : P) (why : Refused) : Type 0 where
  pub now : P
  pub scan : IsScanRefusal keeps (page_at view.records.log.bits view.records.log.begin) (length view.records.log.receipts)
      (reads reader) (reads now) why
  pub caused : IsTrue keeps → why ≢ NoMemory → (page : ℕ)
      × MayFail stands can_fail view.records.log.receipts view.records.log.bits page

-- one of these is refused, as each of them may be
abbrev pub IsOfOne : {X : Type 0} → (X → Refused → Type 0) → List X → Refused → Type 0
IsOfOne {X} refuses parts why = (place : ℕ) × (part : X) × (slice_get parts place ≡ Some part) × refuses part why

-- what was refused first: all results before it are there
pub record IsFirstRefusal {A : Type 0} (results : List (Result A Refused)) (why : Refused) : Type 0 where
  pub before : List A
  pub after : List (Result A Refused)
  pub is : results ≡ map Ok before ++ Err why ∷ after
