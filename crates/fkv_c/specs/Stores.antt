-- The stores behind handles: of what settings one is made, why it refuses, and what a compaction makes of it.
use Rattle.std.specs.Prelude.{◌≡◌, ◌≤◌, ◌^◌, ◌==◌, ◌⊎◌, if◌then◌else◌, ℕ, ℤ, Bool, true, false, length, map, slice_get, FitsSigned, Option, Some, None}
use Rattle.std.specs.Int.{w64, FitsUnsigned}
use Rattle.fkv_functions.specs.declared.names.Name.{Name}
use Rattle.fkv_functions.specs.declared.refusals.Refused.{Refused}
use Rattle.fkv_functions.specs.declared.refusals.Refused.TheVariants.{NoMemory, BadConfig, Worn}
use Rattle.fkv_functions.specs.Hashes.{fnv_1a}
use Rattle.fkv_functions.specs.Names.{text_of}
use Rattle.fkv_device.specs.declared.memory.MemoryWriter.{MemoryWriter}
use Rattle.fkv_device.specs.declared.memory.MemoryReader.{MemoryReader}
use Rattle.fkv_operations.specs.declared.operations.KeyedOp.{KeyedOp}
use Rattle.fkv_operations.specs.declared.operations.KeyedOp.TheVariants.{Read, Upsert, Rmw, Delete, Merge}
use Rattle.fkv_records.specs.Records.{size_of}
use Rattle.fkv_partition.specs.declared.limits.Config.{Config}
use Rattle.fkv_partition.specs.Limits.{IsWithinLimits}
use Rattle.fkv_partition.specs.Views.{PartitionView}
use Rattle.fkv_local.specs.Storing.{StoreView}
use Rattle.fkv_local.specs.Resting.{IsMadeBy}
use Rattle.fkv_local.specs.Causing.{IsMemoryRefusal}
use Rattle.fkv_local.specs.Clearing.{IsAllGivenBack, AnyIsCut, IsAllCut}
use Rattle.fkv_local.specs.Refusing.{IsRefusal, IsUncompacted}
use Rattle.fkv_local.specs.Listing.{IsUnlisted}
use Rattle.fkv_c.specs.Counting.{whole_op}
use Rattle.fkv_c.specs.declared.cells.Cell.{Cell}
use Rattle.fkv_c.specs.declared.handles.Held.{Held}
use Rattle.fkv_c.specs.declared.handles.Held.TheVariants.{Sums, Maxima, CappedSums, Counts, Cells, SumPairs, MaxPairs, CountPairs, CellPairs}
use Rattle.fkv_c.specs.declared.faults.Fault.{Fault}
use Rattle.fkv_c.specs.declared.faults.Fault.TheVariants as fault

-- a store in memory, of values of this type by name
abbrev pub Stored : Type 0 → Type 0
Stored V = StoreView Name V ℤ MemoryWriter MemoryReader

-- the number by which a name is sent to its partition
abbrev pub name_code : Name → ℕ
name_code k = fnv_1a (text_of k)

-- how often what writes memory's pages has failed, and what reads them
abbrev pub writes : MemoryWriter → ℕ
writes w = w.failures

abbrev pub reads : MemoryReader → ℕ
reads r = r.failures

-- there are functions of this number
abbrev pub IsKindNumber : ℕ → Type 0
IsKindNumber kind = (1 ≤ kind) × (kind ≤ 5)

-- the bytes of a value of such functions
abbrev pub value_size : ℕ → ℕ
value_size kind = if kind == 5 then 64 else (if kind == 2 then 8 else (if kind == 4 then 8 else 16))

-- the numbers of a configuration are within their limits, for records of a name and such a value
abbrev pub IsGood : ℕ → Config → Type 0
IsGood kind config = IsWithinLimits config (size_of 32 (value_size kind))

-- why no store is made of functions of this number and this configuration
pub data IsUnmade (kind : ℕ) (config : Config) (why : Fault) : Type 0 where
  no_kind : why ≡ fault.BadKind → (IsKindNumber kind → ⊥) → IsUnmade kind config why
  bad_config : why ≡ fault.Refused BadConfig → IsKindNumber kind → (IsGood kind config → ⊥) → IsUnmade kind config why
  no_memory : why ≡ fault.Refused NoMemory → IsKindNumber kind → IsGood kind config → IsUnmade kind config why

-- a store has this configuration: so many partitions, each with its buckets, its page size and its frames
pub record IsBuilt {V : Type 0} (s : Stored V) (config : Config) : Type 0 where
  pub configured : s.config ≡ config
  pub sized : length s.parts ≡ 2 ^ config.partition_bits
  pub made : (p : ℕ) (v : PartitionView Name V ℤ) → slice_get s.parts p ≡ Some v → IsMadeBy config v

-- the store that a handle leads to has it
abbrev pub HasSettings : Option Held → Config → Type 0
HasSettings (Some (Sums s)) config = IsBuilt s config
HasSettings (Some (Maxima s)) config = IsBuilt s config
HasSettings (Some (CappedSums s)) config = IsBuilt s config
HasSettings (Some (Counts s)) config = IsBuilt s config
HasSettings (Some (Cells s)) config = IsBuilt s config
HasSettings other config = ⊥

-- a value that an operation sets is one of these
abbrev pub SetsOnly : (ℤ → Type 0) → KeyedOp Name ℤ ℤ → Type 0
SetsOnly P (Read k i) = Unit {0}
SetsOnly P (Upsert k z) = P z
SetsOnly P (Rmw k i) = Unit {0}
SetsOnly P (Delete k) = Unit {0}
SetsOnly P (Merge k i) = Unit {0}

-- A VALUE THAT IS SET IS ONE OF THE STORE'S: of maxima it has 64 bits, of counts 64 and no sign
abbrev pub FitsIn : Option Held → KeyedOp Name ℤ ℤ → Type 0
FitsIn None op = Unit {0}
FitsIn (Some (Sums s)) op = Unit {0}
FitsIn (Some (Maxima s)) op = SetsOnly (FitsSigned w64) op
FitsIn (Some (CappedSums s)) op = Unit {0}
FitsIn (Some (Counts s)) op = SetsOnly (FitsUnsigned w64) op
FitsIn (Some (Cells s)) op = Unit {0}
FitsIn (Some (SumPairs p)) op = Unit {0}
FitsIn (Some (MaxPairs p)) op = Unit {0}
FitsIn (Some (CountPairs p)) op = Unit {0}
FitsIn (Some (CellPairs p)) op = Unit {0}

-- WHY A STORE IN MEMORY REFUSES AN OPERATION: as each store for one thread does, and of memory neither a write nor a read is among
-- the causes
pub record IsUnmadeBy {V : Type 0} (merges : Bool) (code : Name → ℕ) (old new : Stored V) (op : KeyedOp Name V ℤ) (why : Refused)
    : Type 0 where
  pub told : IsRefusal true merges code writes reads old new op why
  pub memory : IsMemoryRefusal merges op why

-- the same of a store of counts, by the operation on whole numbers
pub record IsUncounted (old new : Stored ℕ) (op : KeyedOp Name ℤ ℤ) (why : Refused) : Type 0 where
  pub count : KeyedOp Name ℕ ℤ
  pub same : whole_op count ≡ op
  pub unmade : IsUnmadeBy true name_code old new count why

-- why a store of numbers refuses an operation, which makes the handle lead from `old` to `new`: capped sums do not merge
abbrev pub Refuses : Option Held → Option Held → KeyedOp Name ℤ ℤ → Refused → Type 0
Refuses (Some (Sums s)) (Some (Sums t)) op why = IsUnmadeBy true name_code s t op why
Refuses (Some (Maxima s)) (Some (Maxima t)) op why = IsUnmadeBy true name_code s t op why
Refuses (Some (CappedSums s)) (Some (CappedSums t)) op why = IsUnmadeBy false name_code s t op why
Refuses (Some (Counts s)) (Some (Counts t)) op why = IsUncounted s t op why
Refuses old new op why = ⊥

-- and one of cells, which do not merge either
abbrev pub CellsRefuse : Option Held → Option Held → KeyedOp Name Cell ℤ → Refused → Type 0
CellsRefuse (Some (Cells s)) (Some (Cells t)) op why = IsUnmadeBy false name_code s t op why
CellsRefuse old new op why = ⊥

-- why a store in memory is not compacted
pub record IsNotCompacted {V : Type 0} (old new : Stored V) (why : Refused) : Type 0 where
  pub told : IsUncompacted true writes reads old new why
  pub memory : (why ≡ NoMemory) ⊎ (why ≡ Worn)

abbrev pub RefusesCompaction : Option Held → Option Held → Refused → Type 0
RefusesCompaction (Some (Sums s)) (Some (Sums t)) why = IsNotCompacted s t why
RefusesCompaction (Some (Maxima s)) (Some (Maxima t)) why = IsNotCompacted s t why
RefusesCompaction (Some (CappedSums s)) (Some (CappedSums t)) why = IsNotCompacted s t why
RefusesCompaction (Some (Counts s)) (Some (Counts t)) why = IsNotCompacted s t why
RefusesCompaction (Some (Cells s)) (Some (Cells t)) why = IsNotCompacted s t why
RefusesCompaction old new why = ⊥

-- why a store in memory is not listed: for want of memory, at one of its partitions or where no reader has failed
pub record IsNotListed {V : Type 0} (old new : Stored V) (why : Refused) : Type 0 where
  pub memory : why ≡ NoMemory
  pub told : IsUnlisted true reads old.parts old.readers new.readers why ⊎ (map reads new.readers ≡ map reads old.readers)

abbrev pub RefusesList : Option Held → Option Held → Refused → Type 0
RefusesList (Some (Sums s)) (Some (Sums t)) why = IsNotListed s t why
RefusesList (Some (Maxima s)) (Some (Maxima t)) why = IsNotListed s t why
RefusesList (Some (CappedSums s)) (Some (CappedSums t)) why = IsNotListed s t why
RefusesList (Some (Counts s)) (Some (Counts t)) why = IsNotListed s t why
RefusesList (Some (Cells s)) (Some (Cells t)) why = IsNotListed s t why
RefusesList old new why = ⊥

-- WHAT A COMPACTION MAKES OF A STORE, and whether the start of any log was cut: Begin of each has come to the page where Head was,
-- and no more of any can be cut
pub record IsCompacted {V : Type 0} (old new : Stored V) (has_cut : Bool) : Type 0 where
  pub sized : length new.parts ≡ length old.parts
  pub given_back : IsAllGivenBack old new
  pub cut : AnyIsCut old new has_cut
  pub whole : (p : ℕ) (v : PartitionView Name V ℤ) → slice_get new.parts p ≡ Some v → IsAllCut v

abbrev pub Compacts : Option Held → Option Held → Bool → Type 0
Compacts (Some (Sums s)) (Some (Sums t)) has_cut = IsCompacted s t has_cut
Compacts (Some (Maxima s)) (Some (Maxima t)) has_cut = IsCompacted s t has_cut
Compacts (Some (CappedSums s)) (Some (CappedSums t)) has_cut = IsCompacted s t has_cut
Compacts (Some (Counts s)) (Some (Counts t)) has_cut = IsCompacted s t has_cut
Compacts (Some (Cells s)) (Some (Cells t)) has_cut = IsCompacted s t has_cut
Compacts old new has_cut = ⊥

-- the same, as C is told: 1 where Begin of some log has risen, and 0 where none has
abbrev pub IsCompactionTold : Option Held → Option Held → ℕ → Type 0
IsCompactionTold old new told = ((told ≡ 1) × Compacts old new true) ⊎ ((told ≡ 0) × Compacts old new false)
