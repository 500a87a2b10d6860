-- Partitions between two operations: the session of each has nothing open.
use Rattle.std.specs.Prelude.{◌≡◌, ◌≢◌, ◌≤◌, ◌<◌, ◌+◌, ◌^◌, ℕ, Bool, IsTrue, List, Some, None, slice_get, length}
use Rattle.std.specs.declared.cmp.Ordering.{Ordering}
use Rattle.fkv_functions.specs.Plain.{Same}
use Rattle.fkv_regions.specs.Settled.{IsSettled}
use Rattle.fkv_partition.specs.declared.limits.Config.{Config}
use Rattle.fkv_partition.specs.KeyBeginning.{IsEntered}
use Rattle.fkv_partition.specs.Views.{context_at, live_of, PartitionView, relocation_at}

-- a session with nothing open, neither an operation on a key nor a relocation; it is the only one, and has seen all
pub record IsIdle {K V I : Type 0} (v : PartitionView K V I) (slot : ℕ) : Type 0 where
  pub entered : IsEntered v slot
  pub settled : IsSettled v.records.log.regions
  pub free : (c : ℕ) → context_at v slot c ≡ None
  pub relocations : (d : ℕ) → relocation_at v slot d ≡ None

-- what has become of a partition whose session had nothing open: it has nothing open, and on a device that keeps the live map
-- is what it was
pub record StaysIdle {K V I : Type 0} (keeps : Bool) (cmp : K → K → Ordering) (old new : PartitionView K V I) : Type 0 where
  pub number : new.number ≡ old.number
  pub count : new.count ≡ old.count
  pub idle : IsIdle new 0
  pub live : IsTrue keeps → Same (live_of cmp new) (live_of cmp old)

-- a session with nothing open but what may stand in one context, and that is no operation on a key
pub record IsIdleBut {K V I : Type 0} (v : PartitionView K V I) (slot c : ℕ) : Type 0 where
  pub entered : IsEntered v slot
  pub settled : IsSettled v.records.log.regions
  pub free : (d : ℕ) → context_at v slot d ≡ None
  pub relocations : (d : ℕ) → d ≢ c → relocation_at v slot d ≡ None

pub record StaysIdleBut {K V I : Type 0} (keeps : Bool) (cmp : K → K → Ordering) (old new : PartitionView K V I) (c : ℕ)
    : Type 0 where
  pub number : new.number ≡ old.number
  pub count : new.count ≡ old.count
  pub idle : IsIdleBut new 0 c
  pub live : IsTrue keeps → Same (live_of cmp new) (live_of cmp old)

-- a partition has the pages, the frames and the buckets of a configuration
pub record IsMadeBy {K V I : Type 0} (config : Config) (v : PartitionView K V I) : Type 0 where
  pub page_bits : v.records.log.bits ≡ config.page_bits
  pub frames : v.records.log.frames ≡ config.frames
  pub bucket_bits : v.records.bucket_bits ≡ config.bucket_bits

-- a partition of this number with nothing in it but a session, of slot 0
pub record IsSeatedIn {K V I : Type 0} (cmp : K → K → Ordering) (config : Config) (number : ℕ) (v : PartitionView K V I)
    : Type 0 where
  pub numbered : v.number ≡ number
  pub counted : v.count ≡ 2 ^ config.partition_bits
  pub made : IsMadeBy config v
  pub past : v.moment ≤ number + 1
  pub idle : IsIdle v 0
  pub empty : (k : K) → live_of cmp v k ≡ None

-- so many of them, numbered by their places
pub record AreNew {K V I : Type 0} (cmp : K → K → Ordering) (config : Config) (views : List (PartitionView K V I))
    (count : ℕ) : Type 0 where
  pub sized : length views ≡ count
  pub each : (p : ℕ) (v : PartitionView K V I) → slice_get views p ≡ Some v → IsSeatedIn cmp config p v

-- no writer of these has given more receipts than the clock has moments
abbrev pub AreNumbered : {W : Type 0} → (W → ℕ) → List W → ℕ → Type 0
AreNumbered {W} next writers now = (p : ℕ) (w : W) → slice_get writers p ≡ Some w → next w ≤ now

-- the partitions of a store between two operations: numbered by their places, the session at slot 0 idle in each, and their
-- moments past by a clock that has begun
pub record AreAtRest {K V I : Type 0} (views : List (PartitionView K V I)) (now : ℕ) : Type 0 where
  pub some : 0 < length views
  pub begun : 0 < now
  pub numbered : (p : ℕ) (v : PartitionView K V I) → slice_get views p ≡ Some v → v.number ≡ p
  pub counted : (p : ℕ) (v : PartitionView K V I) → slice_get views p ≡ Some v → v.count ≡ length views
  pub past : (p : ℕ) (v : PartitionView K V I) → slice_get views p ≡ Some v → v.moment ≤ now
  pub idle : (p : ℕ) (v : PartitionView K V I) → slice_get views p ≡ Some v → IsIdle v 0
