-- Runs of partitions in pages of the device, and why there are none.
use Rattle.std.specs.Prelude.{◌≡◌, ◌≢◌, ◌⊎◌, ⊤, ℕ, ℤ, Bool, IsTrue, List, Option}
use Rattle.fkv_functions.specs.Codecs.{Codec}
use Rattle.fkv_functions.specs.Meanings.{Meanings}
use Rattle.fkv_functions.specs.declared.names.Name.{Name}
use Rattle.fkv_functions.specs.declared.refusals.Refused.{Refused}
use Rattle.fkv_functions.specs.declared.refusals.Refused.TheVariants.{NoMemory, Worn, Device, Damaged, Mismatch}
use Rattle.fkv_device.specs.Failing.{FailsOnlyBy}
use Rattle.fkv_device.specs.Standing.{Standing}
use Rattle.fkv_alone.specs.Causes.{CanFailToRead}
use Rattle.fkv_feeds.specs.Spilling.{ArePairsOf}
use Rattle.fkv_feeds.specs.declared.counting.RowMode.{RowMode}
use Rattle.fkv_feeds.specs.declared.spilling.SpilledRun.{SpilledRun}
use Rattle.fkv_partition.specs.Views.{PartitionView}
use Rattle.fkv_spills.specs.Parts.{HasPairs}
use Rattle.fkv_spills.specs.Reading.{IsUnreadable}
use Rattle.fkv_spills.specs.declared.parts.SpilledPart.{SpilledPart}
use Rattle.fkv_workers.specs.Listing.{IsRunOf, IsRunless}
use Rattle.fkv_workers.specs.Works.{IsMadeOf}

module _ {V : Type 0} {vsize : ℕ} (value : Codec V vsize) (keeps : Bool) where
  -- the pairs that are still to come are a run of the partition
  pub record IsSpilledOf {R P I : Type 0} (stands : R → Standing) (code : Name → ℕ) (view : PartitionView Name V I)
      (part : SpilledPart V R P) : Type 0 where
    pub pairs : List (Name × V)
    pub has : HasPairs value keeps stands part pairs
    pub run : IsRunOf keeps code view pairs

  -- the pairs that are still to come of a run were made of these feeds in this mode, as `IsMadeOf` says of a table
  pub record IsSpilledFrom {R P O : Type 0} (stands : R → Standing) (f : Meanings Name V ℤ O) (code : Name → ℕ) (mode : RowMode)
      (feeds : List (Option (List ℕ))) (run : SpilledRun V R P) : Type 0 where
    pub pairs : List (Name × V)
    pub come : ArePairsOf value keeps stands run.pairs pairs
    pub made : IsMadeOf f code mode feeds pairs run.counts.rows

-- Why a partition has no run in pages of its device: its list is refused; or a page of the run is not written, by the failures of a
-- writer before and after; or the first of these is not read back, by those of the partition's reader, or it spells no pair. On a device
-- that keeps, no page of the run spells no pair, and one is not read back only where a read can fail.
pub data IsUnspilled {R P W V I : Type 0} (keeps : Bool) (stands : R → Standing) (can_fail : R → ℕ → Type 0) (reads : P → ℕ)
    (writes : W → ℕ) (view : PartitionView Name V I) (reader : P) (why : Refused) : Type 0 where
  unlisted : IsRunless keeps stands can_fail reads view reader why
      → IsUnspilled keeps stands can_fail reads writes view reader why
  unwritten : (page : ℕ) (old new : W)
      → FailsOnlyBy 2 page (writes old) (writes new) why
      → IsUnspilled keeps stands can_fail reads writes view reader why
  unread : (now : P)
      → IsUnreadable (reads reader) (reads now) (IsTrue keeps) why
      → (IsTrue keeps → why ≢ NoMemory → CanFailToRead stands can_fail)
      → IsUnspilled keeps stands can_fail reads writes view reader why

-- why a store has no table in pages at its end: it does not end, as `IsEnding` says; or the table has too many keys; or one of its
-- partitions has no run, and then a fault of the device has this cause
abbrev pub IsSpillEnding : (Refused → Type 0) → Refused → Type 0
IsSpillEnding fault NoMemory = ⊤
IsSpillEnding fault Worn = ⊤
IsSpillEnding fault (Device code page) = ((code ≡ 1) × (page ≡ 0)) ⊎ fault (Device code page)
IsSpillEnding fault (Damaged page) = fault (Damaged page)
IsSpillEnding fault Mismatch = ⊤
IsSpillEnding fault other = ⊥
