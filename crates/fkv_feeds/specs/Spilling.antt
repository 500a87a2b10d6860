-- The table of feeds in pages of a device, and why it is not there.
use Rattle.std.specs.Prelude.{◌≡◌, ℕ, ℤ, Bool, IsTrue, List, length, Option}
use Rattle.fkv_functions.specs.Codecs.{Codec}
use Rattle.fkv_functions.specs.Meanings.{Meanings}
use Rattle.fkv_functions.specs.declared.names.Name.{Name}
use Rattle.fkv_functions.specs.declared.refusals.Refused.{Refused}
use Rattle.fkv_device.specs.Failing.{FailsOnlyBy}
use Rattle.fkv_device.specs.Standing.{Standing}
use Rattle.fkv_local.specs.Causing.{IsCausedBy}
use Rattle.fkv_spills.specs.Reading.{HasMerged, IsLeft, IsUnreadable}
use Rattle.fkv_spills.specs.declared.merging.ReadMerge.{ReadMerge}
use Rattle.fkv_spills.specs.declared.rests.SpilledRest.{SpilledRest}
use Rattle.fkv_feeds.specs.Faults.{IsDeviceFault}
use Rattle.fkv_feeds.specs.Tables.{IsTableOf}
use Rattle.fkv_feeds.specs.declared.spilling.SpilledRun.{SpilledRun}

-- the pairs that are still to come of runs that are merged in groups, on a device that keeps
abbrev pub ArePairsOf : {V R P : Type 0} {vsize : ℕ} → Codec V vsize → Bool → (R → Standing) → ReadMerge (ReadMerge (SpilledRest V R P))
    → List (Name × V) → Type 0
ArePairsOf value keeps stands pairs xs = HasMerged (HasMerged (IsLeft value keeps stands)) pairs xs

-- a run has the table of feeds on its device: the pairs that are still to come of it are the table's, and it says how many they are
pub record HasTableOf {V R P O : Type 0} {vsize : ℕ} (value : Codec V vsize) (keeps : Bool) (stands : R → Standing) (f : Meanings Name V ℤ O)
    (feeds : List (Option (List ℕ))) (run : SpilledRun V R P) : Type 0 where
  pub pairs : List (Name × V)
  pub come : ArePairsOf value keeps stands run.pairs pairs
  pub table : IsTableOf f feeds pairs
  pub counted : run.keys ≡ length pairs

-- Why a run over a device that has its table there was refused: as one that has it in memory; or a page of a partition's run was not
-- written; or the first of these was not read back, or spells no pair, which no keeping device comes to. On a device that keeps, a
-- fault of reading is told only where a read can fail.
pub data IsSpillFault {D W R : Type 0} (keeps : Bool) (opens : D → ℕ) (writes : W → ℕ) (reads : R → ℕ) (may_write may_read : Type 0)
    (why : Refused) : Type 0 where
  unmade : IsDeviceFault keeps opens writes reads may_write may_read why → IsSpillFault keeps opens writes reads may_write may_read why
  unwritten : (page : ℕ) (old new : W)
      → FailsOnlyBy 2 page (writes old) (writes new) why
      → IsSpillFault keeps opens writes reads may_write may_read why
  unread : (before now : R)
      → IsUnreadable (reads before) (reads now) (IsTrue keeps) why
      → (IsTrue keeps → IsCausedBy may_write may_read why)
      → IsSpillFault keeps opens writes reads may_write may_read why
