-- Why a device, or the bytes that it gave, ends a run.
use Rattle.std.specs.Prelude.{◌≡◌, ℕ, Bool, IsTrue}
use Rattle.fkv_functions.specs.declared.refusals.Refused.{Refused}
use Rattle.fkv_functions.specs.declared.refusals.Refused.TheVariants.{Damaged}
use Rattle.fkv_device.specs.Failing.{FailsOnlyBy, ReadFailsBy}
use Rattle.fkv_hybrid.specs.Scans.{IsScanRefusal}
use Rattle.fkv_local.specs.Causing.{IsCausedBy}

-- Why the work at one partition was refused, of whose writer and reader these are the counts of failures before and
-- after: a page was not written or not read, which is counted once where it is not for want of memory; or the bytes of one
-- that was read spell no record, or lead to no place, which no keeping device comes to.
pub data IsFault (keeps : Bool) (writes writes_now reads reads_now : ℕ) (why : Refused) : Type 0 where
  unwritten : (page : ℕ)
      → FailsOnlyBy 2 page writes writes_now why
      → reads_now ≡ reads
      → IsFault keeps writes writes_now reads reads_now why
  unread : (page : ℕ)
      → ReadFailsBy page reads reads_now why
      → writes_now ≡ writes
      → IsFault keeps writes writes_now reads reads_now why
  misspelled : (page : ℕ)
      → (IsTrue keeps → ⊥)
      → why ≡ Damaged page
      → writes_now ≡ writes
      → reads_now ≡ reads
      → IsFault keeps writes writes_now reads reads_now why

-- Why a run over a device was refused: it did not open a partition's pages; or the work at a partition was refused, or
-- the list of its live keys. On a device that keeps, a fault of writing is told only where a write can fail, and one of reading or
-- a damage only where a read can.
pub data IsDeviceFault {D W R : Type 0} (keeps : Bool) (opens : D → ℕ) (writes : W → ℕ) (reads : R → ℕ)
    (may_write may_read : Type 0) (why : Refused) : Type 0 where
  unopened : (old new : D)
      → FailsOnlyBy 1 0 (opens old) (opens new) why
      → IsDeviceFault keeps opens writes reads may_write may_read why
  unworked : (old new : W) (before now : R)
      → IsFault keeps (writes old) (writes new) (reads before) (reads now) why
      → (IsTrue keeps → IsCausedBy may_write may_read why)
      → IsDeviceFault keeps opens writes reads may_write may_read why
  unlisted : (low flushed : ℕ) (before now : R)
      → IsScanRefusal keeps low flushed (reads before) (reads now) why
      → (IsTrue keeps → IsCausedBy may_write may_read why)
      → IsDeviceFault keeps opens writes reads may_write may_read why
