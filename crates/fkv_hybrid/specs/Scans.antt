-- What a scan has of a log, and why it is refused.
use Rattle.std.specs.Prelude.{◌≡◌, ◌^◌, ◌<◌, ◌≤◌, ◌⊎◌, ℕ, Bool, IsTrue, List, Option, IfSome, IsSomeAnd}
use Rattle.fkv_functions.specs.declared.refusals.Refused.{Refused}
use Rattle.fkv_functions.specs.declared.refusals.Refused.TheVariants.{Damaged, NoMemory}
use Rattle.fkv_records.specs.Places.{IsRecordStart}
use Rattle.fkv_device.specs.Failing.{ReadFailsBy}
use Rattle.fkv_device.specs.Standing.{Standing}
use Rattle.fkv_hybrid.specs.Loads.{IsHeldBy}
use Rattle.fkv_hybrid.specs.Views.{LogView}

-- the address of the entry that is read next, and what the receipt stands for of the page that was loaded last
pub record ScanView : Type 0 where
  pub address : ℕ
  pub loaded : Option Standing

-- a scan of this log: it stands at a place from Begin on, or where no record can, and has a page of the log's own if any
pub record IsScanOf {K V : Type 0} (size : ℕ) (log : LogView K V) (scan : ScanView) : Type 0 where
  pub begun : log.begin ≤ scan.address
  pub place : scan.address < 2 ^ 48 → IsRecordStart log.bits size scan.address
  pub own : IfSome scan.loaded (λ s. IsHeldBy log.receipts s.page s)

-- a scan has this page
abbrev pub HasPage : ScanView → ℕ → Type 0
HasPage scan page = IsSomeAnd scan.loaded (λ s. s.page ≡ page)

-- a read of a flushed page may fail, by what its device says of the receipt that is kept of it and of a buffer as long as
-- the page
pub record MayFail {R : Type 0} (stands : R → Standing) (can_fail : R → ℕ → Type 0) (receipts : List (Option Standing))
    (bits page : ℕ) : Type 0 where
  pub receipt : R
  pub own : IsHeldBy receipts page (stands receipt)
  pub long : (stands receipt).length ≡ 2 ^ bits
  pub fails : can_fail receipt (2 ^ bits)

-- why the entry of a flushed page is not read: the device refuses the page, and has counted a fault that it tells of; or
-- the page's bytes spell no record there, which no keeping device comes to and none counts
abbrev pub IsStepRefusal : Bool → ℕ → ℕ → ℕ → Refused → Type 0
IsStepRefusal keeps page old new why =
    ReadFailsBy page old new why ⊎ ((IsTrue keeps → ⊥) × (why ≡ Damaged page) × (new ≡ old))

-- why a scan of all entries is refused: for want of memory, or as above at a flushed page from this one on
pub data IsScanRefusal (keeps : Bool) (low flushed old new : ℕ) (why : Refused) : Type 0 where
  memory : why ≡ NoMemory → new ≡ old → IsScanRefusal keeps low flushed old new why
  at_page : {page : ℕ}
      → low ≤ page
      → page < flushed
      → IsStepRefusal keeps page old new why
      → IsScanRefusal keeps low flushed old new why
