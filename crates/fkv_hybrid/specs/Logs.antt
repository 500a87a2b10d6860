-- What holds of every log.
use Rattle.std.specs.Prelude.{◌≡◌, ◌^◌, ◌<◌, ◌≤◌, ◌↔◌, ℕ, Bool, IsSome, None, length}
use Rattle.fkv_records.specs.Places.{IsShape, IsRecordStart, page_at}
use Rattle.fkv_texts.specs.Places.{IsLaidOut}
use Rattle.fkv_texts.specs.Text.{entry_at, IsRising, IsFrom, IsBelow}
use Rattle.fkv_texts.specs.Deltas.{AreValued}
use Rattle.fkv_epoch.specs.Timely.{IsTimely}
use Rattle.fkv_regions.specs.Agree.{IsRegions, IsMark}
use Rattle.fkv_hybrid.specs.Loads.{HasReceipt}
use Rattle.fkv_hybrid.specs.Views.{LogView, text_begin, receipt_at}

-- on a device that keeps or not, a log of records of this size
pub record IsLogOf {K V : Type 0} (keeps : Bool) (size : ℕ) (log : LogView K V) : Type 0 where
  pub shape : IsShape log.bits size
  pub some : 0 < log.frames
  pub first : 64 ≤ log.begin
  -- Begin is the first place, or starts a page
  pub marked : IsMark log.bits log.begin
  -- the text begins at Begin on a device that keeps, else no lower than where frames are closed
  pub begins : log.from ≡ text_begin keeps log.begin log.regions.offsets.closed
  -- an entry stands at each place from there to below the tail, and nowhere else
  pub laid_out : IsLaidOut log.bits size log.from log.tail log.text
  pub places : (a : ℕ)
      → IsSome (entry_at log.text a) ↔ ((log.from ≤ a) × (a < log.tail) × IsRecordStart log.bits size a)
  pub rising : IsRising log.text
  pub from : IsFrom log.from log.text
  pub below : IsBelow log.tail log.text
  -- each delta has a part
  pub valued : AreValued log.text
  pub most : log.tail ≤ 2 ^ 48
  pub end : log.tail < 2 ^ 48 → IsRecordStart log.bits size log.tail
  -- the views of the sessions agree with the offsets, which are those of this log
  pub regions : IsRegions log.regions
  pub timely : IsTimely log.regions.epochs
  pub bits : log.regions.bits ≡ log.bits
  pub headed : log.begin ≤ log.regions.offsets.head
  pub read_only : log.regions.offsets.read_only ≤ log.tail
  -- each flushed page has its receipt, but for those below that of Begin, of which none is held
  pub flushed : log.regions.flushed ≡ length log.receipts
  pub gone : (page : ℕ) → page < page_at log.bits log.begin → receipt_at log.receipts page ≡ None
  pub held : (page : ℕ)
      → page_at log.bits log.begin ≤ page
      → page < length log.receipts
      → HasReceipt log.receipts page
