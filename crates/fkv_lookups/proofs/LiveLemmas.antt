-- A scan of all records.
use Rattle.std.proofs.Common.{◌≡◌, ◌<◌, ◌≤◌, inl, inr, ℕ, Bool, [], refl, length}
use Rattle.std.proofs.lemmas.Bool.{cases_lt}
use Rattle.std.specs.Prelude.{IsTrue, IsOk, Result, Err}
use Rattle.std.specs.declared.cmp.Ordering.{Ordering}
use Rattle.fkv_functions.specs.declared.refusals.Refused.{Refused}
use Rattle.fkv_functions.specs.Plain.{PlainMap}
use Rattle.fkv_records.specs.Places.{page_at}
use Rattle.fkv_texts.specs.Places.{tail_after}
use Rattle.fkv_texts.proofs.PlaceLemmas.{after}
use Rattle.fkv_hybrid.proofs.FrameLemmas.{page_rises}
use Rattle.fkv_lookups.proofs.ScanLemmas.{IsScanned}
use Rattle.fkv_hybrid.specs.Views.{LogView}
use Rattle.fkv_hybrid.specs.Logs.{IsLogOf}
use Rattle.fkv_hybrid.specs.Scans.{ScanView, IsScanOf, IsStepRefusal, IsScanRefusal, at_page}
use Rattle.fkv_hybrid.proofs.ScanLemmas.{begins_kept, is_place}

module _ {K V : Type 0} (keeps : Bool) (size : ℕ) (log : LogView K V) (h : IsLogOf keeps size log) where
  -- at Begin nothing is done
  pub scan_begins : (cmp : K → K → Ordering) (join : V → V → V) (begin : ℕ) (map : PlainMap K V) → IsTrue keeps → begin ≡ log.begin → IsScanned cmp join map log.bits size log.tail log.text begin map
  scan_begins cmp join begin map k is = rw is (record {
    done = [];
    rest = log.text;
    whole = refl;
    laid_out = rw (h.begins, begins_kept keeps log.begin log.regions.offsets.closed k) at h.laid_out;
    said = λ q. refl;
  })

  module _ (scan : ScanView) (s : IsScanOf size log scan) (more : scan.address < log.tail) where
    -- it goes on upwards
    pub scan_rises : scan.address < tail_after log.bits size scan.address
    scan_rises = let t = after log.bits size h.shape scan.address (is_place keeps size log h scan s more) in t.above

    -- what is refused is refused at a flushed page
    pub scan_refused : {A : Type 0} (r : Result A Refused) (why : Refused) (old now new : ℕ) → r ≡ Err why → now ≡ old
        → (length log.receipts ≤ page_at log.bits scan.address → IsOk r)
        → IsStepRefusal keeps (page_at log.bits scan.address) now new why
        → IsScanRefusal keeps (page_at log.bits log.begin) (length log.receipts) old new why
    scan_refused r why old now new is same unread refused =
        let refuses : IsStepRefusal keeps (page_at log.bits scan.address) old new why = rw same at refused in
        elim (cases_lt (page_at log.bits scan.address) (length log.receipts)) [
          | inl low ↦ at_page (page_rises log.bits log.begin scan.address s.begun) low refuses
          | inr high ↦ absurd (let ok = rw is at (unread high) in cc)
        ]
