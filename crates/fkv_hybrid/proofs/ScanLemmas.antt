-- Where a scan stands in a log.
use Rattle.std.proofs.Common.{◌≡◌, ◌^◌, ◌*◌, ◌+◌, ◌/◌, ◌%◌, ◌<◌, ◌≤◌, inl, inr, ℕ, Bool, true, false, List, Option, None, IsSome, refl, sym, subst, arith, length}
use Rattle.std.specs.Prelude.{IsTrue, IfSome, IfOk, Result, Ok, Err}
use Rattle.std.proofs.lemmas.Nat.{div-add-mod'}
use Rattle.fkv_device.specs.Standing.{Standing}
use Rattle.fkv_hybrid.specs.Loads.{HasReceipt, IsHeldBy}
use Rattle.fkv_records.specs.Places.{IsRecordStart, page_at, start_at}
use Rattle.fkv_texts.specs.Text.{entry_at}
use Rattle.fkv_texts.specs.Places.{tail_after}
use Rattle.fkv_texts.proofs.PlaceLemmas.{after}
use Rattle.fkv_regions.specs.Agree.{IsMark}
use Rattle.fkv_regions.proofs.MoveLemmas.{mark-place, closed-flushed}
use Rattle.fkv_hybrid.specs.Views.{text_begin}
use Rattle.fkv_hybrid.proofs.FrameLemmas.{page_low, page_rises, start_rises}
use Rattle.fkv_hybrid.proofs.PageLemmas.{begins_low}
use Rattle.fkv_hybrid.specs.Views.{LogView}
use Rattle.fkv_hybrid.specs.Logs.{IsLogOf}
use Rattle.fkv_hybrid.specs.Scans.{ScanView, IsScanOf}

-- a mark is no higher than what lies in its page or above, if it is 64 at least
mark_low : (bits m a : ℕ) → IsMark bits m → 64 ≤ a → page_at bits m ≤ page_at bits a → m ≤ a
mark_low bits m a (inl e) low up = omega arith
mark_low bits m a (inr e) low up =
    let parts : m / 2 ^ bits * 2 ^ bits + m % 2 ^ bits ≡ m = div-add-mod' m (2 ^ bits) in
    let starts : start_at bits (page_at bits m) ≡ m = omega (arith, parts, e) in
    let rises = start_rises bits (page_at bits m) (page_at bits a) up in
    let under = page_low bits a in
    omega arith

-- on a device that keeps, the text begins at Begin
pub begins_kept : (keeps : Bool) (begin closed : ℕ) → IsTrue keeps → text_begin keeps begin closed ≡ begin
begins_kept true begin closed k = refl
begins_kept false begin closed k = absurd (cc)

module _ {K V : Type 0} (keeps : Bool) (size : ℕ) (log : LogView K V) (h : IsLogOf keeps size log) (scan : ScanView) (s : IsScanOf size log scan) (more : scan.address < log.tail) where
  pub is_place : IsRecordStart log.bits size scan.address
  is_place = s.place (omega (arith, more, h.most))

  -- it goes on to the next place, with a page of the log's own if any
  pub goes_on : (next : ℕ) (loaded : Option Standing) → next ≡ tail_after log.bits size scan.address → IfSome loaded (λ s. IsHeldBy log.receipts s.page s)
      → IsScanOf size log (record { address = next; loaded = loaded })
  goes_on next loaded is own =
      let t = after log.bits size h.shape scan.address is_place in
      rw is (record { begun = omega (arith, t.above, s.begun); place = t.place; own = own })

  -- a page that is not flushed is in its frame
  pub not_closed : length log.receipts ≤ page_at log.bits scan.address → log.regions.offsets.closed ≤ scan.address
  not_closed high =
      let low = closed-flushed log.regions h.regions in
      let under : page_at log.bits log.regions.offsets.closed ≤ length log.receipts = rw (← h.bits, ← h.flushed) low in
      mark_low log.bits log.regions.offsets.closed scan.address (rw (← h.bits) h.regions.in_order.closed_mark) (omega (arith, h.first, s.begun)) (omega arith)

  -- the receipt of one that is flushed is held
  pub has_receipt : page_at log.bits scan.address < length log.receipts → HasReceipt log.receipts (page_at log.bits scan.address)
  has_receipt low = h.held (page_at log.bits scan.address) (page_rises log.bits log.begin scan.address s.begun) low

  pub stands : (log.from ≤ scan.address) → IsSome (entry_at log.text scan.address)
  stands low = (h.places scan.address).1 (low, more, is_place)

  pub in_frame : length log.receipts ≤ page_at log.bits scan.address → IsSome (entry_at log.text scan.address)
  in_frame high = stands (rw h.begins (begins_low keeps log.begin log.regions.offsets.closed scan.address s.begun (not_closed high)))

  pub kept : IsTrue keeps → IsSome (entry_at log.text scan.address)
  kept k = stands (rw (h.begins, begins_kept keeps log.begin log.regions.offsets.closed k) s.begun)

-- a scan that stands at Begin
pub begins : {K V : Type 0} (keeps : Bool) (size : ℕ) (log : LogView K V) → IsLogOf keeps size log → (begin : ℕ) → begin ≡ log.begin → IsScanOf size log (record { address = begin; loaded = None })
begins keeps size log h begin is = rw is (record {
  begun = omega arith;
  place = mark-place log.bits size log.begin h.shape h.marked h.first;
  own = tt;
})

-- a receipt is held as that of its own page
pub own_page : (receipts : List (Option Standing)) (page : ℕ) (s : Standing) → IsHeldBy receipts page s → s.page ≡ page → IsHeldBy receipts s.page s
own_page receipts page s held is = subst (λ (n : ℕ). IsHeldBy receipts n s) (sym is) held

-- what holds of an answer holds of it further
pub if_ok : {T E : Type 0} (r : Result T E) {P Q : T → Type 0} → IfOk r P → ((x : T) → P x → Q x) → IfOk r Q
if_ok (Ok x) p f = f x p
if_ok (Err e) p f = tt
