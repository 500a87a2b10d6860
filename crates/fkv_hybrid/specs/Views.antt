-- What a contract sees of a log.
use Rattle.std.specs.Prelude.{◌≡◌, ◌<◌, ◌≤◌, ◌+◌, ◌^◌, ℕ, zero, suc, Bool, cond, IsTrue, List, [], ◌∷◌, ◌++◌, drop, Option, Some, None, unwrap_or, slice_get, nat_le}
use Rattle.fkv_records.specs.Places.{page_at, offset_at, start_at}
use Rattle.fkv_device.specs.Standing.{Standing}
use Rattle.fkv_texts.specs.declared.entries.Entry.{Entry}
use Rattle.fkv_texts.specs.Places.{tail_after}
use Rattle.fkv_texts.specs.Text.{entry_at, changed, text_from}
use Rattle.fkv_regions.specs.RegionsView.{RegionsView, fresh_regions, with_flushed}

-- A log of pages of 2 ^ bits bytes, in so many frames and on a device. Its text has an entry at each place from `from`
-- to below `tail`; `begin` is where entries that are not dropped begin. `regions` has the offsets and what each session
-- has seen of them. `receipts` has for each flushed page what its receipt stands for, and none for a page below that of
-- Begin, whose receipt was let go. `waiting` has the bytes of the frozen pages that are not flushed, lowest page first.
pub record LogView (K V : Type 0) : Type 0 where
  pub bits : ℕ
  pub frames : ℕ
  pub begin : ℕ
  pub from : ℕ
  pub tail : ℕ
  pub regions : RegionsView
  pub receipts : List (Option Standing)
  pub waiting : List (List ℕ)
  pub text : List (Entry K V)

-- where the text begins: at Begin where the device keeps, else no lower than what is closed, since then nothing is
-- known of the pages that may have left their frames
abbrev pub text_begin : Bool → ℕ → ℕ → ℕ
text_begin keeps begin closed = cond keeps begin (cond (nat_le begin closed) closed begin)

-- what the receipt of a page stands for, if it is held
abbrev pub receipt_at : List (Option Standing) → ℕ → Option Standing
receipt_at receipts page = unwrap_or (slice_get receipts page) None

-- of so many pages from page 0 on the receipts are let go
abbrev pub let_go : ℕ → List (Option Standing) → List (Option Standing)
let_go zero receipts = receipts
let_go (suc n) [] = []
let_go (suc n) (r ∷ receipts) = None ∷ let_go n receipts

-- a log of no records and no sessions
abbrev pub empty_log : {K V : Type 0} → ℕ → ℕ → LogView K V
empty_log bits frames = record {
  bits = bits;
  frames = frames;
  begin = 64;
  from = 64;
  tail = 64;
  regions = fresh_regions bits;
  receipts = [];
  waiting = [];
  text = [];
}

-- no room: the next record needs a page whose frame is still in use
pub record IsFull {K V : Type 0} (log : LogView K V) : Type 0 where
  pub more : log.tail < 2 ^ 48
  pub begins : offset_at log.bits log.tail ≡ 0
  pub taken : page_at log.bits log.regions.offsets.closed + log.frames ≤ page_at log.bits log.tail

-- the log with one more entry, at the tail
abbrev pub with_entry : {K V : Type 0} → ℕ → LogView K V → ℕ → K → Option V → Bool → LogView K V
with_entry size log previous key value delta = record log {
  text = log.text ++ record { address = log.tail; previous = previous; key = key; value = value; delta = delta } ∷ [];
  tail = tail_after log.bits size log.tail;
}

-- the log whose entry at an address has this value, or is a tombstone
abbrev pub with_value : {K V : Type 0} → LogView K V → ℕ → Option V → LogView K V
with_value log a v = record log { text = changed log.text a v }

-- the log with these regions
abbrev pub with_regions : {K V : Type 0} → LogView K V → RegionsView → LogView K V
with_regions log regions = record log { regions = regions }

-- the log whose lowest waiting page is flushed, by this receipt
abbrev pub with_receipt : {K V : Type 0} → LogView K V → Standing → LogView K V
with_receipt log s = record log {
  receipts = log.receipts ++ Some s ∷ [];
  waiting = drop 1 log.waiting;
  regions = with_flushed log.regions (log.regions.flushed + 1);
}

-- the log with these regions, by which more may be frozen and closed: more pages may wait to be flushed, and the text
-- begins no lower than where frames are closed, unless the device keeps
abbrev pub moved : {K V : Type 0} → Bool → LogView K V → RegionsView → List (List ℕ) → LogView K V
moved keeps log regions more = record log {
  regions = regions;
  from = text_begin keeps log.begin regions.offsets.closed;
  waiting = log.waiting ++ more;
  text = text_from (text_begin keeps log.begin regions.offsets.closed) log.text;
}

-- the regions have become these, and the log followed; on a device that keeps, the text stays
pub record IsMoved {K V : Type 0} (keeps : Bool) (regions : RegionsView) (old new : LogView K V) : Type 0 where
  pub more : List (List ℕ)
  pub is : new ≡ moved keeps old regions more
  pub kept : IsTrue keeps → new.text ≡ old.text

-- when Begin may move to the start of a page: it rises, no higher than Head
pub record IsTruncationDue {K V : Type 0} (log : LogView K V) (page : ℕ) : Type 0 where
  pub higher : log.begin < start_at log.bits page
  pub headed : start_at log.bits page ≤ log.regions.offsets.head

-- the log whose entries below an address are dropped, and the receipts of the pages below its own let go
abbrev pub truncated : {K V : Type 0} → Bool → LogView K V → ℕ → LogView K V
truncated keeps log begin = record log {
  begin = begin;
  from = text_begin keeps begin log.regions.offsets.closed;
  receipts = let_go (page_at log.bits begin) log.receipts;
  text = text_from (text_begin keeps begin log.regions.offsets.closed) log.text;
}

-- what was frozen stays: the entries below what was the safe read-only offset, and where the text begins now or above
abbrev pub FrozenStay : {K V : Type 0} → LogView K V → LogView K V → Type 0
FrozenStay old new = (a : ℕ)
    → new.from ≤ a
    → a < old.regions.offsets.safe_read_only
    → entry_at new.text a ≡ entry_at old.text a
