-- What a log keeps in frames and on a device.
use Rattle.std.specs.Prelude.{◌≡◌, ◌+◌, ◌-◌, ◌^◌, ◌<◌, ◌≤◌, ℕ, zero, suc, Bool, true, false, IsTrue, cond, List, [], ◌∷◌, ◌++◌}
use Rattle.std.specs.Prelude.{length, map, replicate, Option, Some, None, IsSome, nat_lt, option_map, unwrap_or}
use Rattle.fkv_functions.specs.Codecs.{Codec}
use Rattle.fkv_records.specs.Places.{page_at, offset_at, start_at, IsRecordStart}
use Rattle.fkv_records.specs.Records.{size_of, Spells}
use Rattle.fkv_records.specs.declared.records.Record.{Record}
use Rattle.fkv_records.specs.declared.shapes.Shape.{Shape}
use Rattle.fkv_device.specs.Standing.{Standing}
use Rattle.fkv_frames.specs.Ring.{Ring}
use Rattle.fkv_frames.specs.Held.{held, Opens, Writes}
use Rattle.fkv_texts.specs.declared.entries.Entry.{Entry}
use Rattle.fkv_hybrid.specs.Spelled.{part_of, IsTextOf}
use Rattle.fkv_regions.specs.RegionsView.{RegionsView}
use Rattle.fkv_regions.specs.Agree.{IsMark}
use Rattle.fkv_hybrid.specs.Views.{LogView, text_begin, receipt_at}

-- a page's bytes: below page `first` those that its receipt stands for, else those of its frame
abbrev pub page_in : ℕ → List (Option Standing) → Ring → ℕ → Option (List ℕ)
page_in first receipts ring n = cond (nat_lt n first) (option_map (λ s. s.bytes) (receipt_at receipts n)) (held ring n)

-- the bytes of so many pages from one on, each from its frame
abbrev pub pages_from : Ring → ℕ → ℕ → List (List ℕ)
pages_from ring n zero = []
pages_from ring n (suc k) = unwrap_or (held ring n) [] ∷ pages_from ring (n + 1) k

-- the receipts of all flushed pages, where those of so many pages were let go and these are held
abbrev pub receipts_from : ℕ → List Standing → List (Option Standing)
receipts_from gone rest = replicate gone None ++ map Some rest

-- what a log is seen as: the frozen pages that are not flushed wait
abbrev pub view_as : {K V : Type 0} → Bool → Shape → ℕ → RegionsView → ℕ → List (Option Standing) → Ring → List (Entry K V)
    → LogView K V
view_as keeps shape begin regions tail receipts ring text = record {
  bits = shape.page_bits;
  frames = length ring.slots;
  begin = begin;
  from = text_begin keeps begin regions.offsets.closed;
  tail = tail;
  regions = regions;
  receipts = receipts;
  waiting = pages_from ring (length receipts) (page_at shape.page_bits regions.offsets.safe_read_only - length receipts);
  text = text;
}

-- page `n` is in its frame
pub record IsOpen (bits : ℕ) (ring : Ring) (n : ℕ) : Type 0 where
  pub page : List ℕ
  pub here : held ring n ≡ Some page
  pub sized : length page ≡ 2 ^ bits

-- bytes are written into a page, which is opened before where it is new
pub data OpensAndWrites (is_new : Bool) (n offset : ℕ) (bytes : List ℕ) (old new : Ring) : Type 0 where
  there : is_new ≡ false → Writes n offset bytes old new → OpensAndWrites is_new n offset bytes old new
  made : (mid : Ring)
      → is_new ≡ true
      → Opens n old mid
      → Writes n offset bytes mid new
      → OpensAndWrites is_new n offset bytes old new

-- in the page that had these bytes, those at an address are others: those of a record that may be edited spell it with
-- this value
pub record IsEdited {K V : Type 0} {ksize vsize : ℕ} (key : Codec K ksize) (value : Codec V vsize)
    (may : Record K V → Type 0) (v : Option V) (bits address : ℕ) (old new : Ring) (page : List ℕ) : Type 0 where
  pub bytes : List ℕ
  pub sized : length bytes ≡ size_of ksize vsize
  pub written : Writes (page_at bits address) (offset_at bits address) bytes old new
  pub spells : (r : Record K V)
      → may r
      → Spells key value (part_of page (offset_at bits address) (size_of ksize vsize)) r
      → Spells key value bytes (record r { value = v })

-- the offsets rise, and are places
pub record IsOrdered (bits size begin closed frozen tail flushed : ℕ) : Type 0 where
  pub begin_frozen : begin ≤ frozen
  pub closed_frozen : closed ≤ frozen
  pub frozen_tail : frozen ≤ tail
  pub most : tail ≤ 2 ^ 48
  pub begin_place : begin < 2 ^ 48 → IsRecordStart bits size begin
  pub closed_place : closed < 2 ^ 48 → IsRecordStart bits size closed
  pub tail_place : tail < 2 ^ 48 → IsRecordStart bits size tail
  -- what is below Begin, or closed, is flushed, and what is flushed is frozen
  pub begin_flushed : page_at bits begin ≤ flushed
  pub flushed_low : page_at bits closed ≤ flushed
  pub flushed_high : start_at bits flushed ≤ frozen

-- each page that is begun and not closed is in its frame
pub record IsRinged (bits closed tail : ℕ) (ring : Ring) : Type 0 where
  pub bits_same : ring.bits ≡ bits
  pub there : (n : ℕ) → page_at bits closed ≤ n → start_at bits n < tail → IsOpen bits ring n
  pub room : (n : ℕ) → start_at bits n < tail → n < page_at bits closed + length ring.slots

-- each receipt is of its page, and where the device keeps, of the frame's bytes while the page is there; none is held of a
-- page below that of Begin, and one of each flushed page from there on
pub record IsFlushed (keeps : Bool) (bits begin closed : ℕ) (receipts : List (Option Standing)) (ring : Ring) : Type 0 where
  pub gone : (n : ℕ) → n < page_at bits begin → receipt_at receipts n ≡ None
  pub there : (n : ℕ) → page_at bits begin ≤ n → n < length receipts → IsSome (receipt_at receipts n)
  pub own : (n : ℕ) (s : Standing) → receipt_at receipts n ≡ Some s → s.page ≡ n
  pub sized : (n : ℕ) (s : Standing) → receipt_at receipts n ≡ Some s → s.length ≡ 2 ^ bits
  pub kept : IsTrue keeps
      → (n : ℕ) (s : Standing)
      → page_at bits closed ≤ n
      → receipt_at receipts n ≡ Some s
      → held ring n ≡ Some s.bytes

-- all that holds of the pages, where frames are closed below one address and entries frozen below another
pub record IsPages {K V : Type 0} {ksize vsize : ℕ} (key : Codec K ksize) (value : Codec V vsize) (keeps : Bool)
    (shape : Shape) (begin closed frozen tail : ℕ) (receipts : List (Option Standing)) (ring : Ring)
    (text : List (Entry K V)) : Type 0 where
  pub size : shape.record_size ≡ size_of ksize vsize
  pub spelled : IsTextOf key value shape.page_bits
      (page_in (page_at shape.page_bits closed) receipts ring) (text_begin keeps begin closed) tail text
  pub ordered : IsOrdered shape.page_bits shape.record_size begin closed frozen tail (length receipts)
  pub ringed : IsRinged shape.page_bits closed tail ring
  pub flushed : IsFlushed keeps shape.page_bits begin closed receipts ring

-- the regions are those of these pages: both count the same flushed pages, and lie within the same ends
pub record IsOfPages (bits begin tail flushed : ℕ) (regions : RegionsView) : Type 0 where
  pub bits_same : regions.bits ≡ bits
  pub count_same : regions.flushed ≡ flushed
  pub headed : begin ≤ regions.offsets.head
  pub begun : regions.offsets.read_only ≤ tail
  -- Begin is the first place, or starts a page
  pub marked : IsMark bits begin

-- all that holds at any time: entries are frozen below SafeReadOnly, and frames are closed below `closed`
pub record IsWhole {K V : Type 0} {ksize vsize : ℕ} (key : Codec K ksize) (value : Codec V vsize) (keeps : Bool)
    (shape : Shape) (begin : ℕ) (regions : RegionsView) (tail : ℕ) (receipts : List (Option Standing)) (ring : Ring)
    (text : List (Entry K V)) : Type 0 where
  pub pages : IsPages key value keeps shape begin regions.offsets.closed regions.offsets.safe_read_only tail receipts ring text
  pub agrees : IsOfPages shape.page_bits begin tail (length receipts) regions
