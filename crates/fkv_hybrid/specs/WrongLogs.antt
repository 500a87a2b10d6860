-- What the definitions refuse, on small logs: keys and values are numbers.
use Rattle.std.specs.Prelude.{◌≡◌, ℕ, Bool, List, [], ◌∷◌, Option, Some, None, true, false}
use Rattle.fkv_functions.specs.Integers.{word_codec}
use Rattle.fkv_functions.specs.declared.refusals.Refused.TheVariants.{NotDue, Stranger}
use Rattle.fkv_functions.specs.declared.refusals.What.TheVariants.{Page, Bytes}
use Rattle.fkv_records.specs.Records.{Spells}
use Rattle.fkv_device.specs.Standing.{Standing}
use Rattle.fkv_frames.specs.Ring.{Ring}
use Rattle.fkv_regions.specs.RegionsView.{RegionsView, fresh_regions}
use Rattle.fkv_texts.specs.WrongTexts.{entry}
use Rattle.fkv_hybrid.specs.Views.{LogView, text_begin, empty_log, with_entry, with_receipt, moved, truncated}
use Rattle.fkv_hybrid.specs.Spelled.{record_of, part_of, IsSpelled}
use Rattle.fkv_hybrid.specs.Pages.{page_in, pages_from}
use Rattle.fkv_hybrid.specs.Flushes.{difference, flush_refusal}

-- an appended entry is all that was handed in
abbrev pub AppendsItWhole : Type 0
AppendsItWhole = (p k : ℕ) (v : Option ℕ) (d : Bool)
    → with_entry 32 (empty_log 8 2) p k v d
    ≡ record {
      bits = 8;
      frames = 2;
      begin = 64;
      from = 64;
      tail = 96;
      regions = fresh_regions 8;
      receipts = [];
      waiting = [];
      text = record (entry 64 p k v) { delta = d } ∷ [];
    }

-- regions whose frames are closed below an address
abbrev pub closed_at : ℕ → RegionsView
closed_at a = record (fresh_regions 8) {
  offsets = record { closed = a; head = a; safe_read_only = a; read_only = a };
}

-- where frames are closed, the text begins there on a device that need not keep, and stays on one that keeps
abbrev pub ClosesFrames : Type 0
ClosesFrames = (p q : ℕ) (v w : Option ℕ)
    → ((moved false (with_entry 32 (with_entry 32 (empty_log 8 2) p 3 v false) q 4 w false) (closed_at 96) []).text
    ≡ entry 96 q 4 w ∷ [])
    × ((moved true (with_entry 32 (with_entry 32 (empty_log 8 2) p 3 v false) q 4 w false) (closed_at 96) []).text
    ≡ entry 64 p 3 v ∷ entry 96 q 4 w ∷ [])

-- a log of two entries, at 64 and at 96
abbrev pub two_entries : ℕ → ℕ → Option ℕ → Option ℕ → LogView ℕ ℕ
two_entries p q v w = with_entry 32 (with_entry 32 (empty_log 8 2) p 3 v false) q 4 w false

-- a log that is truncated begins there, and has the entries there and above alone, whether the device keeps or not
abbrev pub TruncatesBelow : Type 0
TruncatesBelow = (p q : ℕ) (v w : Option ℕ)
    → ((truncated false (two_entries p q v w) 96).begin ≡ 96)
    × ((truncated false (two_entries p q v w) 96).text ≡ entry 96 q 4 w ∷ [])
    × ((truncated true (two_entries p q v w) 96).begin ≡ 96)
    × ((truncated true (two_entries p q v w) 96).text ≡ entry 96 q 4 w ∷ [])

-- a receipt of a page, by its number and bytes
abbrev pub receipt : ℕ → List ℕ → Standing
receipt n bytes = record { number = n; page = n; length = 256; bytes = bytes; mark = [] }

-- an entry is spelled in the page of its address
abbrev pub SpelledInItsPage : Type 0
SpelledInItsPage = (a b : List ℕ) (p k : ℕ) (v : Option ℕ)
    → IsSpelled word_codec word_codec 8
    (page_in 1 (Some (receipt 0 a) ∷ []) (record { bits = 8; slots = (Some 2, a) ∷ (Some 1, b) ∷ [] })) (entry 288 p k v)
    → Spells word_codec word_codec (part_of b 32 24) (record_of (entry 288 p k v))

-- a page below the first is its receipt's, though its frame has another; a page above is its frame's, though it has a
-- receipt; and a page that is in no frame is nowhere
abbrev pub TakesPagesInTurn : Type 0
TakesPagesInTurn = (a b c d : List ℕ)
    → (ring : Ring)
    → ring ≡ record { bits = 8; slots = (Some 2, c) ∷ (Some 1, d) ∷ [] }
    → (page_in 1 (Some (receipt 0 a) ∷ Some (receipt 1 b) ∷ []) ring 0 ≡ Some a)
    × (page_in 1 (Some (receipt 0 a) ∷ Some (receipt 1 b) ∷ []) ring 1 ≡ Some d)
    × (page_in 1 (Some (receipt 0 a) ∷ Some (receipt 1 b) ∷ []) ring 2 ≡ Some c)
    × (page_in 0 (Some (receipt 0 a) ∷ Some (receipt 1 b) ∷ []) ring 0 ≡ None)
    × (pages_from ring 1 2 ≡ d ∷ c ∷ [])

-- the text begins at Begin where the device keeps, else where frames are closed
abbrev pub BeginsWhereKnown : Type 0
BeginsWhereKnown =
    (text_begin true 64 256 ≡ 64) × (text_begin false 64 256 ≡ 256) × (text_begin false 512 256 ≡ 512)

-- two pages differ by the first bytes that do, and before these by their lengths
abbrev pub DiffersFirst : Type 0
DiffersFirst =
    (difference (1 ∷ 2 ∷ 3 ∷ []) (1 ∷ 5 ∷ 6 ∷ []) ≡ Some (2, 5))
    × (difference (1 ∷ 2 ∷ []) (4 ∷ 2 ∷ 3 ∷ []) ≡ Some (2, 3))
    × (difference (1 ∷ 2 ∷ []) (1 ∷ 2 ∷ []) ≡ None)

-- the lowest page that is not flushed is taken in, where it waits, with its own bytes
abbrev pub RefusesInTurn : Type 0
RefusesInTurn = (log : LogView ℕ ℕ) (s : Standing)
    → log.receipts ≡ Some s ∷ []
    → log.waiting ≡ (1 ∷ 2 ∷ []) ∷ []
    → (flush_refusal log 0 (1 ∷ 2 ∷ []) ≡ Some (Stranger Page 1 0))
    × (flush_refusal log 1 (1 ∷ 3 ∷ []) ≡ Some (Stranger Bytes 2 3))
    × (flush_refusal log 1 (1 ∷ 2 ∷ []) ≡ None)
    × (flush_refusal (with_receipt log s) 2 (1 ∷ 2 ∷ []) ≡ Some NotDue)
