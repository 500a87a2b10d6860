-- The text that pages spell, whatever holds their bytes.
use Rattle.std.specs.Prelude.{◌≡◌, ◌+◌, ◌^◌, ◌≤◌, ℕ, List, Option, Some, length, slice_get, slice_range}
use mathlib.Core.Equiv.{IsContr}
use Rattle.fkv_functions.specs.Codecs.{Codec}
use Rattle.fkv_records.specs.Places.{page_at, offset_at, IsRecordStart}
use Rattle.fkv_records.specs.Records.{size_of, IsRecord, Spells}
use Rattle.fkv_records.specs.declared.records.Record.{Record}
use Rattle.fkv_texts.specs.declared.entries.Entry.{Entry}
use Rattle.fkv_texts.specs.Places.{IsLaidOut}

-- the record of an entry
abbrev pub record_of : {K V : Type 0} → Entry K V → Record K V
record_of e = record { previous = e.previous; key = e.key; value = e.value; delta = e.delta }

-- the bytes of a record in its page, whose place there and size are these
abbrev pub part_of : List ℕ → ℕ → ℕ → List ℕ
part_of page offset size = slice_range page offset (offset + size)

-- the bytes at an entry's address are those of its record
pub record IsSpelled {K V : Type 0} {ksize vsize : ℕ} (key : Codec K ksize) (value : Codec V vsize) (bits : ℕ)
    (pages : ℕ → Option (List ℕ)) (e : Entry K V) : Type 0 where
  pub page : List ℕ
  pub here : pages (page_at bits e.address) ≡ Some page
  pub sound : IsRecord key value e.address (record_of e)
  pub spells :
      Spells key value (part_of page (offset_at bits e.address) (size_of ksize vsize)) (record_of e)

-- the text has an entry at each place from an address to below the tail, and the pages spell each
pub record IsTextOf {K V : Type 0} {ksize vsize : ℕ} (key : Codec K ksize) (value : Codec V vsize) (bits : ℕ)
    (pages : ℕ → Option (List ℕ)) (from tail : ℕ) (text : List (Entry K V)) : Type 0 where
  pub laid_out : IsLaidOut bits (size_of ksize vsize) from tail text
  pub spelled : (i : ℕ) (e : Entry K V)
      → slice_get text i ≡ Some e
      → IsSpelled key value bits pages e

-- the one value of which something holds
abbrev pub TheOne : {A : Type 0} → (A → Type 0) → Type 0
TheOne {A} P = IsContr ((a : A) × ∥ P a ∥₁)

-- these are the bytes of a page: they spell the text's entries there
pub record IsPageOf {K V : Type 0} {ksize vsize : ℕ} (key : Codec K ksize) (value : Codec V vsize) (bits page : ℕ)
    (text : List (Entry K V)) (bytes : List ℕ) : Type 0 where
  pub sized : length bytes ≡ 2 ^ bits
  pub spells : (i : ℕ) (e : Entry K V)
      → slice_get text i ≡ Some e
      → page_at bits e.address ≡ page
      → Spells key value (part_of bytes (offset_at bits e.address) (size_of ksize vsize)) (record_of e)

-- the bytes of a page spell this entry at an address
pub record IsEntryIn {K V : Type 0} {ksize vsize : ℕ} (key : Codec K ksize) (value : Codec V vsize) (bits : ℕ)
    (bytes : List ℕ) (address : ℕ) (e : Entry K V) : Type 0 where
  pub stands : e.address ≡ address
  pub place : IsRecordStart bits (size_of ksize vsize) address
  pub sound : IsRecord key value address (record_of e)
  pub spells :
      Spells key value (part_of bytes (offset_at bits address) (size_of ksize vsize)) (record_of e)

-- these bytes are those of the record of an entry at an address
pub record IsIn {K V : Type 0} {ksize vsize : ℕ} (key : Codec K ksize) (value : Codec V vsize) (address : ℕ)
    (bytes : List ℕ) (e : Entry K V) : Type 0 where
  pub stands : e.address ≡ address
  pub first : 64 ≤ address
  pub sound : IsRecord key value address (record_of e)
  pub spells : Spells key value bytes (record_of e)
