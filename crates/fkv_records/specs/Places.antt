-- Pages and the places of records in them. A page has 2 ^ bits bytes, and a record has as many as its size says.
use Rattle.std.specs.Prelude.{◌≡◌, ◌+◌, ◌*◌, ◌/◌, ◌%◌, ◌^◌, ◌-◌, ◌<◌, ◌≤◌, ◌==◌, ℕ, Option, Some, None, nat_le}
use Rattle.std.specs.Prelude.{if◌then◌else◌}

-- the pages and sizes that there are: pages of 256 bytes to 1 MiB, records of 8 to 192 bytes, by eights
pub record IsShape (bits size : ℕ) : Type 0 where
  pub low : 8 ≤ bits
  pub high : bits ≤ 20
  pub some : 8 ≤ size
  pub most : size ≤ 192
  pub whole : size % 8 ≡ 0

-- the page of an address, and how far into the page it lies
abbrev pub page_at : ℕ → ℕ → ℕ
page_at bits address = address / 2 ^ bits

abbrev pub offset_at : ℕ → ℕ → ℕ
offset_at bits address = address % 2 ^ bits

-- where a page starts
abbrev pub start_at : ℕ → ℕ → ℕ
start_at bits page = page * 2 ^ bits

-- where the page of an address ends
abbrev pub end_at : ℕ → ℕ → ℕ
end_at bits address = start_at bits (page_at bits address + 1)

-- behind the record at an address: right after it where its page has room for one more, else at the start of the
-- next page
abbrev pub behind : ℕ → ℕ → ℕ → ℕ
behind bits size address =
    if nat_le (address + 2 * size) (end_at bits address) then address + size else end_at bits address

-- the next place, where a record there ends at or below 2^48
abbrev pub place_after : ℕ → ℕ → ℕ → Option ℕ
place_after bits size address =
    if nat_le (behind bits size address + size) (2 ^ 48) then Some (behind bits size address) else None

-- how far into a page its first record stands
abbrev pub first_offset : ℕ → ℕ
first_offset page = if page == 0 then 64 else 0

-- an address that a whole number of records parts from the first of its page, with room for one in the page
pub record StandsInPage (bits size address : ℕ) : Type 0 where
  pub first : first_offset (page_at bits address) ≤ offset_at bits address
  pub room : offset_at bits address + size ≤ 2 ^ bits
  pub whole : (offset_at bits address - first_offset (page_at bits address)) % size ≡ 0
  pub below : address < 2 ^ 48

-- the places of a log: 64, and the next place of each
pub data IsRecordStart (bits size : ℕ) : ℕ → Type 0 where
  first : IsRecordStart bits size 64
  next : {a b : ℕ} → IsRecordStart bits size a → place_after bits size a ≡ Some b → IsRecordStart bits size b
