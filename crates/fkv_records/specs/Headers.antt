-- Headers: the first eight bytes of a record, a word with the lowest byte first.
use Rattle.std.specs.Prelude.{◌≡◌, ◌+◌, ◌*◌, ◌^◌, ◌<◌, ℕ, Bool, List, if◌then◌else◌}
use Rattle.std.specs.Int.{w64, to_le_bytes}
use Rattle.fkv_records.specs.declared.fields.Header.{Header}

-- bits 0 to 47 are the previous address, bit 48 says tombstone, bit 49 delta, bit 50 is 1 and all above are 0
abbrev pub header_word : ℕ → Bool → Bool → ℕ
header_word previous tombstone delta =
    previous + (4 + 2 * (if delta then 1 else 0) + (if tombstone then 1 else 0)) * 2 ^ 48

-- a number as eight bytes, the lowest first
unfoldable pub word_bytes : ℕ → List ℕ
word_bytes n = to_le_bytes w64 n

-- the eight bytes of a header
abbrev pub header_bytes : ℕ → Bool → Bool → List ℕ
header_bytes previous tombstone delta = word_bytes (header_word previous tombstone delta)

-- the bytes are those of this header
pub record IsSpelledBy (bytes : List ℕ) (h : Header) : Type 0 where
  pub fits : h.previous < 2 ^ 48
  pub same : bytes ≡ header_bytes h.previous h.is_tombstone h.is_delta
