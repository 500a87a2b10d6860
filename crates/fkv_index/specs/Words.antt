-- The words of the index: bits 0 to 47 address, bits 48 to 62 tag, bit 63 tentative; 0 is an empty place.
use Rattle.std.specs.Prelude.{◌+◌, ◌*◌, ◌/◌, ◌%◌, ◌^◌, ◌==◌, ◌&&◌, nat_le, nat_lt, not, ℕ, Bool, if◌then◌else◌}
use Rattle.fkv_index.specs.declared.words.Word.{Word}

abbrev pub empty : Word
empty = record { bits = 0 }

-- the final entry of a tag with an address
unfoldable pub final_word : ℕ → ℕ → Word
final_word tag address = record { bits = tag * 2 ^ 48 + address }

-- the tentative entry of a tag, with the address that says "no record"
unfoldable pub tentative_word : ℕ → Word
tentative_word tag = record { bits = 2 ^ 63 + (tag * 2 ^ 48 + 1) }

unfoldable pub address_of : Word → ℕ
address_of w = w.bits % 2 ^ 48

unfoldable pub tag_of : Word → ℕ
tag_of w = w.bits / 2 ^ 48 % 2 ^ 15

unfoldable pub is_empty : Word → Bool
is_empty w = w.bits == 0

unfoldable pub is_tentative : Word → Bool
is_tentative w = nat_le (2 ^ 63) w.bits

unfoldable pub is_final : Word → Bool
is_final w = not (w.bits == 0) && nat_lt w.bits (2 ^ 63)

-- an entry of the tag, final or tentative
unfoldable pub is_entry_of : ℕ → Word → Bool
is_entry_of tag w = not (w.bits == 0) && (tag_of w == tag)

-- a final entry of the tag
unfoldable pub is_final_of : ℕ → Word → Bool
is_final_of tag w = is_final w && (tag_of w == tag)

-- a word after a sweep: final entries below `begin` are emptied
unfoldable pub swept : ℕ → Word → Word
swept begin w = if is_final w && nat_lt (address_of w) begin then empty else w
