-- How much memory a store may take, and the numbers that follow from it.
use Rattle.std.specs.Prelude.{◌+◌, ◌-◌, ◌*◌, ◌/◌, ◌^◌, ◌==◌, ◌&&◌, ℕ, Bool, true, false, List, [], ◌∷◌, length, take, drop, Option, Some, None, min, max, nat_lt, not, if◌then◌else◌}
use Rattle.std.specs.Char.{is_ascii_digit, to_ascii_uppercase}
use Rattle.std.specs.List.{position_or_len}
use Rattle.std.specs.Int.{w64, leading_zeros}
use Rattle.fkv_feed_rows.specs.Amounts.{number_of}

-- what a letter stands for: K, M, G and T
abbrev pub power_of : ℕ → Option ℕ
power_of letter =
    if letter == 75 then Some (2 ^ 10)
    else if letter == 77 then Some (2 ^ 20)
    else if letter == 71 then Some (2 ^ 30)
    else if letter == 84 then Some (2 ^ 40)
    else None

-- what may stand behind a unit's letter: nothing, B or iB, in either case
abbrev pub is_bytes : List ℕ → Bool
is_bytes [] = true
is_bytes (b ∷ []) = to_ascii_uppercase b == 66
is_bytes (i ∷ b ∷ []) = (to_ascii_uppercase i == 73) && (to_ascii_uppercase b == 66)
is_bytes (x ∷ y ∷ z ∷ more) = false

-- the unit that a text names, if it names one: all are powers of 1024
abbrev pub unit_of : List ℕ → Option ℕ
unit_of [] = None
unit_of (letter ∷ rest) = if is_bytes rest then power_of (to_ascii_uppercase letter) else None

-- how many digits stand at the front
abbrev pub digits_in : List ℕ → ℕ
digits_in text = position_or_len (λ byte. not (is_ascii_digit byte)) text

-- one to eighteen digits, times a unit, where that is below 2^64
abbrev pub product : Option ℕ → ℕ → Option ℕ
product None unit = None
product (Some number) unit = if nat_lt (number * unit) (2 ^ 64) then Some (number * unit) else None

abbrev pub scaled : List ℕ → Option ℕ → Option ℕ
scaled digits None = None
scaled digits (Some unit) = if nat_lt 18 (length digits) then None else product (number_of digits) unit

-- the number of bytes that a text names: digits with a unit behind them
unfoldable pub size_of : List ℕ → Option ℕ
size_of text = scaled (take (digits_in text) text) (unit_of (drop (digits_in text) text))

-- the greatest number of bits, up to so many, whose power of two is at most n; 0 where there is none
abbrev pub bits_within : ℕ → ℕ → ℕ
bits_within n most = min (63 - leading_zeros w64 n) most

-- so many partitions that each has 256 KiB at least, and at most 2^6: pages are the smaller the more there are
abbrev pub partition_bits_in : ℕ → ℕ
partition_bits_in memory = bits_within (memory / 2 ^ 18) 6

-- what each partition may take of the memory; there are at most 2^6
abbrev pub share_of : ℕ → ℕ → ℕ
share_of memory partition_bits = memory / 2 ^ min partition_bits 6

-- buckets of 64 bytes, in a quarter of the share
abbrev pub bucket_bits_in : ℕ → ℕ
bucket_bits_in share = bits_within (share / 256) 20

-- pages of 2^8 to 2^20 bytes, so small that their frames are some hundreds, or some tens where rows are made merges, which read no page
abbrev pub page_bits_in : ℕ → Bool → ℕ
page_bits_in share merge = 8 + bits_within (share / (if merge then 2 ^ 13 else 2 ^ 17)) 12

-- frames in what the buckets leave of seven eighths of the share, from 2 to 1024; there are at most 2^20 buckets, and a page has at most
-- 2^20 bytes
abbrev pub frames_in : ℕ → ℕ → ℕ → ℕ
frames_in bucket_bits page_bits share =
    max (min ((share - share / 8 - 64 * 2 ^ min bucket_bits 20) / 2 ^ min page_bits 20) 1024) 2
