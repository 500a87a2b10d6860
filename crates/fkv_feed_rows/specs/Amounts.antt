-- The amount that a field writes.
use Rattle.std.specs.Prelude.{◌&&◌, ◌^◌, ℕ, ℤ, pos, negsuc, Bool, List, length, Option, Some, None, nat_lt, if◌then◌else◌}
use Rattle.std.specs.Str.{all_ascii_digits}
use Rattle.std.specs.Str.Parse.{digits_value, signed_digits_value, without_leading_sign}

-- one digit or more and nothing else
abbrev pub is_numeral : List ℕ → Bool
is_numeral text = nat_lt 0 (length text) && all_ascii_digits text

-- the number that digits write
abbrev pub number_of : List ℕ → Option ℕ
number_of digits = if is_numeral digits then Some (digits_value 10 digits) else None

-- a number of 64 bits with a sign; negsuc n is -(n + 1)
abbrev pub fits_64 : ℤ → Bool
fits_64 (pos n) = nat_lt n (2 ^ 63)
fits_64 (negsuc n) = nat_lt n (2 ^ 63)

-- a sign or none, and digits, in 64 bits
unfoldable pub amount_of : List ℕ → Option ℤ
amount_of field =
    if is_numeral (without_leading_sign field) && fits_64 (signed_digits_value 10 field)
    then Some (signed_digits_value 10 field)
    else None
