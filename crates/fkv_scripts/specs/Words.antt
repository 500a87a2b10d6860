-- The words of a line, and what a word can stand for.
use Rattle.std.specs.Prelude.{◌==◌, ◌&&◌, ◌||◌, ◌^◌, ℕ, ℤ, pos, negsuc, Bool, List, [], length, Option, Some, None, nat_lt, nat_le, if◌then◌else◌}
use Rattle.std.specs.List.{slice_split, list_all}
use Rattle.std.specs.Str.{all_ascii_digits}
use Rattle.std.specs.Str.Parse.{digits_value, signed_digits_value, without_leading_sign}
use denote.Ref.{Bor}

abbrev pub is_space : ℕ → Bool
is_space b = b == 32

-- the words of a line: each single space parts two, so two spaces have an empty word between them
abbrev pub words_of : List ℕ → List (List ℕ)
words_of line = slice_split is_space line

-- the words of what is left of a line, if anything is
abbrev pub words_left : Option (Bor (List ℕ)) → List (List ℕ)
words_left None = []
words_left (Some rest) = words_of rest.now

-- one digit or more and nothing else
abbrev pub is_numeral : List ℕ → Bool
is_numeral word = nat_lt 0 (length word) && all_ascii_digits word

-- the number that a word writes: digits alone, below 2^64
unfoldable pub number_of : List ℕ → Option ℕ
number_of word = if is_numeral word && nat_lt (digits_value 10 word) (2 ^ 64) then Some (digits_value 10 word) else None

-- a number of 64 bits with a sign; negsuc n is -(n + 1)
abbrev pub fits_64 : ℤ → Bool
fits_64 (pos n) = nat_lt n (2 ^ 63)
fits_64 (negsuc n) = nat_lt n (2 ^ 63)

-- the amount that a word writes: a sign or none, and digits, in 64 bits
unfoldable pub amount_of : List ℕ → Option ℤ
amount_of word =
    if is_numeral (without_leading_sign word) && fits_64 (signed_digits_value 10 word)
    then Some (signed_digits_value 10 word)
    else None

-- an ASCII letter, a digit, an underscore or a hyphen
abbrev pub is_key_byte : ℕ → Bool
is_key_byte b =
    (nat_le 97 b && nat_le b 122) || (nat_le 65 b && nat_le b 90) || (nat_le 48 b && nat_le b 57)
    || (b == 95) || (b == 45)

-- whether a word is a key: 1 to 31 of these bytes
abbrev pub is_key : List ℕ → Bool
is_key word = list_all is_key_byte word && nat_le 1 (length word) && nat_le (length word) 31
