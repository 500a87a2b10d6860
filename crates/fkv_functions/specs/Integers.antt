-- Whole numbers as bytes: little-endian, two's complement.
use Rattle.std.specs.Prelude.{◌≡◌, ◌+◌, ◌*◌, ◌/◌, ◌%◌, ◌^◌, ◌<◌, ◌++◌, ℕ, ℤ, List, length, take, drop}
use Rattle.std.specs.Prelude.{FitsSigned}
use Rattle.std.specs.Int.{w64, w128, to_le_bytes, from_le_bytes, cast_unsigned, cast_signed}
use Rattle.std.proofs.Common.{arith, refl, sym, ◌∙◌, ap}
use Rattle.std.proofs.lemmas.Nat.{from_le_bytes-to_le_bytes_8}
use Rattle.std.proofs.lemmas.Int.{to_z-of_z}
use Rattle.std.proofs.Math.Facts.{Fits-of_z}
use Rattle.fkv_functions.specs.Codecs.{Codec}

-- the eight bytes of a signed number
abbrev pub signed_bytes : ℤ → List ℕ
signed_bytes z = to_le_bytes w64 (cast_unsigned w64 z)

-- sixteen bytes, the lowest first
unfoldable pub halves : ℕ → List ℕ
halves n = to_le_bytes w64 (n % 2 ^ 64) ++ to_le_bytes w64 (n / 2 ^ 64)

-- the sixteen bytes of a signed number
abbrev pub long_bytes : ℤ → List ℕ
long_bytes z = halves (cast_unsigned w128 z)

pub word_readable : (a b : ℕ) → a < 2 ^ 64 → b < 2 ^ 64 → to_le_bytes w64 a ≡ to_le_bytes w64 b → a ≡ b
word_readable a b h k e =
    sym (from_le_bytes-to_le_bytes_8 a h) ∙ ap (from_le_bytes w64) e ∙ from_le_bytes-to_le_bytes_8 b k

pub signed_readable : (a b : ℤ) → FitsSigned w64 a → FitsSigned w64 b → signed_bytes a ≡ signed_bytes b → a ≡ b
signed_readable a b h k e =
    let words = word_readable (cast_unsigned w64 a) (cast_unsigned w64 b) ((Fits-of_z h).fits) ((Fits-of_z k).fits) e in
    sym (to_z-of_z w64 a h) ∙ ap (cast_signed w64) words ∙ to_z-of_z w64 b k

pub halves_sized : (n : ℕ) → length (halves n) ≡ 16
unfolding halves
halves_sized n = refl

pub halves_of : (low high : ℕ) → low < 2 ^ 64
    → halves (low + high * 2 ^ 64) ≡ to_le_bytes w64 low ++ to_le_bytes w64 high
unfolding halves
halves_of low high h =
    let a : (low + high * 2 ^ 64) % 2 ^ 64 ≡ low = omega arith in
    let b : (low + high * 2 ^ 64) / 2 ^ 64 ≡ high = omega arith in
    rw (a, b) refl

-- two words whose bytes are those of n make n
pub words_again : (n low high : ℕ) (bytes : List ℕ) → n < 2 ^ 128 → low < 2 ^ 64 → high < 2 ^ 64 → halves n ≡ bytes
    → to_le_bytes w64 low ≡ take 8 bytes → to_le_bytes w64 high ≡ drop 8 bytes → low + high * 2 ^ 64 ≡ n
unfolding halves
words_again n low high bytes fits h k e f g =
    let first : low ≡ n % 2 ^ 64 = word_readable low (n % 2 ^ 64) h (omega arith) (f ∙ ap (take 8) (sym e)) in
    let second : high ≡ n / 2 ^ 64 = word_readable high (n / 2 ^ 64) k (omega arith) (g ∙ ap (drop 8) (sym e)) in
    omega arith

halves_readable : (n m : ℕ) → n < 2 ^ 128 → m < 2 ^ 128 → halves n ≡ halves m → n ≡ m
unfolding halves
halves_readable n m h k e =
    let first : n % 2 ^ 64 ≡ m % 2 ^ 64 =
    word_readable (n % 2 ^ 64) (m % 2 ^ 64) (omega arith) (omega arith) (ap (take 8) e) in
    let second : n / 2 ^ 64 ≡ m / 2 ^ 64 =
    word_readable (n / 2 ^ 64) (m / 2 ^ 64) (omega arith) (omega arith) (ap (drop 8) e) in
    omega arith

pub long_readable : (a b : ℤ) → FitsSigned w128 a → FitsSigned w128 b → long_bytes a ≡ long_bytes b → a ≡ b
long_readable a b h k e =
    let words =
    halves_readable (cast_unsigned w128 a) (cast_unsigned w128 b) ((Fits-of_z h).fits) ((Fits-of_z k).fits) e in
    sym (to_z-of_z w128 a h) ∙ ap (cast_signed w128) words ∙ to_z-of_z w128 b k

-- numbers of 64 bits, signed ones of 64 and of 128
abbrev pub word_codec : Codec ℕ 8
word_codec =
    record { is_known = λ n. n < 2 ^ 64; bytes_of = to_le_bytes w64; sized = λ n h. refl; readable = word_readable }

abbrev pub signed_codec : Codec ℤ 8
signed_codec =
    record { is_known = FitsSigned w64; bytes_of = signed_bytes; sized = λ z h. refl; readable = signed_readable }

abbrev pub long_codec : Codec ℤ 16
long_codec = record {
  is_known = FitsSigned w128;
  bytes_of = long_bytes;
  sized = λ z h. halves_sized (cast_unsigned w128 z);
  readable = long_readable;
}
