-- The latest inputs: how many a key had, and the last of them.
use Rattle.std.specs.Prelude.{◌≡◌, ◌==◌, if◌then◌else◌, ◌+◌, ◌%◌, ◌^◌, ◌<◌, ◌≤◌, ◌++◌, ◌∷◌, [], ℕ, ℤ, List, length, FitsSigned, Option, Some}
use Rattle.std.specs.Fmt.{decimal, signed_decimal}
use Rattle.std.proofs.Common.{arith}
use Rattle.std.specs.Int.{w64, to_le_bytes}
use Rattle.fkv_functions.specs.Integers.{signed_bytes}
use Rattle.fkv_functions.specs.Meanings.{Meanings, Parts}
use Rattle.fkv_example.specs.declared.latest_inputs.Latest.{Latest}

-- the numbers are within the ranges of their types
pub record IsLatest (s : Latest) : Type 0 where
  pub count : s.count < 2 ^ 64
  pub last : FitsSigned w64 s.last

-- these are its numbers, and each is there
pub record AreNumbersOf (s : Latest) (a : Option ℕ) (b : Option ℤ) : Type 0 where
  pub count : a ≡ Some s.count
  pub last : b ≡ Some s.last

-- sixteen bytes: the count, the last
abbrev pub latest_bytes : Latest → List ℕ
latest_bytes s = to_le_bytes w64 s.count ++ signed_bytes s.last

-- what the inputs of a key come to, of which one is the first: counts wrap at 2^64, and the inputs end with the last. So of 7, 12 and
-- -2 the count is 3, and the last -2
pub record IsLatestOf (s : Latest) (first : ℤ) (others : List ℤ) : Type 0 where
  pub count : s.count ≡ (1 + length others) % 2 ^ 64
  pub last : (before : List ℤ) × (first ∷ others ≡ before ++ s.last ∷ [])

-- what one input comes to
abbrev pub latest_of : ℤ → Latest
latest_of i = record { count = 1; last = i }

-- the same with one more input
abbrev pub with_input : Latest → ℤ → Latest
with_input s i = record { count = (s.count + 1) % 2 ^ 64; last = i }

-- what the functions mean
abbrev pub latest_inputs : {K : Type 0} → Meanings K Latest ℤ Latest
latest_inputs = record {
  first = λ k i. Some (latest_of i);
  next = λ k s i. Some (with_input s i);
  shown = λ k i s. s;
}

-- two of them, the inputs of the second after those of the first
abbrev pub with_later : Latest → Latest → Latest
with_later s t = record { count = (s.count + t.count) % 2 ^ 64; last = t.last }

-- the part that an input is: what it comes to alone
abbrev pub latest_parts : {K : Type 0} → Parts K Latest ℤ
latest_parts = record { delta = λ k i. latest_of i; joined = with_later }

-- the field at a place of a row: the count, the last
abbrev pub latest_field : Latest → ℕ → List ℕ
latest_field s place = if place == 0 then decimal s.count else signed_decimal s.last

pub latest_some : 1 ≤ 2
latest_some = omega arith
