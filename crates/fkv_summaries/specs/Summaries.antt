-- Summaries: how many inputs a key had, their sum, and the least and the greatest of them.
use Rattle.std.specs.Prelude.{◌≡◌, ◌==◌, if◌then◌else◌, ◌+◌, ◌%◌, ◌^◌, ◌<◌, ◌≤◌, ◌+ℤ◌, ◌≤ℤ◌, ◌++◌, ◌∷◌, [], ℕ, ℤ, List, length, fold, All, Contains, FitsSigned, Option, Some}
use Rattle.std.specs.Fmt.{decimal, signed_decimal}
use Rattle.std.proofs.Common.{arith}
use Rattle.std.specs.Int.{w64, w128, to_le_bytes, int_wrap, int_wrapping_add, int_min, int_max}
use Rattle.fkv_functions.specs.Integers.{signed_bytes, long_bytes}
use Rattle.fkv_functions.specs.Meanings.{Meanings, Parts}
use Rattle.fkv_summaries.specs.declared.summaries.Summary.{Summary}

-- the numbers are within the ranges of their types
pub record IsSummary (s : Summary) : Type 0 where
  pub count : s.count < 2 ^ 64
  pub sum : FitsSigned w128 s.sum
  pub least : FitsSigned w64 s.least
  pub greatest : FitsSigned w64 s.greatest

-- these are the numbers of a summary, and each is there
pub record AreNumbersOf (s : Summary) (a : Option ℕ) (b c d : Option ℤ) : Type 0 where
  pub count : a ≡ Some s.count
  pub sum : b ≡ Some s.sum
  pub least : c ≡ Some s.least
  pub greatest : d ≡ Some s.greatest

-- forty bytes: the count, the sum, the least, the greatest
abbrev pub summary_bytes : Summary → List ℕ
summary_bytes s = to_le_bytes w64 s.count ++ (long_bytes s.sum ++ (signed_bytes s.least ++ signed_bytes s.greatest))

-- what the inputs of a key come to, of which one is the first: counts wrap at 2^64, sums at 2^128. So of the inputs 7, 12 and -2
-- the summary is 3, 17, -2 and 12
pub record IsSummaryOf (s : Summary) (first : ℤ) (others : List ℤ) : Type 0 where
  pub count : s.count ≡ (1 + length others) % 2 ^ 64
  pub sum : s.sum ≡ int_wrap w128 (fold ◌+ℤ◌ first others)
  pub least : Contains (first ∷ others) s.least
  pub below : All (λ x. s.least ≤ℤ x) (first ∷ others)
  pub greatest : Contains (first ∷ others) s.greatest
  pub above : All (λ x. x ≤ℤ s.greatest) (first ∷ others)

-- the summary of one input
abbrev pub summary_of : ℤ → Summary
summary_of i = record { count = 1; sum = i; least = i; greatest = i }

-- the summary with one more input
abbrev pub with_input : Summary → ℤ → Summary
with_input s i = record {
  count = (s.count + 1) % 2 ^ 64;
  sum = int_wrapping_add w128 s.sum i;
  least = int_min s.least i;
  greatest = int_max s.greatest i;
}

-- what the functions of summaries mean
abbrev pub summaries : {K : Type 0} → Meanings K Summary ℤ Summary
summaries = record {
  first = λ k i. Some (summary_of i);
  next = λ k s i. Some (with_input s i);
  shown = λ k i s. s;
}

-- two summaries, the inputs of the second after those of the first
abbrev pub with_later : Summary → Summary → Summary
with_later s t = record {
  count = (s.count + t.count) % 2 ^ 64;
  sum = int_wrapping_add w128 s.sum t.sum;
  least = int_min s.least t.least;
  greatest = int_max s.greatest t.greatest;
}

-- the part of a summary that an input is: the summary of it alone
abbrev pub summary_parts : {K : Type 0} → Parts K Summary ℤ
summary_parts = record { delta = λ k i. summary_of i; joined = with_later }

-- the fields of a summary behind its key: the count, the sum, the least, the greatest
abbrev pub summary_fields : Summary → List (List ℕ)
summary_fields s = decimal s.count ∷ signed_decimal s.sum ∷ signed_decimal s.least ∷ signed_decimal s.greatest ∷ []

-- the field at a place
abbrev pub summary_field : Summary → ℕ → List ℕ
summary_field s place =
    if place == 0 then decimal s.count
    else if place == 1 then signed_decimal s.sum
    else if place == 2 then signed_decimal s.least
    else signed_decimal s.greatest

pub summary_some : 1 ≤ 4
summary_some = omega arith
