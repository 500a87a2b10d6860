-- The laws of summaries: their bytes are forty, and tell them apart; inputs may come in any order.
use Rattle.std.specs.Prelude.{◌≡◌, ◌+◌, ◌%◌, ◌^◌, ◌<◌, ℕ, ℤ, List, length, take, drop, FitsSigned, cond, true, false, Option, Some, None, IfSome, int_lt}
use Rattle.std.specs.Option.{IsSomeAnd}
use Rattle.std.specs.Int.{w64, w128, to_le_bytes, cast_unsigned, int_wrapping_add, int_min, int_max}
use Rattle.std.proofs.Common.{arith, rules, refl, ap}
use Rattle.std.proofs.Math.Facts.{sfits_widen, sfits_to_z}
use Rattle.std.proofs.lemmas.Int.{ints, wraps}
use Rattle.fkv_functions.specs.Codecs.{Codec}
use Rattle.fkv_functions.specs.Integers.{signed_bytes, long_bytes, halves, word_readable, signed_readable, long_readable}
use Rattle.fkv_functions.specs.Meanings.{Merges, updated}
use Rattle.fkv_summaries.specs.declared.summaries.Summary.{Summary}
use Rattle.fkv_summaries.specs.Summaries.{IsSummary, summary_bytes, summary_of, with_input, with_later, summaries, summary_parts}

-- two summaries of the same numbers are one
pub same_numbers : (s t : Summary) → s.count ≡ t.count → s.sum ≡ t.sum → s.least ≡ t.least → s.greatest ≡ t.greatest → s ≡ t
same_numbers s t a b c d = λ i. record { count = a i; sum = b i; least = c i; greatest = d i }

pub summary_sized : (s : Summary) → length (summary_bytes s) ≡ 40
unfolding halves
summary_sized s = refl

pub summary_readable : (s t : Summary) → IsSummary s → IsSummary t → summary_bytes s ≡ summary_bytes t → s ≡ t
unfolding halves
summary_readable s t h k e =
    same_numbers s t
    (word_readable s.count t.count h.count k.count (ap (take 8) e))
    (long_readable s.sum t.sum h.sum k.sum (ap (λ b. take 16 (drop 8 b)) e))
    (signed_readable s.least t.least h.least k.least (ap (λ b. take 8 (drop 24 b)) e))
    (signed_readable s.greatest t.greatest h.greatest k.greatest (ap (drop 32) e))

-- how summaries are written
abbrev pub summary_codec : Codec Summary 40
summary_codec =
    record { is_known = IsSummary; bytes_of = summary_bytes; sized = λ s h. summary_sized s; readable = summary_readable }

-- where the bytes of a summary are these, its parts are theirs
pub record ArePartsOf (s : Summary) (bytes : List ℕ) : Type 0 where
  pub count : to_le_bytes w64 s.count ≡ take 8 bytes
  pub sum : long_bytes s.sum ≡ take 16 (drop 8 bytes)
  pub least : signed_bytes s.least ≡ take 8 (drop 16 (drop 8 bytes))
  pub greatest : signed_bytes s.greatest ≡ drop 8 (drop 16 (drop 8 bytes))

pub parts_of : (s : Summary) (bytes : List ℕ) → summary_bytes s ≡ bytes → ArePartsOf s bytes
unfolding halves
parts_of s bytes e = record {
  count = ap (take 8) e;
  sum = ap (λ b. take 16 (drop 8 b)) e;
  least = ap (λ b. take 8 (drop 16 (drop 8 b))) e;
  greatest = ap (λ b. drop 8 (drop 16 (drop 8 b))) e;
}

-- an update gives a summary, from none and from any
next_known : (s : Summary) (i : ℤ) → IsSummary s → FitsSigned w64 i → IsSummary (with_input s i)
next_known s i h k = record {
  count = omega arith;
  sum =
      let small : (cast_unsigned w128 s.sum + cast_unsigned w128 i) % 2 ^ 128 < 2 ^ 128 = omega arith in
      sfits_to_z {w = w128} (record { fits = small });
  least = elim (int_lt i s.least) as (λ b. FitsSigned w64 (cond b i s.least)) [ true ↦ k | false ↦ h.least ];
  greatest = elim (int_lt i s.greatest) as (λ b. FitsSigned w64 (cond b s.greatest i)) [ true ↦ h.greatest | false ↦ k ];
}

pub first_known : (i : ℤ) → FitsSigned w64 i → IsSummary (summary_of i)
first_known i h =
    record { count = omega arith; sum = sfits_widen {w = w64} {w' = w128} tt h; least = h; greatest = h }

pub accepted : {K : Type 0} (k : K) (i : ℤ) (held : Option Summary) → FitsSigned w64 i → IfSome held IsSummary
    → IsSomeAnd (updated (summaries {K = K}) k i held) IsSummary
accepted k i None h known = first_known i h
accepted k i (Some s) h known = next_known s i known h

-- updates are joins, and of three summaries the later two may be joined first
pub summaries_merge : {K : Type 0} → Merges (summaries {K = K}) summary_parts
summaries_merge = record { first = λ k i. refl; next = λ k s i. refl }

count_associative : (u v w : ℕ) → ((u + v) % 2 ^ 64 + w) % 2 ^ 64 ≡ (u + (v + w) % 2 ^ 64) % 2 ^ 64
count_associative u v w = omega arith

min_associative : (u v w : ℤ) → int_min (int_min u v) w ≡ int_min u (int_min v w)
min_associative u v w = grind (arith, ints)

max_associative : (u v w : ℤ) → int_max (int_max u v) w ≡ int_max u (int_max v w)
max_associative u v w = grind (arith, ints)

sum_associative : (u v w : ℤ)
    → int_wrapping_add w128 (int_wrapping_add w128 u v) w ≡ int_wrapping_add w128 u (int_wrapping_add w128 v w)
sum_associative u v w = search (rules, wraps)

pub summaries_associative : (s t u : Summary) → with_later (with_later s t) u ≡ with_later s (with_later t u)
summaries_associative s t u =
    same_numbers _ _
    (count_associative s.count t.count u.count)
    (sum_associative s.sum t.sum u.sum)
    (min_associative s.least t.least u.least)
    (max_associative s.greatest t.greatest u.greatest)

-- two inputs give the same summary in either order
min_from_none : (i j : ℤ) → int_min i j ≡ int_min j i
min_from_none i j = grind (arith, ints)

min_from_any : (v i j : ℤ) → int_min (int_min v i) j ≡ int_min (int_min v j) i
min_from_any v i j = grind (arith, ints)

max_from_none : (i j : ℤ) → int_max i j ≡ int_max j i
max_from_none i j = grind (arith, ints)

max_from_any : (v i j : ℤ) → int_max (int_max v i) j ≡ int_max (int_max v j) i
max_from_any v i j = grind (arith, ints)

sum_from_none : (i j : ℤ) → int_wrapping_add w128 i j ≡ int_wrapping_add w128 j i
sum_from_none i j = search (rules, wraps)

sum_from_any : (v i j : ℤ)
    → int_wrapping_add w128 (int_wrapping_add w128 v i) j ≡ int_wrapping_add w128 (int_wrapping_add w128 v j) i
sum_from_any v i j = search (rules, wraps)

pub either_order : {K : Type 0} (k : K) (i j : ℤ) (held : Option Summary)
    → updated (summaries {K = K}) k j (updated summaries k i held) ≡ updated summaries k i (updated summaries k j held)
either_order k i j None =
    ap Some (same_numbers _ _ refl (sum_from_none i j) (min_from_none i j) (max_from_none i j))
either_order k i j (Some s) =
    ap Some (same_numbers _ _ refl (sum_from_any s.sum i j) (min_from_any s.least i j) (max_from_any s.greatest i j))
