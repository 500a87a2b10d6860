-- The four sets of functions that come with the store. Each shows the value itself.
use Rattle.std.specs.Prelude.{◌≡◌, ◌+◌, ◌%◌, ◌^◌, ◌<◌, ◌&&◌, ℕ, ℤ, pos, FitsSigned, cond, if◌then◌else◌, true, false, Option, Some, None, IfSome, int_lt, int_le}
use Rattle.std.specs.Option.{IsSomeAnd}
use Rattle.std.specs.Int.{w64, w128, int_wrapping_add, int_max, cast_unsigned}
use Rattle.std.proofs.Common.{arith, rules, refl, ap}
use Rattle.std.proofs.Math.Facts.{sfits_widen, sfits_to_z}
use Rattle.std.proofs.lemmas.Int.{ints, wraps}
use Rattle.fkv_functions.specs.Meanings.{Meanings, Parts, Merges, updated}

-- how often a key had an input, modulo 2^64
abbrev pub counts : {K : Type 0} → Meanings K ℕ ℤ ℕ
counts = record {
  first = λ k i. Some 1;
  next = λ k v i. Some ((v + 1) % 2 ^ 64);
  shown = λ k i v. v;
}

-- the sum of a key's inputs, modulo 2^128
abbrev pub sums : {K : Type 0} → Meanings K ℤ ℤ ℤ
sums = record {
  first = λ k i. Some i;
  next = λ k v i. Some (int_wrapping_add w128 v i);
  shown = λ k i v. v;
}

-- the greatest of a key's inputs
abbrev pub maxima : {K : Type 0} → Meanings K ℤ ℤ ℤ
maxima = record {
  first = λ k i. Some i;
  next = λ k v i. Some (int_max v i);
  shown = λ k i v. v;
}

-- a total that stays within the cap: from 0 to 1,000,000
abbrev pub within_cap : ℤ → Option ℤ
within_cap z = if int_le (pos 0) z && int_le z (pos 1000000) then Some z else None

-- the sum of a key's inputs, where an update whose result would leave the cap is declined
abbrev pub capped_sums : {K : Type 0} → Meanings K ℤ ℤ ℤ
capped_sums = record {
  first = λ k i. within_cap i;
  next = λ k v i. within_cap (int_wrapping_add w128 v i);
  shown = λ k i v. v;
}

-- counts are joined by their sum, modulo 2^64, and an input is a part of 1
abbrev pub count_parts : {K : Type 0} → Parts K ℕ ℤ
count_parts = record { delta = λ k i. 1; joined = λ v w. (v + w) % 2 ^ 64 }

-- sums are joined by their sum, modulo 2^128, and an input is the part
abbrev pub sum_parts : {K : Type 0} → Parts K ℤ ℤ
sum_parts = record { delta = λ k i. i; joined = λ v w. int_wrapping_add w128 v w }

-- maxima are joined by the greater, and an input is the part
abbrev pub max_parts : {K : Type 0} → Parts K ℤ ℤ
max_parts = record { delta = λ k i. i; joined = λ v w. int_max v w }

-- a count's laws
pub count_merges : {K : Type 0} → Merges (counts {K = K}) count_parts
count_merges = record { first = λ k i. refl; next = λ k v i. refl }

pub count_associative : (u v w : ℕ) → ((u + v) % 2 ^ 64 + w) % 2 ^ 64 ≡ (u + (v + w) % 2 ^ 64) % 2 ^ 64
count_associative u v w = omega arith

pub count_accepted : {K : Type 0} (k : K) (i : ℤ) (held : Option ℕ) → IsSomeAnd (updated (counts {K = K}) k i held) (λ n. n < 2 ^ 64)
count_accepted k i None = omega arith
count_accepted k i (Some v) = omega arith

pub count_either_order : {K : Type 0} (k : K) (i j : ℤ) (held : Option ℕ)
    → updated (counts {K = K}) k j (updated counts k i held) ≡ updated counts k i (updated counts k j held)
count_either_order k i j None = refl
count_either_order k i j (Some v) = refl

-- a sum's laws
sum_first_known : (i : ℤ) → FitsSigned w64 i → FitsSigned w128 i
sum_first_known i h = sfits_widen {w = w64} {w' = w128} tt h

sum_next_known : (v i : ℤ) → FitsSigned w128 (int_wrapping_add w128 v i)
sum_next_known v i =
    let small : (cast_unsigned w128 v + cast_unsigned w128 i) % 2 ^ 128 < 2 ^ 128 = omega arith in
    sfits_to_z {w = w128} (record { fits = small })

pub sum_merges : {K : Type 0} → Merges (sums {K = K}) sum_parts
sum_merges = record { first = λ k i. refl; next = λ k v i. refl }

pub sum_associative : (u v w : ℤ)
    → int_wrapping_add w128 (int_wrapping_add w128 u v) w ≡ int_wrapping_add w128 u (int_wrapping_add w128 v w)
sum_associative u v w = search (rules, wraps)

sum_from_none : (i j : ℤ) → int_wrapping_add w128 i j ≡ int_wrapping_add w128 j i
sum_from_none i j = search (rules, wraps)

sum_from_any : (v i j : ℤ)
    → int_wrapping_add w128 (int_wrapping_add w128 v i) j ≡ int_wrapping_add w128 (int_wrapping_add w128 v j) i
sum_from_any v i j = search (rules, wraps)

pub sum_accepted : {K : Type 0} (k : K) (i : ℤ) (held : Option ℤ) → FitsSigned w64 i
    → IsSomeAnd (updated (sums {K = K}) k i held) (FitsSigned w128)
sum_accepted k i None h = sum_first_known i h
sum_accepted k i (Some v) h = sum_next_known v i

pub sum_either_order : {K : Type 0} (k : K) (i j : ℤ) (held : Option ℤ)
    → updated (sums {K = K}) k j (updated sums k i held) ≡ updated sums k i (updated sums k j held)
sum_either_order k i j None = ap Some (sum_from_none i j)
sum_either_order k i j (Some v) = ap Some (sum_from_any v i j)

-- a maximum's laws
max_next_known : (v i : ℤ) → FitsSigned w64 v → FitsSigned w64 i → FitsSigned w64 (int_max v i)
max_next_known v i h k = elim (int_lt i v) as (λ b. FitsSigned w64 (cond b v i)) [ true ↦ h | false ↦ k ]

pub max_merges : {K : Type 0} → Merges (maxima {K = K}) max_parts
max_merges = record { first = λ k i. refl; next = λ k v i. refl }

pub max_associative : (u v w : ℤ) → int_max (int_max u v) w ≡ int_max u (int_max v w)
max_associative u v w = grind (arith, ints)

max_from_none : (i j : ℤ) → int_max i j ≡ int_max j i
max_from_none i j = grind (arith, ints)

max_from_any : (v i j : ℤ) → int_max (int_max v i) j ≡ int_max (int_max v j) i
max_from_any v i j = grind (arith, ints)

pub max_accepted : {K : Type 0} (k : K) (i : ℤ) (held : Option ℤ) → FitsSigned w64 i → IfSome held (FitsSigned w64)
    → IsSomeAnd (updated (maxima {K = K}) k i held) (FitsSigned w64)
max_accepted k i None h known = h
max_accepted k i (Some v) h known = max_next_known v i known h

pub max_either_order : {K : Type 0} (k : K) (i j : ℤ) (held : Option ℤ)
    → updated (maxima {K = K}) k j (updated maxima k i held) ≡ updated maxima k i (updated maxima k j held)
max_either_order k i j None = ap Some (max_from_none i j)
max_either_order k i j (Some v) = ap Some (max_from_any v i j)
