-- Numbers of few digits, read digit by digit.
use Rattle.std.proofs.Common.{◌≡◌, ◌<◌, ◌≤◌, ◌+◌, ◌-◌, ◌*◌, ℕ, ℤ, List, Bool, None, Some, true, false, cond, refl, sym, ap, ap₂, subst, ◌∙◌, take, to_z, length, get_or, zero, suc, arith}
use Rattle.std.specs.Prelude.{◌&&◌, ◌^◌, pos, ◌-ℤ◌, neg_ℤ, FitsSigned}
use Rattle.std.proofs.Math.IntN.{+ℤ_idl}
use Rattle.std.specs.Int.{w64, IsInRange}
use Rattle.std.specs.Bool.{Decides}
use Rattle.std.specs.Str.Parse.{AllDigits, IsNumeral, digits_value, signed_digits_value, starts_with_minus, without_leading_sign}
use Rattle.std.proofs.lemmas.Int.{to_z_pos}
use Rattle.std.proofs.lemmas.Int.Digits.{digits_more, digits_value_more}
use Rattle.std.proofs.lemmas.List.{length-take-le, take_all}
use Rattle.std.proofs.lemmas.Str.{digit_value_digit}
use Rattle.std.proofs.lemmas.Str.Parse.{digit_at, digits_value_short, numerals_by_value, tells_digits}
use Rattle.fkv_feed_rows.specs.Amounts.{amount_of, fits_64, is_numeral, number_of}
use Rattle.fkv_feed_rows.proofs.AmountLemmas.{fits_decides, numeral_decides}

-- ---- digits
pub one_more : (ds : List ℕ) (i number : ℕ) → i < length ds → AllDigits 10 (take i ds) → number ≡ digits_value 10 (take i ds) → IsInRange 48 57 (get_or ds i 0)
    → AllDigits 10 (take (i + 1) ds) × (number * 10 + (get_or ds i 0 - 48) ≡ digits_value 10 (take (i + 1) ds))
one_more ds i number inside all is range =
    let digit = digit_value_digit (get_or ds i 0) range in
    (digits_more 10 ds i inside all (omega (arith, digit, range.1)), omega (arith, digit, is, digits_value_more 10 ds i inside))

value_short : (ds : List ℕ) (k : ℕ) → AllDigits 10 ds → length ds ≤ k → digits_value 10 ds < 10 ^ k
value_short ds k all few = digits_value_short (numerals_by_value (AllDigits 10) tells_digits) ds k all few

pub few_before : (ds : List ℕ) (i number : ℕ) → i < length ds → length ds ≤ 18 → AllDigits 10 (take i ds) → number ≡ digits_value 10 (take i ds) → number < 10 ^ 17
few_before ds i number inside few all is = omega (arith, is, value_short (take i ds) 17 all (omega (arith, length-take-le i ds (omega arith))))

-- ---- the number that digits write
none_of : {P : Type 0} (b : Bool) (x : ℕ) → Decides b P → (P → ⊥) → None ≡ cond b (Some x) None
none_of true x d n = absurd (n (d.0 refl))
none_of false x d n = refl

some_of : {P : Type 0} (b : Bool) (x y : ℕ) → Decides b P → P → y ≡ x → Some y ≡ cond b (Some x) None
some_of true x y d p e = ap Some e
some_of false x y d p e = let bad : false ≡ true = d.1 p in cc

pub no_number : (ds : List ℕ) (i : ℕ) → i < length ds → (IsInRange 48 57 (get_or ds i 0) → ⊥) → None ≡ number_of ds
no_number ds i inside other = none_of (is_numeral ds) (digits_value 10 ds) (numeral_decides ds) (λ h. other (digit_at ds i h.1 inside))

pub number_at_end : (ds : List ℕ) (i number : ℕ) → length ds ≤ i → 0 < length ds → AllDigits 10 (take i ds) → number ≡ digits_value 10 (take i ds) → Some number ≡ number_of ds
number_at_end ds i number end some all is =
    let whole = take_all i ds end in
    some_of (is_numeral ds) (digits_value 10 ds) number (numeral_decides ds) (some, subst (AllDigits 10) whole all) (is ∙ ap (digits_value 10) whole)

pub number_short : (ds : List ℕ) (n : ℕ) → length ds ≤ 18 → Some n ≡ number_of ds → n < 10 ^ 18
number_short ds n few e = by (is_numeral ds) (numeral_decides ds) e
  where
    by : (b : Bool) → Decides b (IsNumeral 10 ds) → Some n ≡ cond b (Some (digits_value 10 ds)) None → n < 10 ^ 18
    by true d f = let same : n ≡ digits_value 10 ds = cc in omega (arith, same, value_short ds 18 (d.0 refl).1 few)
    by false d f = absurd (cc)

-- ---- with a sign
pub negative_fits : (n : ℕ) → n < 10 ^ 18 → FitsSigned w64 (neg_ℤ (pos n))
negative_fits zero h = record { sfits = omega arith }
negative_fits (suc n) h = record { sfits = omega (arith, h) }

pub positive_fits : (n : ℕ) → n < 10 ^ 18 → FitsSigned w64 (pos n)
positive_fits n h = record { sfits = omega (arith, h) }

pub as_signed : (n : ℕ) → n < 10 ^ 18 → to_z w64 n ≡ pos n
as_signed n h = to_z_pos w64 n (omega (arith, h))

pub negated : (n : ℕ) → n < 10 ^ 18 → pos 0 -ℤ to_z w64 n ≡ neg_ℤ (pos n)
negated n h = ap (λ k. pos 0 -ℤ k) (as_signed n h) ∙ +ℤ_idl (neg_ℤ (pos n))

fits_with : (minus : Bool) (n : ℕ) → n < 10 ^ 18 → fits_64 (cond minus (neg_ℤ (pos n)) (pos n)) ≡ true
fits_with true n h = (fits_decides (neg_ℤ (pos n))).1 (negative_fits n h)
fits_with false n h = (fits_decides (pos n)).1 (positive_fits n h)

none_both : (b t : Bool) (x : ℕ) (z : ℤ) → None ≡ cond b (Some x) None → None ≡ cond (b && t) (Some z) None
none_both true t x z e = absurd (cc)
none_both false t x z e = refl

some_both : (b t : Bool) (x n : ℕ) (y z : ℤ) → Some n ≡ cond b (Some x) None → (n ≡ x → (t ≡ true) × (y ≡ z)) → Some y ≡ cond (b && t) (Some z) None
some_both true t x n y z e f = let same : n ≡ x = cc in let h = f same in rw (h.0, h.1) refl
some_both false t x n y z e f = absurd (cc)

pub no_amount : (field ds : List ℕ) → ds ≡ without_leading_sign field → None ≡ number_of ds → None ≡ amount_of field
unfolding amount_of
no_amount field ds rest e =
    let w = without_leading_sign field in
    none_both (is_numeral w) (fits_64 (signed_digits_value 10 field)) (digits_value 10 w) (signed_digits_value 10 field) (rw rest at e)

pub amount_with : (field ds : List ℕ) (minus : Bool) (n : ℕ) → minus ≡ starts_with_minus field → ds ≡ without_leading_sign field → length ds ≤ 18 → Some n ≡ number_of ds → Some (cond minus (neg_ℤ (pos n)) (pos n)) ≡ amount_of field
unfolding amount_of
amount_with field ds minus n sign rest few e =
    let w = without_leading_sign field in
    let small = number_short ds n few e in
    let found : Some n ≡ number_of w = rw rest at e in
    let value = λ (same : n ≡ digits_value 10 w). ap₂ (λ m k. cond m (neg_ℤ (pos k)) (pos k)) sign same in
    some_both (is_numeral w) (fits_64 (signed_digits_value 10 field)) (digits_value 10 w) n (cond minus (neg_ℤ (pos n)) (pos n)) (signed_digits_value 10 field) found
    (λ same. (ap fits_64 (sym (value same)) ∙ fits_with minus n small, value same))
