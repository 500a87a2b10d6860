-- What a field writes, by how the standard library parses it.
use Rattle.std.proofs.Common.{◌≡◌, ◌<◌, ◌∷◌, [], ℕ, ℤ, List, Bool, Result, Ok, Err, None, Some, true, false, cond, refl, ap, arith, drop, length, get_or, zero, suc, ltb, lit<}
use Rattle.std.specs.Prelude.{◌==◌, ◌&&◌, ◌^◌, IsUtf8, MatchResult, pos, negsuc, FitsSigned}
use Rattle.std.proofs.lemmas.Bool.Decides.{nat_tests, Decides-and, Decides-like, Decides-ltb}
use Rattle.std.specs.Bool.{Decides}
use Rattle.std.proofs.lemmas.Option.{cond_some}
use Rattle.std.specs.Int.{w64}
use Rattle.std.specs.Str.{all_ascii_digits}
use Rattle.std.specs.Str.Parse.{digits_value, signed_digits_value, AllDigits, IsNumeral, ParsesSigned, without_leading_sign}
use Rattle.std.specs.Result.{OkIff}
use Rattle.std.proofs.lemmas.Str.{IsUtf8-from_ascii, IsUtf8-append, IsUtf8-nil}
use Rattle.std.proofs.lemmas.Str.Parse.{IsNumeralModel, numerals_by_value, tells_all_ascii_digits}
use Rattle.std.proofs.lemmas.Fmt.{IsAscii-from_digits}
use Rattle.fkv_feed_rows.specs.Amounts.{is_numeral, amount_of, fits_64}

own : IsNumeralModel (λ ds. all_ascii_digits ds ≡ true) (digits_value 10)
own = numerals_by_value (λ ds. all_ascii_digits ds ≡ true) tells_all_ascii_digits

pub numeral_decides : (w : List ℕ) → Decides (is_numeral w) (IsNumeral 10 w)
numeral_decides w = Decides-like (is_numeral w) (λ p. (p.0, own.to w p.1)) (λ p. (p.0, own.from w p.1)) (Decides-and (ltb 0 (length w)) (all_ascii_digits w) (Decides-ltb 0 (length w)) (λ e. e, λ e. e))

pub fits_decides : (z : ℤ) → Decides (fits_64 z) (FitsSigned w64 z)
fits_decides (pos n) = Decides-like (ltb n (2 ^ 63)) (λ h. record { sfits = h }) (λ h. h.sfits) (Decides-ltb n (2 ^ 63))
fits_decides (negsuc n) = Decides-like (ltb n (2 ^ 63)) (λ h. record { sfits = h }) (λ h. h.sfits) (Decides-ltb n (2 ^ 63))

-- a value exactly where a test holds
pick : {A E P : Type 0} (b : Bool) (x : A) → Decides b P → (r : Result A E) → OkIff r P x → MatchResult r (λ y. Some y ≡ cond b (Some x) None) (λ _. None ≡ cond b (Some x) None)
pick true x d (Ok y) h = ap Some h.1
pick true x d (Err e) h = absurd (h (d.0 refl))
pick false x d (Ok y) h = let bad : false ≡ true = d.1 h.0 in cc
pick false x d (Err e) h = refl

none : {A P : Type 0} (b t : Bool) (x : A) → Decides b P → (P → ⊥) → None ≡ cond (b && t) (Some x) None
none true t x d n = absurd (n (d.0 refl))
none false t x d n = refl

pub amount_read : {E : Type 0} (w : List ℕ) (r : Result ℤ E) → ParsesSigned w64 10 w r → MatchResult r (λ n. Some n ≡ amount_of w) (λ _. None ≡ amount_of w)
unfolding amount_of
amount_read w r h =
    let ds = without_leading_sign w in
    let z = signed_digits_value 10 w in
    pick (is_numeral ds && fits_64 z) z (Decides-and (is_numeral ds) (fits_64 z) (numeral_decides ds) (fits_decides z)) r h

one_byte : (b : ℕ) → b < 128 → IsUtf8 (b ∷ [])
one_byte b h = IsUtf8-from_ascii (b ∷ []) (λ i. by i)
  where
    by : (i : ℕ) → get_or (b ∷ []) i 0 < 128
    by zero = h
    by (suc i) = lit< tt

utf8_signed : (w : List ℕ) → AllDigits 10 (without_leading_sign w) → IsUtf8 w
utf8_signed [] h = IsUtf8-nil
utf8_signed (b ∷ bs) h = by (b == 45) (b == 43) refl refl h
  where
    digits : (ds : List ℕ) → AllDigits 10 ds → IsUtf8 ds
    digits ds k = IsUtf8-from_ascii ds (IsAscii-from_digits ds k)

    by : (m p : Bool) → (b == 45) ≡ m → (b == 43) ≡ p → AllDigits 10 (cond m (drop 1 (b ∷ bs)) (drop (cond p 1 0) (b ∷ bs))) → IsUtf8 (b ∷ bs)
    by true p e f k = IsUtf8-append (b ∷ []) bs (one_byte b (grind (arith, nat_tests))) (digits bs k)
    by false true e f k = IsUtf8-append (b ∷ []) bs (one_byte b (grind (arith, nat_tests))) (digits bs k)
    by false false e f k = digits (b ∷ bs) k

pub utf8_amount : (w : List ℕ) → (IsUtf8 w → ⊥) → None ≡ amount_of w
unfolding amount_of
utf8_amount w n = none (is_numeral (without_leading_sign w)) (fits_64 (signed_digits_value 10 w)) (signed_digits_value 10 w) (numeral_decides (without_leading_sign w)) (λ h. n (utf8_signed w h.1))

-- an amount is a number of 64 bits with a sign
both : (a b : Bool) → (a && b) ≡ true → b ≡ true
both true b e = e
both false b e = cc

pub amount_fits : (field : List ℕ) (z : ℤ) → amount_of field ≡ Some z → FitsSigned w64 z
unfolding amount_of
amount_fits field z e =
    let v = signed_digits_value 10 field in
    let found = cond_some (is_numeral (without_leading_sign field) && fits_64 v) v z e in
    let fits : FitsSigned w64 v = (fits_decides v).0 (both (is_numeral (without_leading_sign field)) (fits_64 v) found.0) in
    rw (← found.1) fits
