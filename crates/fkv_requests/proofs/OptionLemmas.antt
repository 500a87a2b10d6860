-- Numbers of options, as the standard library parses them.
use Rattle.std.proofs.Common.{◌≡◌, ℕ, List, Bool, Result, Ok, Err, Some, true, false, cond, refl, length, ltb}
use Rattle.std.specs.Prelude.{◌&&◌, ◌^◌, ◌-◌, nat_lt, MatchResult}
use Rattle.std.proofs.lemmas.Bool.Decides.{Decides-and, Decides-like, Decides-ltb}
use Rattle.std.specs.Bool.{Decides}
use Rattle.std.specs.Str.{all_ascii_digits}
use Rattle.std.specs.Str.Parse.{digits_value, IsNumeral, ParsesUnsigned, without_leading_plus}
use Rattle.std.specs.Result.{OkIff}
use Rattle.std.proofs.lemmas.Str.Parse.{IsNumeralModel, numerals_by_value, tells_all_ascii_digits}
use Rattle.fkv_feed_rows.specs.Amounts.{is_numeral}
use Rattle.fkv_requests.specs.Requests.{number_of}

own : IsNumeralModel (λ ds. all_ascii_digits ds ≡ true) (digits_value 10)
own = numerals_by_value (λ ds. all_ascii_digits ds ≡ true) tells_all_ascii_digits

numeral_decides : (w : List ℕ) → Decides (is_numeral w) (IsNumeral 10 w)
numeral_decides w = Decides-like (is_numeral w) (λ p. (p.0, own.to w p.1)) (λ p. (p.0, own.from w p.1)) (Decides-and (ltb 0 (length w)) (all_ascii_digits w) (Decides-ltb 0 (length w)) (λ e. e, λ e. e))

-- a value exactly where a test holds, and else another
pick : {E P : Type 0} (b : Bool) (x most : ℕ) → Decides b P → (r : Result ℕ E) → OkIff r P x → MatchResult r (λ y. y ≡ cond b x most) (λ _. most ≡ cond b x most)
pick true x most d (Ok y) h = h.1
pick true x most d (Err e) h = absurd (h (d.0 refl))
pick false x most d (Ok y) h = let bad : false ≡ true = d.1 h.0 in cc
pick false x most d (Err e) h = refl

pub number_read : {E : Type 0} (w : List ℕ) (r : Result ℕ E) → ParsesUnsigned 64 10 w r → MatchResult r (λ n. n ≡ number_of (Some w)) (λ _. 2 ^ 64 - 1 ≡ number_of (Some w))
number_read w r h =
    let ds = without_leading_plus w in
    let z = digits_value 10 ds in
    pick (is_numeral ds && nat_lt z (2 ^ 64)) z (2 ^ 64 - 1) (Decides-and (is_numeral ds) (nat_lt z (2 ^ 64)) (numeral_decides ds) (Decides-ltb z (2 ^ 64))) r h
