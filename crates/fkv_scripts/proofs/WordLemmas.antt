use Rattle.std.proofs.Common.{◌≡◌, ◌≢◌, ◌+◌, ◌-◌, ◌^◌, ◌<◌, ◌≤◌, ◌∷◌, [], ℕ, ℤ, List, Bool, Option, Result, Ok, Err, None, Some, true, false, cond, refl, ap, arith, rules, take, drop, length, get_or, zero, suc, ltb, lit<}
use Rattle.std.specs.Prelude.{◌==◌, ◌&&◌, nat_lt, IsUtf8, MatchResult, pos, negsuc, FitsSigned}
use Rattle.std.proofs.lemmas.Bool.Decides.{nat_tests, Decides-and, Decides-like, Decides-ltb}
use Rattle.std.specs.Bool.{Decides}
use Rattle.std.proofs.lemmas.Option.{cond_some}
use Rattle.std.proofs.lemmas.List.{take_all, length-drop}
use Rattle.std.proofs.lemmas.List.Splits.{slice_split_first}
use Rattle.std.specs.Int.{w64}
use Rattle.std.specs.List.{position, position_or_len, onto_first}
use Rattle.std.specs.Char.{digit_value}
use Rattle.std.specs.Str.{all_ascii_digits}
use Rattle.std.specs.Str.Parse.{digits_value, signed_digits_value, AllDigits, IsNumeral, ParsesUnsigned, ParsesSigned, without_leading_sign}
use Rattle.std.specs.Result.{OkIff}
use Rattle.std.proofs.lemmas.Str.{IsUtf8-from_ascii, IsUtf8-append, IsUtf8-nil}
use Rattle.std.proofs.lemmas.Str.Parse.{IsNumeralModel, numerals_by_value, tells_all_ascii_digits, without_leading_plus_none}
use Rattle.std.proofs.lemmas.Fmt.{IsAscii-from_digits}
use Rattle.std.specs.Prelude.{not, IsTrue, slice_index}
use Rattle.std.specs.Option.{is_some}
use denote.Ref.{Bor}
use Rattle.fkv_scripts.specs.Words.{is_space, words_of, words_left, is_numeral, number_of, amount_of, fits_64}

-- a line has a word
pub some_word : (xs : List ℕ) → words_of xs ≡ [] → ⊥
some_word [] e = cc
some_word (x ∷ xs) e = by (is_space x) (words_of xs) e
  where
    by : (b : Bool) (ws : List (List ℕ)) → cond b ([] ∷ ws) (onto_first x ws) ≡ [] → ⊥
    by true ws f = cc
    by false [] f = cc
    by false (w ∷ ws) f = cc

-- the first word ends at the first space
pub cut_at : (xs : List ℕ) (n : ℕ) → position is_space xs ≡ Some n → words_of xs ≡ take n xs ∷ words_of (take (length xs - (n + 1)) (drop (n + 1) xs))
cut_at xs n e =
    let found = cond_some (nat_lt (position_or_len is_space xs) (length xs)) (position_or_len is_space xs) n e in
    let below : position_or_len is_space xs < length xs = (Decides-ltb (position_or_len is_space xs) (length xs)).0 found.0 in
    let short : length (drop (n + 1) xs) ≤ length xs - (n + 1) = omega (arith, length-drop (n + 1) xs) in
    rw (take_all (length xs - (n + 1)) (drop (n + 1) xs) short) (rw (← found.1) (slice_split_first is_space xs 0 below))

-- a line with no space is one word
whole : (xs : List ℕ) → length xs ≤ position_or_len is_space xs → words_of xs ≡ xs ∷ []
whole [] h = refl
whole (x ∷ xs) h = by (is_space x) refl (whole xs)
  where
    by : (b : Bool) → is_space x ≡ b → (length xs ≤ position_or_len is_space xs → words_of xs ≡ xs ∷ []) → words_of (x ∷ xs) ≡ (x ∷ xs) ∷ []
    by true e more = absurd (let k = rw e at h in omega arith)
    by false e more = let k = rw e at h in rw (e, more (omega arith)) refl

pub no_cut : (xs : List ℕ) → position is_space xs ≡ None → words_of xs ≡ xs ∷ []
no_cut xs e = by (nat_lt (position_or_len is_space xs) (length xs)) refl e
  where
    by : (b : Bool) → nat_lt (position_or_len is_space xs) (length xs) ≡ b → cond b (Some (position_or_len is_space xs)) None ≡ None → words_of xs ≡ xs ∷ []
    by true t f = cc
    by false t f = whole xs (grind (arith, nat_tests))

own : IsNumeralModel (λ ds. all_ascii_digits ds ≡ true) (digits_value 10)
own = numerals_by_value (λ ds. all_ascii_digits ds ≡ true) tells_all_ascii_digits

numeral_decides : (w : List ℕ) → Decides (is_numeral w) (IsNumeral 10 w)
numeral_decides w = Decides-like (is_numeral w) (λ p. (p.0, own.to w p.1)) (λ p. (p.0, own.from w p.1)) (Decides-and (ltb 0 (length w)) (all_ascii_digits w) (Decides-ltb 0 (length w)) (λ e. e, λ e. e))

fits_decides : (z : ℤ) → Decides (fits_64 z) (FitsSigned w64 z)
fits_decides (pos n) = Decides-like (ltb n (2 ^ 63)) (λ h. record { sfits = h }) (λ h. h.sfits) (Decides-ltb n (2 ^ 63))
fits_decides (negsuc n) = Decides-like (ltb n (2 ^ 63)) (λ h. record { sfits = h }) (λ h. h.sfits) (Decides-ltb n (2 ^ 63))

-- a value exactly where a test holds
pick : {A E P : Type 0} (b : Bool) (x : A) → Decides b P → (r : Result A E) → OkIff r P x → MatchResult r (λ y. Some y ≡ cond b (Some x) None) (λ _. None ≡ cond b (Some x) None)
pick true x d (Ok y) h = ap Some h.1
pick true x d (Err e) h = absurd (h (d.0 refl))
pick false x d (Ok y) h = let bad : false ≡ true = d.1 h.0 in cc
pick false x d (Err e) h = refl

none : {A P : Type 0} (b t : Bool) (x : A) → Decides b P → (P → ⊥) → None ≡ cond (b && t) (Some x) None
none true t x d n = absurd (n (d.0 refl))
none false t x d n = refl

pub number_read : {E : Type 0} (w : List ℕ) (r : Result ℕ E) → ParsesUnsigned 64 10 w r → get_or w 0 0 ≢ 43 → MatchResult r (λ n. Some n ≡ number_of w) (λ _. None ≡ number_of w)
unfolding number_of
number_read w r h ne =
    let plain : OkIff r (IsNumeral 10 w × (digits_value 10 w < 2 ^ 64)) (digits_value 10 w) = rw (without_leading_plus_none w ne) at h in
    pick (is_numeral w && nat_lt (digits_value 10 w) (2 ^ 64)) (digits_value 10 w) (Decides-and (is_numeral w) (nat_lt (digits_value 10 w) (2 ^ 64)) (numeral_decides w) (Decides-ltb (digits_value 10 w) (2 ^ 64))) r plain

pub number_none : (w : List ℕ) → (IsNumeral 10 w → ⊥) → None ≡ number_of w
unfolding number_of
number_none w n = none (is_numeral w) (nat_lt (digits_value 10 w) (2 ^ 64)) (digits_value 10 w) (numeral_decides w) n

pub plus_front : (w : List ℕ) → get_or w 0 0 ≡ 43 → None ≡ number_of w
plus_front w e = number_none w (λ h. bad w e h)
  where
    bad : (v : List ℕ) → get_or v 0 0 ≡ 43 → IsNumeral 10 v → ⊥
    bad [] f h = omega arith
    bad (b ∷ bs) f h = let k : digit_value 43 < 10 = rw f at h.1.0 in omega arith

pub utf8_number : (w : List ℕ) → (IsUtf8 w → ⊥) → None ≡ number_of w
utf8_number w n = number_none w (λ h. n (IsUtf8-from_ascii w (IsAscii-from_digits w h.1)))

pub amount_read : {E : Type 0} (w : List ℕ) (r : Result ℤ E) → ParsesSigned w64 10 w r → MatchResult r (λ n. Some n ≡ amount_of w) (λ _. None ≡ amount_of w)
unfolding amount_of
amount_read w r h =
    let ds = without_leading_sign w in
    let z = signed_digits_value 10 w in
    pick (is_numeral ds && fits_64 z) z (Decides-and (is_numeral ds) (fits_64 z) (numeral_decides ds) (fits_decides z)) r h

one_byte : (b : ℕ) → b < 128 → IsUtf8 (b ∷ [])
one_byte b h = IsUtf8-from_ascii (b ∷ []) (λ i. by i)
  where
    by : (i : ℕ) → get_or (b ∷ []) i 0 < 128
    by zero = h
    by (suc i) = lit< tt

utf8_signed : (w : List ℕ) → AllDigits 10 (without_leading_sign w) → IsUtf8 w
utf8_signed [] h = IsUtf8-nil
utf8_signed (b ∷ bs) h = by (b == 45) (b == 43) refl refl h
  where
    digits : (ds : List ℕ) → AllDigits 10 ds → IsUtf8 ds
    digits ds k = IsUtf8-from_ascii ds (IsAscii-from_digits ds k)

    by : (m p : Bool) → (b == 45) ≡ m → (b == 43) ≡ p → AllDigits 10 (cond m (drop 1 (b ∷ bs)) (drop (cond p 1 0) (b ∷ bs))) → IsUtf8 (b ∷ bs)
    by true p e f k = IsUtf8-append (b ∷ []) bs (one_byte b (grind (arith, nat_tests))) (digits bs k)
    by false true e f k = IsUtf8-append (b ∷ []) bs (one_byte b (grind (arith, nat_tests))) (digits bs k)
    by false false e f k = digits (b ∷ bs) k

pub utf8_amount : (w : List ℕ) → (IsUtf8 w → ⊥) → None ≡ amount_of w
unfolding amount_of
utf8_amount w n = none (is_numeral (without_leading_sign w)) (fits_64 (signed_digits_value 10 w)) (signed_digits_value 10 w) (numeral_decides (without_leading_sign w)) (λ h. n (utf8_signed w h.1))

pub empty_words : (rest : Option (Bor (List ℕ))) (b : Bool) → is_some rest ≡ not b → (IsTrue b → words_left rest ≡ []) × (words_left rest ≡ [] → IsTrue b)
empty_words None true e = (λ t. refl, λ f. search rules)
empty_words None false e = cc
empty_words (Some r) true e = cc
empty_words (Some r) false e = (λ t. absurd (search rules), λ f. absurd (some_word r.now f))

pub plus_test : (w : List ℕ) (b : Bool) → b ≡ (slice_index w 0 == 43) → (b ≡ true → get_or w 0 0 ≡ 43) × (b ≡ false → get_or w 0 0 ≢ 43)
plus_test w b e = (λ t. grind (arith, nat_tests), λ f. grind (arith, nat_tests))
