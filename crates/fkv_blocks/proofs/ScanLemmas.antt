-- Csv's state on the way through a text.
use Rattle.std.proofs.Common.{◌≡◌, ◌≢◌, ◌==◌, ◌||◌, ◌&&◌, ◌⊎◌, ◌+◌, ◌<◌, ◌≤◌, inl, inr, ℕ, zero, suc, Bool, true, false, cond, List, [], ◌∷◌, length, take, get_or, refl, sym, ap, subst, ◌∙◌, arith, eqb-true}
use Rattle.std.specs.Prelude.{slice_index}
use Rattle.std.proofs.lemmas.Bool.{eq-eqb, ne_eqb, or_cases}
use Rattle.std.proofs.lemmas.List.{take_more}
use Rattle.std.proofs.lemmas.List.Sums.{fold-append}
use Rattle.csv.specs.Machine.{step, in_field, start_field, ends_with, after_end}
use Rattle.csv.specs.Reading.{default_config}
use Rattle.csv.specs.declared.parser.State.{State}
use Rattle.csv.specs.declared.parser.State.TheVariants as st
use Rattle.csv.specs.declared.parser.Action.TheVariants as act
use Rattle.csv.specs.declared.parser.Terminator.TheVariants as term
use Rattle.fkv_blocks.specs.Cutting.{IsBetween, IsCut, state_after}
use Rattle.fkv_blocks.proofs.StepLemmas.{Step, either, is_open, open_ends, same_step}

-- the state behind one byte more
pub after_more : (s : State) (xs : List ℕ) (n : ℕ) → n < length xs
    → state_after s (take (n + 1) xs) ≡ (step default_config (state_after s (take n xs)) (slice_index xs n)).0
after_more s xs n lt =
    ap (state_after s) (take_more xs n 0 lt) ∙ fold-append (λ t c. (step default_config t c).0) s (take n xs) (get_or xs n 0 ∷ [])

-- ---- without quotes
is_plain : State → Bool
is_plain st.StartRecord = true
is_plain st.StartField = true
is_plain st.InField = true
is_plain st.InQuoted = false
is_plain st.AfterQuote = false
is_plain st.InEscape = false
is_plain st.InComment = false
is_plain st.AfterCr = true

-- a byte that is no quote, in a state of these
abbrev IsPlain : Step → Type 0
IsPlain r = is_plain r.0 ≡ true

end_plain : (b : Bool) → is_plain (cond b st.AfterCr st.StartRecord) ≡ true
unfolding is_plain
end_plain true = refl
end_plain false = refl

field_plain : (c : ℕ) → IsPlain (in_field default_config c)
unfolding is_plain
field_plain c =
    either IsPlain (c == 44) (st.StartField, act.EndField) (cond (ends_with term.CRLF c) (after_end term.CRLF c, act.EndRecord) (st.InField, act.Copy)) refl
    (either IsPlain (ends_with term.CRLF c) (after_end term.CRLF c, act.EndRecord) (st.InField, act.Copy) (end_plain (c == 13)) refl)

start_plain : (c : ℕ) → c ≢ 34 → IsPlain (start_field default_config c)
start_plain c plain = rw (ne_eqb c 34 plain) (field_plain c)

record_plain : (c : ℕ) → c ≢ 34 → IsPlain (step default_config st.StartRecord c)
unfolding is_plain
record_plain c plain = either IsPlain (ends_with term.CRLF c) (st.StartRecord, act.Skip) (start_field default_config c) refl (start_plain c plain)

plain_step : (s : State) (c : ℕ) → c ≢ 34 → is_plain s ≡ true → IsPlain (step default_config s c)
unfolding is_plain
plain_step st.StartRecord c plain p = record_plain c plain
plain_step st.StartField c plain p = start_plain c plain
plain_step st.InField c plain p = field_plain c
plain_step st.InQuoted c plain p = absurd (cc)
plain_step st.AfterQuote c plain p = absurd (cc)
plain_step st.InEscape c plain p = absurd (cc)
plain_step st.InComment c plain p = absurd (cc)
plain_step st.AfterCr c plain p = subst IsPlain (sym (same_step c)) (record_plain c plain)

abbrev Rests : Step → Type 0
Rests r = IsBetween r.0

end_rests : (b : Bool) → IsBetween (cond b st.AfterCr st.StartRecord)
end_rests true = refl
end_rests false = refl

-- a line end, in a state of these
line_end : (c : ℕ) → ends_with term.CRLF c ≡ true → (c ≡ 13) ⊎ (c ≡ 10)
line_end c e = elim (or_cases (c == 13) (c == 10) e) [ inl h ↦ inl (eqb-true c 13 h) | inr h ↦ inr (eqb-true c 10 h) ]

plain_ends : (s : State) (c : ℕ) → (c ≡ 13) ⊎ (c ≡ 10) → is_plain s ≡ true → Rests (step default_config s c)
unfolding is_plain
plain_ends st.StartRecord c (inl e) p = rw e refl
plain_ends st.StartRecord c (inr e) p = rw e refl
plain_ends st.StartField c (inl e) p = rw e refl
plain_ends st.StartField c (inr e) p = rw e refl
plain_ends st.InField c (inl e) p = rw e refl
plain_ends st.InField c (inr e) p = rw e refl
plain_ends st.InQuoted c e p = absurd (cc)
plain_ends st.AfterQuote c e p = absurd (cc)
plain_ends st.InEscape c e p = absurd (cc)
plain_ends st.InComment c e p = absurd (cc)
plain_ends st.AfterCr c (inl e) p = rw e refl
plain_ends st.AfterCr c (inr e) p = rw e refl

plain_upto : (xs : List ℕ) → ((n : ℕ) → n < length xs → slice_index xs n ≢ 34) → (n : ℕ) → n ≤ length xs
    → is_plain (state_after st.StartRecord (take n xs)) ≡ true
unfolding is_plain
plain_upto xs plain zero le = refl
plain_upto xs plain (suc n) le =
    let one : suc n ≡ n + 1 = omega arith in
    let lt : n < length xs = omega (arith, le) in
    rw (one, after_more st.StartRecord xs n lt) (plain_step (state_after st.StartRecord (take n xs)) (slice_index xs n) (plain n lt) (plain_upto xs plain n (omega (arith, le))))

-- behind a line end of a text without quotes
pub plain_cut : (xs : List ℕ) (n : ℕ) → ((k : ℕ) → k < length xs → slice_index xs k ≢ 34) → n < length xs
    → ((slice_index xs n == 13) || (slice_index xs n == 10)) ≡ true
    → IsCut xs (n + 1)
plain_cut xs n plain lt is = (
  omega (arith, lt),
  rw (after_more st.StartRecord xs n lt) (plain_ends (state_after st.StartRecord (take n xs)) (slice_index xs n) (line_end (slice_index xs n) is) (plain_upto xs plain n (omega (arith, lt)))),
)

-- ---- without line ends
abbrev IsOpen : Step → Type 0
IsOpen r = is_open r.0 ≡ true

field_open : (c : ℕ) → c ≢ 13 → c ≢ 10 → IsOpen (in_field default_config c)
field_open c a b =
    rw (ne_eqb c 13 a, ne_eqb c 10 b) (either IsOpen (c == 44) (st.StartField, act.EndField) (st.InField, act.Copy) refl refl)

start_open : (c : ℕ) → c ≢ 13 → c ≢ 10 → IsOpen (start_field default_config c)
start_open c a b = either IsOpen (default_config.quoting && (c == default_config.quote)) (st.InQuoted, act.Skip) (in_field default_config c) refl (field_open c a b)

record_open : (c : ℕ) → c ≢ 13 → c ≢ 10 → IsOpen (step default_config st.StartRecord c)
record_open c a b =
    let ends : ends_with term.CRLF c ≡ false = rw (ne_eqb c 13 a, ne_eqb c 10 b) refl in
    otherwise (ends_with term.CRLF c) ends (st.StartRecord, act.Skip) (start_field default_config c) (start_open c a b)
  where
    otherwise : (t : Bool) → t ≡ false → (x y : Step) → IsOpen y → IsOpen (cond t x y)
    otherwise t e x y open_y = rw e open_y

abbrev IsBegun : State → Type 0
IsBegun s = (is_open s ≡ true) ⊎ IsBetween s

open_step : (s : State) (c : ℕ) → c ≢ 13 → c ≢ 10 → IsBegun s → IsOpen (step default_config s c)
open_step st.StartRecord c a b h = record_open c a b
open_step st.StartField c a b h = start_open c a b
open_step st.InField c a b h = field_open c a b
open_step st.InQuoted c a b h =
    either IsOpen (default_config.quoting && (c == default_config.quote)) (st.AfterQuote, act.Skip) (st.InQuoted, act.Copy) refl refl
open_step st.AfterQuote c a b h =
    either IsOpen (default_config.quoting && default_config.double_quote && (c == default_config.quote)) (st.InQuoted, act.Copy) (in_field default_config c) refl (field_open c a b)
open_step st.InEscape c a b h = refl
open_step st.InComment c a b (inl h) = absurd (cc)
open_step st.InComment c a b (inr h) = absurd (cc)
open_step st.AfterCr c a b h = subst IsOpen (sym (same_step c)) (record_open c a b)

open_upto : (xs : List ℕ) → ((n : ℕ) → n < length xs → (slice_index xs n ≢ 13) × (slice_index xs n ≢ 10)) → (n : ℕ) → n ≤ length xs
    → IsBegun (state_after st.StartRecord (take n xs)) × (0 < n → is_open (state_after st.StartRecord (take n xs)) ≡ true)
open_upto xs plain zero le = (inr refl, λ lt. absurd (omega (arith, lt)))
open_upto xs plain (suc n) le =
    let one : suc n ≡ n + 1 = omega arith in
    let lt : n < length xs = omega (arith, le) in
    let here : is_open (state_after st.StartRecord (take (suc n) xs)) ≡ true =
    rw (one, after_more st.StartRecord xs n lt) (open_step (state_after st.StartRecord (take n xs)) (slice_index xs n) (plain n lt).0 (plain n lt).1 (open_upto xs plain n (omega (arith, le))).0) in
    (inl here, λ some. here)

apart : (s : State) → is_open s ≡ true → IsBetween s → ⊥
apart s o b = (let bad : true ≡ false = sym (open_ends s o) ∙ b in cc)

-- a text without line ends has no cut but its start
pub no_cut : (xs : List ℕ) → ((n : ℕ) → n < length xs → ((slice_index xs n == 13) || (slice_index xs n == 10)) ≡ true → ⊥)
    → (n : ℕ) → 0 < n → IsCut xs n → ⊥
no_cut xs none n some cut =
    apart (state_after st.StartRecord (take n xs)) ((open_upto xs plain n cut.0).1 some) cut.1
  where
    or-right : (a : Bool) → (a || true) ≡ true
    or-right true = refl
    or-right false = refl

    plain : (k : ℕ) → k < length xs → (slice_index xs k ≢ 13) × (slice_index xs k ≢ 10)
    plain k lt = (
      (λ e. none k lt (rw (eq-eqb (slice_index xs k) 13 e) refl)),
      (λ e. none k lt (rw (eq-eqb (slice_index xs k) 10 e) (or-right (slice_index xs k == 13)))),
    )
