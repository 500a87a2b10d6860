-- One step of csv's machine, by its defaults.
use Rattle.std.proofs.Common.{◌≡◌, ◌==◌, ◌||◌, ◌&&◌, ◌⊎◌, inl, inr, ℕ, Bool, true, false, cond, refl, sym, subst}
use Rattle.csv.specs.Machine.{step, in_field, start_field, is_end, is_byte, ends_at_end, ends_with, after_end}
use Rattle.csv.specs.Reading.{default_config}
use Rattle.csv.specs.declared.parser.State.{State}
use Rattle.csv.specs.declared.parser.State.TheVariants as st
use Rattle.csv.specs.declared.parser.Action.{Action}
use Rattle.csv.specs.declared.parser.Action.TheVariants as act
use Rattle.csv.specs.declared.parser.Terminator.TheVariants as term
use Rattle.fkv_blocks.specs.Cutting.{IsBetween}

-- a record is begun, and only its end leads out
abbrev pub is_open : State → Bool
is_open st.StartRecord = false
is_open st.StartField = true
is_open st.InField = true
is_open st.InQuoted = true
is_open st.AfterQuote = true
is_open st.InEscape = true
is_open st.InComment = false
is_open st.AfterCr = false

abbrev pub Step : Type 0
Step = State × Action

-- the record at hand ends, or it goes on
abbrev pub Goes : Step → Type 0
Goes r = ((is_end r.1 ≡ true) × IsBetween r.0) ⊎ ((is_end r.1 ≡ false) × (is_open r.0 ≡ true))

-- nothing is begun yet, or a record is
abbrev pub Begins : Step → Type 0
Begins r = ((r.1 ≡ act.Skip) × (r.0 ≡ st.StartRecord)) ⊎ Goes r

-- behind its end no record is begun
abbrev pub Ends : Step → Type 0
Ends r = is_end r.1 ≡ true → IsBetween r.0

pub either : (P : Step → Type 0) (b : Bool) (x y : Step) → P x → P y → P (cond b x y)
either P true x y p q = p
either P false x y p q = q

pub open_ends : (s : State) → is_open s ≡ true → ends_at_end s ≡ true
open_ends st.StartRecord o = absurd (cc)
open_ends st.StartField o = refl
open_ends st.InField o = refl
open_ends st.InQuoted o = refl
open_ends st.AfterQuote o = refl
open_ends st.InEscape o = refl
open_ends st.InComment o = refl
open_ends st.AfterCr o = absurd (cc)

after_between : (c : ℕ) → IsBetween (after_end term.CRLF c)
after_between c = by (c == 13)
  where
    by : (b : Bool) → IsBetween (cond b st.AfterCr st.StartRecord)
    by true = refl
    by false = refl

field_goes : (c : ℕ) → Goes (in_field default_config c)
field_goes c =
    either Goes (c == 44) (st.StartField, act.EndField) (cond (ends_with term.CRLF c) (after_end term.CRLF c, act.EndRecord) (st.InField, act.Copy))
    (inr (refl, refl))
    (either Goes (ends_with term.CRLF c) (after_end term.CRLF c, act.EndRecord) (st.InField, act.Copy) (inl (refl, after_between c)) (inr (refl, refl)))

start_goes : (c : ℕ) → Goes (start_field default_config c)
start_goes c =
    either Goes (default_config.quoting && (c == default_config.quote)) (st.InQuoted, act.Skip) (in_field default_config c) (inr (refl, refl)) (field_goes c)

pub open_goes : (s : State) (c : ℕ) → is_open s ≡ true → Goes (step default_config s c)
open_goes st.StartRecord c o = absurd (cc)
open_goes st.StartField c o = start_goes c
open_goes st.InField c o = field_goes c
open_goes st.InQuoted c o =
    let rest : Step = cond (default_config.quoting && is_byte default_config.escape c) (st.InEscape, act.Skip) (st.InQuoted, act.Copy) in
    either Goes (default_config.quoting && (c == default_config.quote)) (st.AfterQuote, act.Skip) rest (inr (refl, refl))
    (either Goes (default_config.quoting && is_byte default_config.escape c) (st.InEscape, act.Skip) (st.InQuoted, act.Copy) (inr (refl, refl)) (inr (refl, refl)))
open_goes st.AfterQuote c o =
    either Goes (default_config.quoting && default_config.double_quote && (c == default_config.quote)) (st.InQuoted, act.Copy) (in_field default_config c)
    (inr (refl, refl)) (field_goes c)
open_goes st.InEscape c o = inr (refl, refl)
open_goes st.InComment c o = absurd (cc)
open_goes st.AfterCr c o = absurd (cc)

begin_goes : (c : ℕ) → Begins (step default_config st.StartRecord c)
begin_goes c =
    either Begins (ends_with term.CRLF c) (st.StartRecord, act.Skip) (start_field default_config c) (inl (refl, refl)) (inr (start_goes c))

alike : (a b : Bool) (x y : Step) → cond b x (cond (a || b) x y) ≡ cond (a || b) x y
alike true true x y = refl
alike true false x y = refl
alike false true x y = refl
alike false false x y = refl

-- behind a carriage return a byte does what it does at a text's start, a line feed too
pub same_step : (c : ℕ) → step default_config st.AfterCr c ≡ step default_config st.StartRecord c
same_step c = alike (c == 13) (c == 10) (st.StartRecord, act.Skip) (start_field default_config c)

pub between_begins : (s : State) (c : ℕ) → IsBetween s → Begins (step default_config s c)
between_begins st.StartRecord c b = begin_goes c
between_begins st.StartField c b = absurd (cc)
between_begins st.InField c b = absurd (cc)
between_begins st.InQuoted c b = absurd (cc)
between_begins st.AfterQuote c b = absurd (cc)
between_begins st.InEscape c b = absurd (cc)
between_begins st.InComment c b = absurd (cc)
between_begins st.AfterCr c b = subst Begins (sym (same_step c)) (begin_goes c)

goes_ends : (r : Step) → Goes r → Ends r
goes_ends r (inl g) e = g.1
goes_ends r (inr g) e = absurd (let bad : true ≡ false = rw e at g.0 in cc)

begins_ends : (r : Step) → Begins r → Ends r
begins_ends r (inl k) e = (let bad : false ≡ true = rw k.0 at e in absurd (cc))
begins_ends r (inr g) e = goes_ends r g e

pub end_between : (s : State) (c : ℕ) → Ends (step default_config s c)
end_between st.StartRecord c = begins_ends (step default_config st.StartRecord c) (begin_goes c)
end_between st.StartField c = goes_ends (step default_config st.StartField c) (start_goes c)
end_between st.InField c = goes_ends (step default_config st.InField c) (field_goes c)
end_between st.InQuoted c = goes_ends (step default_config st.InQuoted c) (open_goes st.InQuoted c refl)
end_between st.AfterQuote c = goes_ends (step default_config st.AfterQuote c) (open_goes st.AfterQuote c refl)
end_between st.InEscape c = goes_ends (step default_config st.InEscape c) (inr (refl, refl))
end_between st.InComment c =
    either Ends (c == 10) (st.StartRecord, act.Skip) (st.InComment, act.Skip) (λ e. absurd (cc)) (λ e. absurd (cc))
end_between st.AfterCr c = begins_ends (step default_config st.AfterCr c) (between_begins st.AfterCr c refl)
