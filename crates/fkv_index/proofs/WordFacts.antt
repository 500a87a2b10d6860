-- Words by their tests.
use Rattle.std.proofs.Common.{◌≡◌, ◌≤◌, ⊎_elim, ◌+◌, ◌*◌, ◌^◌, ◌<◌, ◌==◌, ◌&&◌, ℕ, true, false, not, nat_lt, refl, sym, ap, ◌∙◌, arith, cond}
use Rattle.std.proofs.lemmas.Bool.{and_parts, and_from, and_left, and_right, and_cases, lt-leb, leb-false, lt-ltb, ltb-true, cases_Bool, eqb-true, eq-eqb, leb-true, le-leb, le-ltb, not-false, false_from_ne_true, false≢true}
use Rattle.std.proofs.lemmas.Bool.Decides.{nat_tests}
use Rattle.fkv_index.specs.declared.words.Word.{Word}
use Rattle.fkv_index.specs.Words.{empty, final_word, tentative_word, address_of, tag_of, is_empty, is_tentative, is_final, is_final_of, is_entry_of, swept}

pub empty_not_final : (t : ℕ) → is_final_of t empty ≡ false
unfolding is_final_of is_final
empty_not_final t = refl

pub empty_not_entry : (t : ℕ) → is_entry_of t empty ≡ false
unfolding is_entry_of
empty_not_entry t = refl

pub empty_is_empty : is_empty empty ≡ true
unfolding is_empty
empty_is_empty = refl

pub empty_not_tentative : is_tentative empty ≡ false
unfolding is_tentative
empty_not_tentative = refl

pub is_empty-empty : (w : Word) → is_empty w ≡ true → w ≡ empty
unfolding is_empty
is_empty-empty w e = let bits : w.bits ≡ 0 = eqb-true w.bits 0 e in λ i. record { bits = bits i }

pub empty_word_not_final : (t : ℕ) (w : Word) → is_empty w ≡ true → is_final_of t w ≡ false
empty_word_not_final t w e = ap (is_final_of t) (is_empty-empty w e) ∙ empty_not_final t

pub tentative_not_final : (t : ℕ) (w : Word) → is_tentative w ≡ true → is_final_of t w ≡ false
unfolding is_tentative is_final_of is_final
tentative_not_final t w e = and_left (is_final w) (tag_of w == t) (and_right (not (w.bits == 0)) (nat_lt w.bits (2 ^ 63)) (le-ltb w.bits (2 ^ 63) (leb-true (2 ^ 63) w.bits e)))

pub final_of_its_tag : (w : Word) → is_final w ≡ true → is_final_of (tag_of w) w ≡ true
unfolding is_final_of
final_of_its_tag w e = and_from _ _ e (eq-eqb (tag_of w) (tag_of w) refl)

pub tag_of-final : (t : ℕ) (w : Word) → is_final_of t w ≡ true → tag_of w ≡ t
unfolding is_final_of
tag_of-final t w e = eqb-true (tag_of w) t ((and_parts _ _ e).1)

pub final_is_final : (t : ℕ) (w : Word) → is_final_of t w ≡ true → is_final w ≡ true
unfolding is_final_of
final_is_final t w e = (and_parts _ _ e).0

pub final_is_entry : (t : ℕ) (w : Word) → is_final_of t w ≡ true → is_entry_of t w ≡ true
unfolding is_final_of is_final is_entry_of
final_is_entry t w e = let p = and_parts (is_final w) (tag_of w == t) e in let q = and_parts (not (w.bits == 0)) (nat_lt w.bits (2 ^ 63)) (p.0) in and_from (not (w.bits == 0)) (tag_of w == t) (q.0) (p.1)

-- what is no entry of the tag is no final one
pub not_entry_not_final : (t : ℕ) (w : Word) → is_entry_of t w ≡ false → is_final_of t w ≡ false
not_entry_not_final t w e = false_from_ne_true (is_final_of t w) (λ f. false≢true (sym e ∙ final_is_entry t w f))

pub other_tag_not_final : (t : ℕ) (w : Word) → (t ≡ tag_of w → ⊥) → is_final_of t w ≡ false
other_tag_not_final t w ne = false_from_ne_true (is_final_of t w) (λ f. ne (sym (tag_of-final t w f)))

-- sweeps
pub swept_low : (t begin : ℕ) (w : Word) → is_final_of t w ≡ true → nat_lt (address_of w) begin ≡ true → swept begin w ≡ empty
unfolding swept
swept_low t begin w f low = rw (final_is_final t w f, low) refl

pub swept_high : (begin : ℕ) (w : Word) → nat_lt (address_of w) begin ≡ false → swept begin w ≡ w
unfolding swept
swept_high begin w high = rw (and_right (is_final w) _ high) refl

pub swept_empty : (begin : ℕ) → swept begin empty ≡ empty
unfolding swept is_final
swept_empty begin = refl

pub swept_not_final : (t begin : ℕ) (w : Word) → is_final_of t w ≡ false → is_final_of t (swept begin w) ≡ false
unfolding swept
swept_not_final t begin w e = elim (is_final w && nat_lt (address_of w) begin) as (λ b. is_final_of t (cond b empty w) ≡ false) [ true ↦ empty_not_final t | false ↦ e ]

-- `!=` answers false
pub same_word : (v w : Word) → false ≡ not (v.bits == w.bits) → v ≡ w
same_word v w e = let bits : v.bits ≡ w.bits = eqb-true v.bits w.bits (not-false (v.bits == w.bits) (sym e)) in λ i. record { bits = bits i }

-- a word of a tag that is no entry of it is neither final nor tentative
pub not_entry_of_its_tag : (t : ℕ) (w : Word) → is_entry_of t w ≡ false → tag_of w ≡ t → (is_final w ≡ false) × (is_tentative w ≡ false)
unfolding is_entry_of is_final is_tentative
not_entry_of_its_tag t w none tag =
    let tagged : (tag_of w == t) ≡ true = eq-eqb (tag_of w) t tag in
    let empty_bits : not (w.bits == 0) ≡ false = ⊎_elim (λ e. e) (λ e. absurd (false≢true (sym e ∙ tagged))) (and_cases (not (w.bits == 0)) (tag_of w == t) none) in
    let zero_bits : w.bits ≡ 0 = eqb-true w.bits 0 (not-false (w.bits == 0) empty_bits) in
    (and_left (not (w.bits == 0)) (nat_lt w.bits (2 ^ 63)) empty_bits, lt-leb (2 ^ 63) w.bits (omega arith))

-- and one that is neither is no entry
pub no_entry_of : (t : ℕ) (w : Word) → (tag_of w ≡ t → (is_final w ≡ false) × (is_tentative w ≡ false)) → is_entry_of t w ≡ false
unfolding is_entry_of is_final is_tentative
no_entry_of t w none =
    false_from_ne_true (is_entry_of t w) (λ e.
    let p = and_parts (not (w.bits == 0)) (tag_of w == t) e in
    let q = none (eqb-true (tag_of w) t (p.1)) in
    let low : w.bits < 2 ^ 63 = leb-false (2 ^ 63) w.bits (q.1) in
    false≢true (sym (q.0) ∙ and_from (not (w.bits == 0)) (nat_lt w.bits (2 ^ 63)) (p.0) (lt-ltb w.bits (2 ^ 63) low)))

pub final_not_tentative : (w : Word) → is_final w ≡ true → is_tentative w ≡ false
unfolding is_final is_tentative
final_not_tentative w e = lt-leb (2 ^ 63) w.bits (ltb-true w.bits (2 ^ 63) ((and_parts (not (w.bits == 0)) (nat_lt w.bits (2 ^ 63)) e).1))

pub swept_tentative : (begin : ℕ) (w : Word) → is_tentative (swept begin w) ≡ is_tentative w
unfolding swept
swept_tentative begin w =
    ⊎_elim (λ e. let f : is_final w ≡ true = (and_parts (is_final w) (nat_lt (address_of w) begin) e).0 in rw e (empty_not_tentative ∙ sym (final_not_tentative w f)))
    (λ e. rw e refl) (cases_Bool (is_final w && nat_lt (address_of w) begin))

pub swept_other : (begin : ℕ) (w : Word) → is_final w ≡ false → swept begin w ≡ w
unfolding swept
swept_other begin w e = rw e refl

pub swept_final : (begin : ℕ) (w : Word) → is_final w ≡ true → address_of w < begin → is_empty (swept begin w) ≡ true
unfolding swept
swept_final begin w e low = rw (e, lt-ltb (address_of w) begin low) empty_is_empty

pub swept_kept : (begin : ℕ) (w : Word) → begin ≤ address_of w → swept begin w ≡ w
swept_kept begin w high = swept_high begin w (le-ltb (address_of w) begin high)

-- the words that are written
pub tentative-tag : (t : ℕ) → t < 2 ^ 15 → tag_of (tentative_word t) ≡ t
unfolding tag_of tentative_word
tentative-tag t small = omega arith

pub tentative-is : (t : ℕ) → is_tentative (tentative_word t) ≡ true
unfolding is_tentative tentative_word
tentative-is t = le-leb (2 ^ 63) (2 ^ 63 + (t * 2 ^ 48 + 1)) (omega arith)

pub made-tag : (t : ℕ) → t < 2 ^ 15 → tag_of (final_word t 1) ≡ t
unfolding tag_of final_word
made-tag t small = omega arith

pub made-address : (t : ℕ) → address_of (final_word t 1) ≡ 1
unfolding address_of final_word
made-address t = omega arith

pub made-is : (t : ℕ) → t < 2 ^ 15 → is_final (final_word t 1) ≡ true
unfolding is_final final_word
made-is t small = grind (arith, nat_tests)
