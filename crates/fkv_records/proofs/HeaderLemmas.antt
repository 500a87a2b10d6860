-- Headers and the words that they are.
use Rattle.std.proofs.Common.{◌≡◌, ◌+◌, ◌*◌, ◌/◌, ◌%◌, ◌^◌, ◌<◌, ◌≤◌, ◌⊎◌, inl, inr, ℕ, List, length, arith, refl, sym, ◌∙◌, ap, bit_and, bit_or, slice_set, slice_index_or, true, false, nat_eq, nat_le, Bool, if◌then◌else◌}
use Rattle.std.specs.Int.{w64, from_le_bytes}
use Rattle.std.proofs.lemmas.Nat.{from_le_bytes-to_le_bytes_8, and_mask}
use Rattle.fkv_records.specs.Headers.{header_word, word_bytes, header_bytes, IsSpelledBy}
use Rattle.fkv_records.specs.declared.fields.Header.{Header}

-- bits 48 and up
abbrev pub flags_of : Bool → Bool → ℕ
flags_of tombstone delta = 4 + 2 * (if delta then 1 else 0) + (if tombstone then 1 else 0)

pub tombstone_of : (t d : Bool) → nat_eq (flags_of t d % 2) 1 ≡ t
tombstone_of true true = refl
tombstone_of true false = refl
tombstone_of false true = refl
tombstone_of false false = refl

pub delta_of : (t d : Bool) → nat_le 6 (flags_of t d) ≡ d
delta_of true true = refl
delta_of true false = refl
delta_of false true = refl
delta_of false false = refl

pub flags_below : (t d : Bool) → flags_of t d < 8
flags_below true true = omega arith
flags_below true false = omega arith
flags_below false true = omega arith
flags_below false false = omega arith

pub length-word_bytes : (n : ℕ) → length (word_bytes n) ≡ 8
unfolding word_bytes
length-word_bytes n = refl

-- two words of the same bytes are one
same_word : (a b : ℕ) → a < 2 ^ 64 → b < 2 ^ 64 → word_bytes a ≡ word_bytes b → a ≡ b
unfolding word_bytes
same_word a b h k e = sym (from_le_bytes-to_le_bytes_8 a h) ∙ ap (from_le_bytes w64) e ∙ from_le_bytes-to_le_bytes_8 b k

header_fits : (p : ℕ) (t d : Bool) → p < 2 ^ 48 → header_word p t d < 2 ^ 64
header_fits p t d h = let small : flags_of t d < 8 = flags_below t d in omega arith

-- a word whose bytes spell a header is the header's
spelled_word : (bytes : List ℕ) (word : ℕ) (h : Header) → word < 2 ^ 64 → word_bytes word ≡ bytes → IsSpelledBy bytes h
    → word ≡ header_word h.previous h.is_tombstone h.is_delta
spelled_word bytes word h fits e s =
    same_word word (header_word h.previous h.is_tombstone h.is_delta) fits (header_fits h.previous h.is_tombstone h.is_delta s.fits) (e ∙ s.same)

-- bits 48 and up of that word
pub spelled_flags : (bytes : List ℕ) (word : ℕ) (h : Header) → word < 2 ^ 64 → word_bytes word ≡ bytes → IsSpelledBy bytes h
    → word / 2 ^ 48 ≡ flags_of h.is_tombstone h.is_delta
spelled_flags bytes word h fits e s =
    let whole : word ≡ h.previous + flags_of h.is_tombstone h.is_delta * 2 ^ 48 = spelled_word bytes word h fits e s in
    omega (arith, s.fits)

-- bytes spell one header at most
pub same_header : (bytes : List ℕ) (h k : Header) → IsSpelledBy bytes h → IsSpelledBy bytes k → h ≡ k
same_header bytes h k s t =
    let word : h.previous + flags_of h.is_tombstone h.is_delta * 2 ^ 48 ≡ k.previous + flags_of k.is_tombstone k.is_delta * 2 ^ 48 =
    spelled_word bytes (header_word h.previous h.is_tombstone h.is_delta) k (header_fits h.previous h.is_tombstone h.is_delta s.fits) (sym s.same) t in
    let flags : flags_of h.is_tombstone h.is_delta ≡ flags_of k.is_tombstone k.is_delta = omega (arith, s.fits, t.fits) in
    let previous : h.previous ≡ k.previous = omega (arith, flags) in
    let tombstone : h.is_tombstone ≡ k.is_tombstone =
    sym (tombstone_of h.is_tombstone h.is_delta) ∙ ap (λ (f : ℕ). nat_eq (f % 2) 1) flags ∙ tombstone_of k.is_tombstone k.is_delta in
    let delta : h.is_delta ≡ k.is_delta =
    sym (delta_of h.is_tombstone h.is_delta) ∙ ap (nat_le 6) flags ∙ delta_of k.is_tombstone k.is_delta in
    λ i. record { previous = previous i; is_tombstone = tombstone i; is_delta = delta i }

-- flags from 4 to 7 are those of their two low bits
pub flags_again : (f : ℕ) → 4 ≤ f → f ≤ 7 → f ≡ flags_of (nat_eq (bit_and f 1) 1) (nat_eq (bit_and f 2) 2)
flags_again f low high =
    let cases : (f ≡ 4) ⊎ ((f ≡ 5) ⊎ ((f ≡ 6) ⊎ (f ≡ 7))) = grind arith in
    elim cases [ inl e ↦ rw e refl | inr (inl e) ↦ rw e refl | inr (inr (inl e)) ↦ rw e refl | inr (inr (inr e)) ↦ rw e refl ]

-- a word with these bits above is a header
pub header_of_word : (bytes : List ℕ) (word : ℕ) (t d : Bool) → word_bytes word ≡ bytes → word / 2 ^ 48 ≡ flags_of t d
    → IsSpelledBy bytes (record { previous = bit_and word 281474976710655; is_tombstone = t; is_delta = d })
header_of_word bytes word t d e f =
    let low : bit_and word 281474976710655 ≡ word % 2 ^ 48 = and_mask word 48 in
    let whole : header_word (bit_and word 281474976710655) t d ≡ word = omega (arith, low, f) in
    record { fits = omega (arith, low); same = sym (ap word_bytes whole ∙ e) }

pub flags_low : (t d : Bool) → 4 ≤ flags_of t d
flags_low true true = omega arith
flags_low true false = omega arith
flags_low false true = omega arith
flags_low false false = omega arith

-- the tombstone bit of a header
pub tombstone_bytes : (p : ℕ) (t : Bool) → p < 2 ^ 48
    → slice_set (header_bytes p t false) 6 (bit_or (slice_index_or (header_bytes p t false) 6 0) 1) ≡ header_bytes p true false
unfolding word_bytes
tombstone_bytes p true h =
    let five : (p + 5 * 2 ^ 48) / 2 ^ 48 % 256 ≡ 5 = omega arith in
    let six : bit_or ((p + 5 * 2 ^ 48) / 2 ^ 48 % 256) 1 ≡ (p + 5 * 2 ^ 48) / 2 ^ 48 % 256 = rw five refl in
    rw six refl
tombstone_bytes p false h =
    let four : (p + 4 * 2 ^ 48) / 2 ^ 48 % 256 ≡ 4 = omega arith in
    let five : (p + 5 * 2 ^ 48) / 2 ^ 48 % 256 ≡ 5 = omega arith in
    let e0 : (p + 4 * 2 ^ 48) % 256 ≡ (p + 5 * 2 ^ 48) % 256 = omega arith in
    let e1 : (p + 4 * 2 ^ 48) / 256 % 256 ≡ (p + 5 * 2 ^ 48) / 256 % 256 = omega arith in
    let e2 : (p + 4 * 2 ^ 48) / 65536 % 256 ≡ (p + 5 * 2 ^ 48) / 65536 % 256 = omega arith in
    let e3 : (p + 4 * 2 ^ 48) / 16777216 % 256 ≡ (p + 5 * 2 ^ 48) / 16777216 % 256 = omega arith in
    let e4 : (p + 4 * 2 ^ 48) / 4294967296 % 256 ≡ (p + 5 * 2 ^ 48) / 4294967296 % 256 = omega arith in
    let e5 : (p + 4 * 2 ^ 48) / 1099511627776 % 256 ≡ (p + 5 * 2 ^ 48) / 1099511627776 % 256 = omega arith in
    let e6 : bit_or ((p + 4 * 2 ^ 48) / 2 ^ 48 % 256) 1 ≡ (p + 5 * 2 ^ 48) / 2 ^ 48 % 256 = rw (four, five) refl in
    let e7 : (p + 4 * 2 ^ 48) / 72057594037927936 % 256 ≡ (p + 5 * 2 ^ 48) / 72057594037927936 % 256 = omega arith in
    cc
