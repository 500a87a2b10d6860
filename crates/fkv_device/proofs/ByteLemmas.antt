-- Bytes that are compared by the bits in which they differ.
use Rattle.std.proofs.Common.{◌≡◌, ◌<◌, ◌+◌, ◌-◌, ◌%◌, ◌↔◌, ◌++◌, ℕ, List, length, take, drop, slice_index_or, sym, ap, ◌∙◌, arith}
use Rattle.std.proofs.lemmas.List.{take-append-drop, take-take, take_more_same, get_or-take}
use Rattle.std.proofs.lemmas.Nat.{le_or_l, le_or_r}
use Rattle.std.proofs.lemmas.Nat.Bits.{same_from_bits, bit_at_xor, bit_at-zero, bit_at-lt}
use Rattle.std.proofs.Math.Seq.{take-add}
use Rattle.std.specs.Int.{bit_at}
use Rattle.std.specs.Int.Bits.{bit_or, bit_xor, or_zero_l}

-- numbers that differ in no bit are one
none_differ : (a b : ℕ) → bit_xor a b ≡ 0 → a ≡ b
none_differ a b h = same_from_bits a b (λ i. omega (arith, sym (bit_at_xor a b i) ∙ ap (λ n. bit_at n i) h ∙ bit_at-zero i, bit_at-lt a i, bit_at-lt b i))

one_differs_not : (a b : ℕ) → a ≡ b → bit_xor a b ≡ 0
one_differs_not a b h = same_from_bits (bit_xor a b) 0 (λ i. bit_at_xor a b i ∙ ap (λ n. (n + bit_at b i) % 2) (ap (λ n. bit_at n i) h) ∙ omega arith ∙ sym (bit_at-zero i))

-- one more byte, beside the bits in which those before it differ
pub byte_more : (xs ys : List ℕ) (m bits : ℕ) → m < length xs → m < length ys → ((bits ≡ 0) ↔ (take m xs ≡ take m ys))
    → (bit_or bits (bit_xor (slice_index_or xs m 0) (slice_index_or ys m 0)) ≡ 0) ↔ (take (m + 1) xs ≡ take (m + 1) ys)
byte_more xs ys m bits hx hy h =
    let x = slice_index_or xs m 0 in
    let y = slice_index_or ys m 0 in (
      (λ none.
          let first : bits ≡ 0 = omega (arith, le_or_l bits (bit_xor x y), none) in
          let second : bit_xor x y ≡ 0 = omega (arith, le_or_r bits (bit_xor x y), none) in
          take_more_same xs ys m 0 hx hy (h.0 first) (none_differ x y second)),
      (λ same.
          let front : take m xs ≡ take m ys = sym (take-take m (m + 1) xs (omega arith)) ∙ ap (take m) same ∙ take-take m (m + 1) ys (omega arith) in
          let last : x ≡ y = sym (get_or-take (m + 1) xs m 0 (omega arith)) ∙ ap (λ zs. slice_index_or zs m 0) same ∙ get_or-take (m + 1) ys m 0 (omega arith) in
          ap (λ n. bit_or n (bit_xor x y)) (h.1 front) ∙ or_zero_l (bit_xor x y) ∙ one_differs_not x y last),
    )

-- one more part of n bytes
pub part_more : (xs ys : List ℕ) (m n : ℕ) → take m xs ≡ take m ys → take (m + n - m) (drop m xs) ≡ take (m + n - m) (drop m ys) → take (m + n) xs ≡ take (m + n) ys
part_more xs ys m n front part =
    let count : m + n - m ≡ n = omega arith in
    let next : take n (drop m xs) ≡ take n (drop m ys) = ap (λ k. take k (drop m xs)) (sym count) ∙ part ∙ ap (λ k. take k (drop m ys)) count in
    take-add m n xs ∙ (λ i. front i ++ next i) ∙ sym (take-add m n ys)

-- the first m bytes, and those behind them
pub rest_same : (xs ys : List ℕ) (m : ℕ) → take m xs ≡ take m ys → drop m xs ≡ drop m ys → xs ≡ ys
rest_same xs ys m front rest = sym (take-append-drop m xs) ∙ (λ i. front i ++ rest i) ∙ take-append-drop m ys
