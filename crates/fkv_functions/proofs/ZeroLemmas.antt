-- Bytes that are zero, eight at a time.
use Rattle.std.proofs.Common.{◌≡◌, ◌<◌, ◌≤◌, ◌+◌, ◌-◌, ◌^◌, ℕ, List, ◌++◌, length, take, drop, replicate}
use Rattle.std.proofs.Common.{sym, ap, ◌∙◌, arith}
use Rattle.std.proofs.lemmas.List.{take-append-drop, take_rest, take-replicate, drop-drop, drop-replicate, replicate-append-replicate}
use Rattle.std.proofs.lemmas.Nat.{from_le_bytes-to_le_bytes_8}
use Rattle.std.proofs.Math.Seq.{take-add}
use Rattle.std.specs.Int.{w64, to_le_bytes, from_le_bytes}

-- eight zeros are the bytes of zero, and of no other number
pub zero-word : (n : ℕ) (word : List ℕ) → n < 2 ^ 64 → to_le_bytes w64 n ≡ word → word ≡ replicate 8 0 → n ≡ 0
zero-word n word h is zeros = sym (from_le_bytes-to_le_bytes_8 n h) ∙ ap (from_le_bytes w64) (is ∙ zeros)

pub word-zero : (n : ℕ) (word : List ℕ) → to_le_bytes w64 n ≡ word → n ≡ 0 → word ≡ replicate 8 0
word-zero n word is none = sym is ∙ ap (to_le_bytes w64) none

-- eight of many zeros
pub part-zero : (xs : List ℕ) (m e : ℕ) → e - m ≡ 8 → e ≤ length xs → xs ≡ replicate (length xs) 0 → take (e - m) (drop m xs) ≡ replicate 8 0
part-zero xs m e eight h zeros =
    ap (λ ys. take (e - m) (drop m ys)) zeros ∙ ap (take (e - m)) (drop-replicate m (length xs) 0) ∙ take-replicate (e - m) (length xs - m) 0 (omega arith) ∙ ap (λ n. replicate n 0) eight

-- eight more
pub more-zero : (xs : List ℕ) (m : ℕ) → take m xs ≡ replicate m 0 → take (m + 8 - m) (drop m xs) ≡ replicate 8 0 → take (m + 8) xs ≡ replicate (m + 8) 0
more-zero xs m first second =
    let eight : m + 8 - m ≡ 8 = omega arith in
    let next : take 8 (drop m xs) ≡ replicate 8 0 = ap (λ n. take n (drop m xs)) (sym eight) ∙ second in
    take-add m 8 xs ∙ ap (λ ys. ys ++ take 8 (drop m xs)) first ∙ ap (λ ys. replicate m 0 ++ ys) next ∙ replicate-append-replicate m 8 0

-- what is behind an address of which the last eight are zero
rest-zero : (xs : List ℕ) (low at : ℕ) → low ≤ at → take (length xs - low) (drop low xs) ≡ replicate 8 0 → drop at xs ≡ replicate (8 - (at - low)) 0
rest-zero xs low at h last =
    let split : low + (at - low) ≡ at = omega arith in
    let end : drop low xs ≡ replicate 8 0 = sym (take_rest xs low) ∙ last in
    ap (λ n. drop n xs) (sym split) ∙ sym (drop-drop (at - low) low xs) ∙ ap (drop (at - low)) end ∙ drop-replicate (at - low) 8 0

-- all are zero, where the first and the last of them are
pub all-zero : (xs : List ℕ) (low at : ℕ) → low ≤ at → at ≤ length xs → length xs - low ≡ 8 → take at xs ≡ replicate at 0 → take (length xs - low) (drop low xs) ≡ replicate 8 0 → xs ≡ replicate (length xs) 0
all-zero xs low at h most eight first last =
    let sum : at + (8 - (at - low)) ≡ length xs = omega arith in
    let joined : xs ≡ replicate at 0 ++ replicate (8 - (at - low)) 0 = sym (take-append-drop at xs) ∙ (λ i. first i ++ rest-zero xs low at h last i) in
    joined ∙ replicate-append-replicate at (8 - (at - low)) 0 ∙ ap (λ n. replicate n 0) sum
