-- The laws of the latest inputs: their bytes are sixteen, and tell them apart; updates are joins, and parts may be joined first.
use Rattle.std.specs.Prelude.{◌≡◌, ◌+◌, ◌%◌, ◌^◌, ℕ, List, length, take, drop}
use Rattle.std.specs.Int.{w64, to_le_bytes}
use Rattle.std.proofs.Common.{arith, refl, ap}
use Rattle.fkv_functions.specs.Codecs.{Codec}
use Rattle.fkv_functions.specs.Integers.{signed_bytes, word_readable, signed_readable}
use Rattle.fkv_functions.specs.Meanings.{Merges}
use Rattle.fkv_example.specs.declared.latest_inputs.Latest.{Latest}
use Rattle.fkv_example.specs.LatestInputs.{IsLatest, latest_bytes, latest_inputs, latest_parts, with_later}

-- two of the same numbers are one
pub same_numbers : (s t : Latest) → s.count ≡ t.count → s.last ≡ t.last → s ≡ t
same_numbers s t a b = λ i. record { count = a i; last = b i }

pub latest_sized : (s : Latest) → length (latest_bytes s) ≡ 16
latest_sized s = refl

pub latest_readable : (s t : Latest) → IsLatest s → IsLatest t → latest_bytes s ≡ latest_bytes t → s ≡ t
latest_readable s t h k e =
    same_numbers s t
    (word_readable s.count t.count h.count k.count (ap (take 8) e))
    (signed_readable s.last t.last h.last k.last (ap (drop 8) e))

-- how they are written
abbrev pub latest_codec : Codec Latest 16
latest_codec =
    record { is_known = IsLatest; bytes_of = latest_bytes; sized = λ s h. latest_sized s; readable = latest_readable }

-- where the bytes of one are these, its parts are theirs
pub record ArePartsOf (s : Latest) (bytes : List ℕ) : Type 0 where
  pub count : to_le_bytes w64 s.count ≡ take 8 bytes
  pub last : signed_bytes s.last ≡ drop 8 bytes

pub parts_of : (s : Latest) (bytes : List ℕ) → latest_bytes s ≡ bytes → ArePartsOf s bytes
parts_of s bytes e = record { count = ap (take 8) e; last = ap (drop 8) e }

-- updates are joins, and of three the later two may be joined first
pub latest_merge : {K : Type 0} → Merges (latest_inputs {K = K}) latest_parts
latest_merge = record { first = λ k i. refl; next = λ k s i. refl }

count_associative : (u v w : ℕ) → ((u + v) % 2 ^ 64 + w) % 2 ^ 64 ≡ (u + (v + w) % 2 ^ 64) % 2 ^ 64
count_associative u v w = omega arith

pub latest_associative : (s t u : Latest) → with_later (with_later s t) u ≡ with_later s (with_later t u)
latest_associative s t u = same_numbers _ _ (count_associative s.count t.count u.count) refl
