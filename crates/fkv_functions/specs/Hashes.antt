-- Hashes of 64 bits: FNV-1a, as published by Fowler, Noll and Vo; and one of whole numbers.
use Rattle.std.specs.Prelude.{◌*◌, ◌/◌, ◌%◌, ◌^◌, ℕ, List, fold, bit_xor}

abbrev pub offset_basis : ℕ
offset_basis = 14695981039346656037

abbrev pub prime : ℕ
prime = 1099511628211

-- exclusive-or the byte into the hash, and then multiply by the prime
abbrev pub mixed : ℕ → ℕ → ℕ
mixed hash byte = (bit_xor hash byte * prime) % 2 ^ 64

-- the bytes mixed in, one after the other
abbrev pub fnv_1a : List ℕ → ℕ
fnv_1a bytes = fold mixed offset_basis bytes

-- the highest bits of a word folded onto its lowest
abbrev pub folded_down : ℕ → ℕ
folded_down word = bit_xor word (word / 2 ^ 33)

-- the last steps of the hash MurmurHash3, as published by Appleby
abbrev pub fmix_64 : ℕ → ℕ
fmix_64 word = folded_down (folded_down (folded_down word * 18397679294719823053 % 2 ^ 64) * 14181476777654086739 % 2 ^ 64)
