-- Counters: what the inputs of a key add up to, modulo 2^64.
use Rattle.std.specs.Prelude.{◌+◌, ◌%◌, ◌^◌, ℕ, Some}
use Rattle.std.proofs.Common.{refl}
use Rattle.fkv_functions.specs.Meanings.{Meanings, Parts, Merges}

-- what the functions of counters mean: a read shows the counter
abbrev pub counters : {K : Type 0} → Meanings K ℕ ℕ ℕ
counters = record {
  first = λ k i. Some i;
  next = λ k v i. Some ((v + i) % 2 ^ 64);
  shown = λ k i v. v;
}

-- an input is the part, and parts are added
abbrev pub counter_parts : {K : Type 0} → Parts K ℕ ℕ
counter_parts = record { delta = λ k i. i; joined = λ v w. (v + w) % 2 ^ 64 }

pub counters_merge : {K : Type 0} → Merges (counters {K = K}) counter_parts
counters_merge = record { first = λ k i. refl; next = λ k v i. refl }
