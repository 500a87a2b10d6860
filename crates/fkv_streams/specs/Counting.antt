-- Counts of failures.
use Rattle.std.specs.Prelude.{◌≡◌, ◌≢◌, ◌+◌, ◌%◌, ◌^◌, ◌<◌, ℕ, Result, Err}
use Rattle.fkv_functions.specs.declared.refusals.Refused.{Refused}

-- the count after one more failure; it is kept modulo 2^64
abbrev pub one_more : ℕ → ℕ
one_more n = (n + 1) % 2 ^ 64

-- A call counted a failure exactly where it answered this refusal.
pub record CountsOnly {T : Type 0} (refusal : Refused) (answer : Result T Refused) (old new : ℕ) : Type 0 where
  pub counted : answer ≡ Err refusal → new ≡ one_more old
  pub steady : answer ≢ Err refusal → new ≡ old

-- a count is told from the one after it
abbrev pub CountsApart : Type 0
CountsApart = (n : ℕ) → n < 2 ^ 64 → one_more n ≢ n
