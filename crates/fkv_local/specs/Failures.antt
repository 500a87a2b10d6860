-- How often a partition's ends at a device have failed.
use Rattle.std.specs.Prelude.{◌≡◌, ◌+◌, ◌⊎◌, ℕ, Bool, false}

-- the failures of its writer and of its reader
pub record Failures : Type 0 where
  pub writes : ℕ
  pub reads : ℕ

-- those of a writer and a reader, which count them
abbrev pub failures_of : {W P : Type 0} → (W → ℕ) → (P → ℕ) → W → P → Failures
failures_of writes reads writer reader = record { writes = writes writer; reads = reads reader }

-- one of the two has failed once, or none
abbrev pub FailsOnceAtMost : Failures → Failures → Type 0
FailsOnceAtMost old now =
    (now ≡ old)
    ⊎ (now ≡ record old { writes = old.writes + 1 })
    ⊎ (now ≡ record old { reads = old.reads + 1 })

-- what a compaction that a store began by itself leaves of them, which tells of no failure; where logs are kept there is none
abbrev pub IsBeside : Bool → Failures → Failures → Type 0
IsBeside keeps_log old now = (now ≡ old) ⊎ ((keeps_log ≡ false) × FailsOnceAtMost old now)
