-- What calls of a device are refused by, and what the count of failures then is.
use Rattle.std.specs.Prelude.{◌≡◌, ◌+◌, ◌⊎◌, ℕ}
use Rattle.fkv_functions.specs.declared.refusals.Refused.{Refused}
use Rattle.fkv_functions.specs.declared.refusals.Refused.TheVariants as refused

-- Want of memory, which is not counted, or this refusal, which is counted once.
abbrev pub Tells : Refused → ℕ → ℕ → Refused → Type 0
Tells refusal old new e = ((e ≡ refused.NoMemory) × (new ≡ old)) ⊎ ((e ≡ refusal) × (new ≡ old + 1))

-- Want of memory, or a fault of the device with this code on this page.
abbrev pub FailsOnlyBy : ℕ → ℕ → ℕ → ℕ → Refused → Type 0
FailsOnlyBy code page old new e = Tells (refused.Device code page) old new e

-- The same of a read of this page, which may be damaged too.
abbrev pub ReadFailsBy : ℕ → ℕ → ℕ → Refused → Type 0
ReadFailsBy page old new e = FailsOnlyBy 3 page old new e ⊎ ((e ≡ refused.Damaged page) × (new ≡ old + 1))
