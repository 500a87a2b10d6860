-- What belongs to memory or to another device, and what stands for a page of either.
use Rattle.std.specs.Prelude.{ℕ, ◌∷◌, Bool, true, false, Option, Some, None}
use Rattle.fkv_device.specs.Standing.{Standing}
use Rattle.fkv_either.specs.declared.either.Either.{Either}
use Rattle.fkv_either.specs.declared.either.Either.TheVariants.{Memory, Other}

-- a number of what belongs to memory, or of what belongs to the other device
abbrev pub number_at : {M R : Type 0} → (M → ℕ) → (R → ℕ) → Either M R → ℕ
number_at memory other (Memory x) = memory x
number_at memory other (Other y) = other y

-- a number of what belongs to the other device where there is one, else of what belongs to memory
abbrev pub part_at : {M R : Type 0} → (M → ℕ) → (R → ℕ) → M → Option R → ℕ
part_at memory other x None = memory x
part_at memory other x (Some y) = other y

-- this holds of what belongs to memory, or that of what belongs to the other device
abbrev pub HoldsAt : {M R : Type 0} → (M → Type 0) → (R → Type 0) → Either M R → Type 0
HoldsAt memory other (Memory x) = memory x
HoldsAt memory other (Other y) = other y

abbrev pub is_memory : {M R : Type 0} → Either M R → Bool
is_memory (Memory x) = true
is_memory (Other y) = false

-- there is no other device
abbrev pub is_absent : {T : Type 0} → Option T → Bool
is_absent None = true
is_absent (Some x) = false

-- how often the other device has failed, where there is one
abbrev pub failures_of : {T : Type 0} → (T → ℕ) → Option T → ℕ
failures_of failures None = 0
failures_of failures (Some x) = failures x

-- the same, on the device of this number
abbrev pub marked : ℕ → Standing → Standing
marked device s = record { number = s.number; page = s.page; length = s.length; bytes = s.bytes; mark = device ∷ s.mark }

-- what stands for a page: the mark of one in memory begins with 0, and of one on the other device with 1
abbrev pub stands_at : {M R : Type 0} → (M → Standing) → (R → Standing) → Either M R → Standing
stands_at memory other (Memory x) = marked 0 (memory x)
stands_at memory other (Other y) = marked 1 (other y)

-- what holds wherever a read by a receipt comes to a fault: of a page on the other device nothing more is said, since a reader
-- may lack that device
abbrev pub CanFailToRead : {M R : Type 0} → (M → ℕ → Type 0) → Either M R → ℕ → Type 0
CanFailToRead memory (Memory x) size = memory x size
CanFailToRead memory (Other y) size = Unit {0}
