-- Safe epochs.
use Rattle.std.specs.Prelude.{◌≡◌, ◌<◌, ℕ, Bool, true, List, Option, Some, slice_get, nat_lt}
use Rattle.std.specs.List.{list_all}
use Rattle.std.specs.Option.{option_map_or}

-- an epoch is safe where each entered slot's epoch is greater
abbrev pub IsSafeEpoch : List (Option ℕ) → ℕ → Type 0
IsSafeEpoch slots c = (slot e : ℕ) → slice_get slots slot ≡ Some (Some e) → c < e

-- the same, as a test
abbrev pub is_safe_epoch : List (Option ℕ) → ℕ → Bool
is_safe_epoch slots c = list_all (λ entered. option_map_or (nat_lt c) entered true) slots
