-- Why a page that was written is not taken in.
use Rattle.std.specs.Prelude.{◌==◌, ℕ, List, [], ◌∷◌, length, Option, Some, None, option_map, if◌then◌else◌}
use Rattle.fkv_functions.specs.declared.refusals.Refused.{Refused}
use Rattle.fkv_functions.specs.declared.refusals.Refused.TheVariants.{NotDue, Stranger}
use Rattle.fkv_functions.specs.declared.refusals.What.TheVariants.{Page, Bytes}
use Rattle.fkv_hybrid.specs.Views.{LogView}

-- the two numbers at the first place where two lists differ, as far as both go
abbrev pub first_difference : List ℕ → List ℕ → Option (ℕ × ℕ)
first_difference [] came = None
first_difference (x ∷ xs) [] = None
first_difference (x ∷ xs) (y ∷ ys) = if x == y then first_difference xs ys else Some (x, y)

-- how two lists differ: by their lengths, or by the two numbers at the first place where they do
abbrev pub difference : List ℕ → List ℕ → Option (ℕ × ℕ)
difference held came =
    if length held == length came then first_difference held came else Some (length held, length came)

-- why these bytes are not those of the lowest waiting page: none waits, or they differ
abbrev pub bytes_refusal : List (List ℕ) → List ℕ → Option Refused
bytes_refusal [] came = Some NotDue
bytes_refusal (held ∷ rest) came = option_map (λ d. Stranger Bytes d.0 d.1) (difference held came)

-- why a page with these bytes is not taken in: another page is the lowest that is not flushed, or that one does not wait
-- yet, or it has other bytes
abbrev pub flush_refusal : {K V : Type 0} → LogView K V → ℕ → List ℕ → Option Refused
flush_refusal log page came =
    if page == length log.receipts then bytes_refusal log.waiting came
    else Some (Stranger Page (length log.receipts) page)
