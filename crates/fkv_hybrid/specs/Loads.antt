-- What a reader of one loaded page comes to.
use Rattle.std.specs.Prelude.{◌≡◌, ◌+◌, ◌<◌, ◌≤◌, ℕ, List, true, false, Option, Some, IsSome, Result, Ok, Err}
use Rattle.std.specs.declared.cmp.Ordering.{Ordering}
use Rattle.fkv_functions.specs.declared.refusals.Refused.{Refused}
use Rattle.fkv_functions.specs.declared.refusals.Refused.TheVariants.{Damaged}
use Rattle.fkv_records.specs.Places.{page_at, start_at, first_offset}
use Rattle.fkv_device.specs.Standing.{Standing}
use Rattle.fkv_texts.specs.declared.entries.Entry.{Entry}
use Rattle.fkv_texts.specs.declared.entries.ChainPosition.{ChainPosition}
use Rattle.fkv_texts.specs.declared.entries.ChainPosition.TheVariants.{Found, Below}
use Rattle.fkv_texts.specs.Text.{has_key}
use Rattle.fkv_hybrid.specs.Views.{receipt_at}

-- the receipt of a page stands for this
abbrev pub IsHeldBy : List (Option Standing) → ℕ → Standing → Type 0
IsHeldBy receipts page s = receipt_at receipts page ≡ Some s

-- a page is flushed, and its receipt was not let go
abbrev pub HasReceipt : List (Option Standing) → ℕ → Type 0
HasReceipt receipts page = IsSome (receipt_at receipts page)

-- where the first record of a page stands
abbrev pub first_place : ℕ → ℕ → ℕ
first_place bits page = start_at bits page + first_offset page

-- from an address along the previous addresses that a page's bytes spell, down to an address: to the first entry of the
-- key, to below, or to where the bytes spell no entry
pub data IsReached {K V : Type 0} (entry : ℕ → Entry K V → Type 0) (cmp : K → K → Ordering) (k : K) (bits low : ℕ)
    : ℕ → Result (ChainPosition K V) Refused → Type 0 where
  below : {a : ℕ} → a < low → IsReached entry cmp k bits low a (Ok (Below a))
  none : {a : ℕ}
      → low ≤ a
      → ((e : Entry K V) → entry a e → ⊥)
      → IsReached entry cmp k bits low a (Err (Damaged (page_at bits a)))
  found : {a : ℕ} {e : Entry K V}
      → low ≤ a
      → entry a e
      → has_key cmp k e ≡ true
      → IsReached entry cmp k bits low a (Ok (Found e))
  on : {a : ℕ} {e : Entry K V} {r : Result (ChainPosition K V) Refused}
      → low ≤ a
      → entry a e
      → has_key cmp k e ≡ false
      → IsReached entry cmp k bits low e.previous r
      → IsReached entry cmp k bits low a r
