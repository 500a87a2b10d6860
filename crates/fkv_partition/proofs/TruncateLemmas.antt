-- What cutting the start of the log is told to do.
use Rattle.std.proofs.Common.{Bool, ℕ, ◌+◌, ◌*◌, ◌/◌, ◌^◌, ◌<◌, ◌≤◌, List, Result, arith}
use Rattle.std.proofs.lemmas.Nat.{div-add-mod', pow_pos, mul-le}
use Rattle.std.proofs.Math.Nat.{mod-lt}
use Rattle.std.specs.declared.cmp.Ordering.{Ordering}
use Rattle.fkv_functions.specs.declared.refusals.Refused.{Refused}
use Rattle.fkv_records.specs.Places.{page_at, start_at}
use Rattle.fkv_records.proofs.PlaceLemmas.{next_start}
use Rattle.fkv_texts.specs.declared.entries.Entry.{Entry}
use Rattle.fkv_texts.specs.Deltas.{IsCleared}
use Rattle.fkv_partition.specs.Views.{PartitionView}
use Rattle.fkv_partition.specs.Cutting as partition
use Rattle.fkv_partition.specs.Truncating.{Truncates}

-- ---- the start of a page, and an address
pub page-low : (bits page a : ℕ) → page ≤ page_at bits a → start_at bits page ≤ a
page-low bits page a low =
    let whole = div-add-mod' a (2 ^ bits) in
    let up : page * 2 ^ bits ≤ a / 2 ^ bits * 2 ^ bits = mul-le page (2 ^ bits) (a / 2 ^ bits) (2 ^ bits) low (omega arith) in
    omega (arith, whole, up)

pub page-high : (bits page a : ℕ) → page_at bits a < page → start_at bits page ≤ a → ⊥
page-high bits page a high low =
    let whole = div-add-mod' a (2 ^ bits) in
    let under = mod-lt a (pow_pos bits) in
    let next = next_start (a / 2 ^ bits) (2 ^ bits) in
    let up : (a / 2 ^ bits + 1) * 2 ^ bits ≤ page * 2 ^ bits = mul-le (a / 2 ^ bits + 1) (2 ^ bits) page (2 ^ bits) (omega arith) (omega arith) in
    omega (arith, whole, under, next, up, low)

pub cleared-below : {K V : Type 0} (cmp : K → K → Ordering) (text : List (Entry K V)) (low limit : ℕ) → low ≤ limit → IsCleared cmp text limit → IsCleared cmp text low
cleared-below cmp text low limit le h = λ e here under. h e here (omega arith)

-- ---- the log's start is cut
-- what is told of it, where nothing goes that is not cleared
pub truncates-told : {K V I : Type 0} (keeps : Bool) (v : PartitionView K V I) (new : PartitionView K V I) (page now : ℕ) (result : Result (Unit {0}) Refused) → start_at v.records.log.bits page ≤ v.cleared
    → partition.Truncates keeps v new page now result → Truncates keeps v new page now result
truncates-told keeps v new page now result low (partition.Truncates.not_due n is r) = Truncates.not_due (λ d. n d.due) is r
truncates-told keeps v new page now result low (partition.Truncates.truncates due is r) = Truncates.truncates (record { due = due; cleared = low }) is r
