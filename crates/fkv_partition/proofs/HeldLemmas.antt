-- A record stands at each place from where the text begins to below the tail.
use Rattle.std.proofs.Common.{◌≡◌, ◌+◌, ◌^◌, ◌<◌, ◌≤◌, ℕ, Bool, true, false, cond, nat_le, IsSome, List, [], ◌∷◌, Some, None, unwrap_or, refl, subst, arith}
use Rattle.std.proofs.lemmas.Bool.Decides.{nat_tests}
use Rattle.fkv_records.specs.Places.{IsRecordStart, behind}
use Rattle.fkv_regions.specs.Agree.{IsMark}
use Rattle.fkv_regions.proofs.MoveLemmas.{mark-place}
use Rattle.fkv_texts.specs.declared.entries.Entry.{Entry}
use Rattle.fkv_texts.specs.Places.{IsLaidOut, tail_after}
use Rattle.fkv_texts.specs.Text.{entry_at}
use Rattle.fkv_texts.proofs.PlaceLemmas.{entry_there}
use Rattle.fkv_hybrid.proofs.PageLemmas.{begin_place, begins_low}
use Rattle.fkv_lookups.specs.RecordsViews.{RecordsView}
use Rattle.fkv_lookups.specs.Traced.{IsTraced}

after-most : (bits size a : ℕ) → tail_after bits size a ≤ 2 ^ 48
after-most bits size a = by_next (behind bits size a) (nat_le (behind bits size a + size) (2 ^ 48)) refl
  where
    by_next : (b : ℕ) (t : Bool) → nat_le (b + size) (2 ^ 48) ≡ t → unwrap_or (cond t (Some b) None) (2 ^ 48) ≤ 2 ^ 48
    by_next b true is = grind (arith, nat_tests)
    by_next b false is = omega arith

tail-most : {K V : Type 0} (bits size begin tail : ℕ) (text : List (Entry K V)) → begin ≤ 2 ^ 48 → IsLaidOut bits size begin tail text → tail ≤ 2 ^ 48
tail-most bits size begin tail [] le h = let same : begin ≡ tail = h in omega arith
tail-most bits size begin tail (e ∷ es) le h = tail-most bits size (tail_after bits size begin) tail es (after-most bits size begin) h.2

module _ {K V : Type 0} {keeps : Bool} {code : K → ℕ} (v : RecordsView K V) (t : IsTraced keeps code v) where
  first-low : v.log.from ≤ 2 ^ 48
  first-low =
      let o = t.regions.agree.in_order in
      rw t.begins (begins_low keeps v.log.begin v.log.regions.offsets.closed (2 ^ 48) (omega (arith, t.regions.headed, o.head, o.safe, o.most)) (omega (arith, o.closed, o.head, o.safe, o.most)))

  first-place : v.log.from < 2 ^ 48 → IsRecordStart v.log.bits v.record_size v.log.from
  first-place =
      let o = t.regions.agree.in_order in
      let marked = subst (λ bits. IsMark bits v.log.regions.offsets.closed) t.regions.bits o.closed_mark in
      rw t.begins (begin_place v.log.bits v.record_size v.log.begin v.log.regions.offsets.closed
      (mark-place v.log.bits v.record_size v.log.begin t.shape t.marked t.first)
      (mark-place v.log.bits v.record_size v.log.regions.offsets.closed t.shape marked o.first) keeps)

  pub place-held : (a : ℕ) → IsRecordStart v.log.bits v.record_size a → v.log.from ≤ a → a < v.log.tail → IsSome (entry_at v.text a)
  place-held a place low high =
      entry_there v.log.bits v.record_size t.shape v.log.from v.log.tail a v.text first-place
      (tail-most v.log.bits v.record_size v.log.from v.log.tail v.text first-low t.laid_out) t.laid_out place low high
