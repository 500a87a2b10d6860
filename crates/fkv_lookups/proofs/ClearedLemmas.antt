-- Records that are superseded, and texts that are cleared.
use Rattle.std.proofs.Common.{◌≡◌, Bool, true, false, cond, ℕ, ◌+◌, ◌^◌, ◌<◌, ◌≤◌, ◌==◌, inl, inr, List, [], ◌∷◌, ◌++◌, Option, Some, None, nat_le, unwrap_or, refl, sym, ◌∙◌, ap, subst, arith}
use Rattle.std.proofs.lemmas.Bool.{cases_lt, cases_eq}
use Rattle.std.proofs.lemmas.Bool.Decides.{nat_tests}
use Rattle.std.specs.declared.cmp.Ordering.{Ordering}
use Rattle.std.specs.BTreeMap.{is_at}
use Rattle.fkv_functions.specs.Plain.{Same, IsKeyOrder}
use Rattle.fkv_records.specs.Places.{IsRecordStart, behind}
use Rattle.fkv_regions.specs.Agree.{IsMark}
use Rattle.fkv_regions.proofs.MoveLemmas.{mark-place}
use Rattle.fkv_texts.specs.declared.entries.Entry.{Entry}
use Rattle.fkv_texts.specs.Places.{tail_after, IsLaidOut}
use Rattle.fkv_texts.specs.Text.{entry_at, live}
use Rattle.fkv_texts.specs.Chains.{IsIn}
use Rattle.fkv_texts.proofs.LastWhere.{last_where-in}
use Rattle.fkv_texts.proofs.TextLemmas.{live-append}
use Rattle.fkv_texts.proofs.CoverLemmas.{covered-new}
use Rattle.fkv_texts.proofs.PlaceLemmas.{stands, after-nearest}
use Rattle.fkv_hybrid.proofs.PageLemmas.{begin_place, begins_low}
use Rattle.fkv_lookups.specs.RecordsViews.{RecordsView}
use Rattle.fkv_lookups.specs.Traced.{IsTraced}
use Rattle.fkv_texts.specs.Deltas.{IsSuperseded, IsCleared}

module _ {K V : Type 0} (cmp : K → K → Ordering) (text : List (Entry K V)) where
  -- ---- a record is appended again
  pub superseded-renewed : IsKeyOrder cmp → (n e : Entry K V) → n.key ≡ e.key → n.delta ≡ false → e.address < n.address → IsSuperseded cmp (text ++ n ∷ []) e
  superseded-renewed order n e key whole low = inr (covered-new cmp text n e (ap (λ (q : K). is_at (cmp q) e.key) key ∙ order.self e.key) whole low)

  renewed-test : (b : Bool) (v l : Option V) → (b ≡ true → l ≡ v) → cond b v l ≡ l
  renewed-test true v l h = sym (h refl)
  renewed-test false v l h = refl

  pub lives-renewed : IsKeyOrder cmp → (n : Entry K V) → live cmp text n.key ≡ n.value → Same (live cmp (text ++ n ∷ [])) (live cmp text)
  lives-renewed order n held q =
      live-append cmp text n q
      ∙ renewed-test (is_at (cmp n.key) q) n.value (live cmp text q) (λ t. ap (live cmp text) (sym (order.same n.key q t)) ∙ held)

-- ---- the limit goes on to the next place
after-most : (bits size a : ℕ) → tail_after bits size a ≤ 2 ^ 48
after-most bits size a = by_next (behind bits size a) (nat_le (behind bits size a + size) (2 ^ 48)) refl
  where
    by_next : (b : ℕ) (t : Bool) → nat_le (b + size) (2 ^ 48) ≡ t → unwrap_or (cond t (Some b) None) (2 ^ 48) ≤ 2 ^ 48
    by_next b true is = grind (arith, nat_tests)
    by_next b false is = omega arith

tail-most : {K V : Type 0} (bits size begin tail : ℕ) (text : List (Entry K V)) → begin ≤ 2 ^ 48 → IsLaidOut bits size begin tail text → tail ≤ 2 ^ 48
tail-most bits size begin tail [] le h = let same : begin ≡ tail = h in omega arith
tail-most bits size begin tail (e ∷ es) le h = tail-most bits size (tail_after bits size begin) tail es (after-most bits size begin) h.2

module _ {K V : Type 0} {keeps : Bool} {code : K → ℕ} (v : RecordsView K V) (t : IsTraced keeps code v) where
  -- where the text begins is a place, no higher than 2^48
  first-low : v.log.from ≤ 2 ^ 48
  first-low =
      let o = t.regions.agree.in_order in
      rw t.begins (begins_low keeps v.log.begin v.log.regions.offsets.closed (2 ^ 48) (omega (arith, t.regions.headed, o.head, o.safe, o.most)) (omega (arith, o.closed, o.head, o.safe, o.most)))

  first-place : v.log.from < 2 ^ 48 → IsRecordStart v.log.bits v.record_size v.log.from
  first-place =
      let o = t.regions.agree.in_order in
      let marked = subst (λ bits. IsMark bits v.log.regions.offsets.closed) t.regions.bits o.closed_mark in
      rw t.begins (begin_place v.log.bits v.record_size v.log.begin v.log.regions.offsets.closed
      (mark-place v.log.bits v.record_size v.log.begin t.shape t.marked t.first)
      (mark-place v.log.bits v.record_size v.log.regions.offsets.closed t.shape marked o.first) keeps)

  record-place : (e : Entry K V) → IsIn v.text e → IsRecordStart v.log.bits v.record_size e.address
  record-place e m =
      let most = tail-most v.log.bits v.record_size v.log.from v.log.tail v.text first-low t.laid_out in
      let s = stands v.log.bits v.record_size t.shape v.log.from v.log.tail v.text first-place most t.laid_out m.place e m.here in
      s.place

  pub cleared-raised : (cmp : K → K → Ordering) (limit : ℕ)
      → IsRecordStart v.log.bits v.record_size limit
      → IsCleared cmp v.text limit
      → ((e : Entry K V) → entry_at v.text limit ≡ Some e → IsSuperseded cmp v.text e)
      → IsCleared cmp v.text (tail_after v.log.bits v.record_size limit)
  cleared-raised cmp limit place h superseded e here under = elim (cases_lt e.address limit) [
    | inl low ↦ h e here low
    | inr high ↦ elim (cases_eq e.address limit) [
      | inl same ↦ superseded e (subst (λ a. entry_at v.text a ≡ Some e) same here)
      | inr ne ↦
          (let less : limit < e.address = grind (arith, ne) in
          let there = record-place e (last_where-in (λ x. x.address == e.address) v.text e here) in
          let next = after-nearest v.log.bits v.record_size t.shape limit e.address place there less in
          absurd (omega arith))
    ]
  ]

  -- a record stands below the tail
  pub record-low : (limit : ℕ) (e : Entry K V) → entry_at v.text limit ≡ Some e → e.address < v.log.tail
  record-low limit e here = let m = last_where-in (λ x. x.address == limit) v.text e here in t.below m.place e m.here
