-- Where the entries of a text stand: at places, one behind the other, and each place below the tail has one.
use Rattle.std.proofs.Common.{◌≡◌, ◌≢◌, ◌+◌, ◌*◌, ◌^◌, ◌<◌, ◌≤◌, ◌⊎◌, inl, inr, ℕ, zero, suc, true, false, cond, List, [], ◌∷◌, ◌++◌, Option, Some, None, IsSome, slice_get, refl, sym, ◌∙◌, ap, subst, arith, nat_le, IsSomeAnd, ◌==◌}
use Rattle.std.proofs.lemmas.Bool.Decides.{nat_tests}
use Rattle.std.proofs.lemmas.Bool.{cases_lt, eqb-true, eq-eqb}
use Rattle.fkv_records.specs.Places.{IsShape, place_after, IsRecordStart, next}
use Rattle.fkv_records.proofs.PlaceLemmas.{place_rises, place_ends, place_nearest}
use Rattle.fkv_texts.specs.declared.entries.Entry.{Entry}
use Rattle.fkv_texts.specs.Text.{entry_at, AllAbove, IsRising}
use Rattle.fkv_texts.specs.Chains.{IsIn}
use Rattle.fkv_texts.specs.Places.{tail_after, IsLaidOut}
use Rattle.fkv_texts.proofs.LastWhere.{last_where-found, last_where-in, none-passes}

-- the tail after a record, by the next place
pub after_some : (bits size a b : ℕ) → place_after bits size a ≡ Some b → tail_after bits size a ≡ b
after_some bits size a b e = rw e refl

pub after_none : (bits size a : ℕ) → place_after bits size a ≡ None → tail_after bits size a ≡ 2 ^ 48
after_none bits size a e = rw e refl

-- the next place stands in the page, or at its end
pub next_way : (a e size b : ℕ)
    → cond (nat_le (cond (nat_le (a + 2 * size) e) (a + size) e + size) (2 ^ 48)) (Some (cond (nat_le (a + 2 * size) e) (a + size) e)) None ≡ Some b
    → ((a + 2 * size ≤ e) × (b ≡ a + size)) ⊎ (b ≡ e)
next_way a e size b h = grind (arith, nat_tests, h)

module _ (bits size : ℕ) (s : IsShape bits size) where
  -- the tail rises, stays at or below 2^48, and is behind the record
  pub record After (a b : ℕ) : Type 0 where
    pub above : a < b
    pub behind : a + size ≤ b
    pub most : b ≤ 2 ^ 48
    pub place : b < 2 ^ 48 → IsRecordStart bits size b

  pub after : (a : ℕ) → IsRecordStart bits size a → After a (tail_after bits size a)
  after a p = by_next (place_after bits size a) refl
    where
      by_next : (o : Option ℕ) → place_after bits size a ≡ o → After a (tail_after bits size a)
      by_next None e =
          let ends = place_ends bits size s a p in
          rw (after_none bits size a e) (record { above = omega (arith, ends, s.some); behind = ends; most = omega arith; place = λ h. absurd (omega arith) })
      by_next (Some b) e =
          let rises = place_rises bits size s a b p e in
          let there = next p e in
          let ends = place_ends bits size s b there in
          rw (after_some bits size a b e) (record { above = omega (arith, rises, s.some); behind = rises; most = omega (arith, ends); place = λ h. there })

  pub tail_rises : (a : ℕ) → IsRecordStart bits size a → a ≤ tail_after bits size a
  tail_rises a p = let t = after a p in omega (arith, t.above)

  -- and no place is passed over
  pub after-nearest : (a b : ℕ) → IsRecordStart bits size a → IsRecordStart bits size b → a < b → tail_after bits size a ≤ b
  after-nearest a b p q less = by_next (place_after bits size a) refl (place_nearest bits size s a b p q less)
    where
      by_next : (o : Option ℕ) → place_after bits size a ≡ o → IsSomeAnd (place_after bits size a) (λ c. c ≤ b) → tail_after bits size a ≤ b
      by_next None e n = let none : IsSomeAnd None (λ c. c ≤ b) = rw e at n in absurd none
      by_next (Some c) e n = let le : c ≤ b = rw e at n in rw (after_some bits size a c e) le

  -- two records lie apart
  pub apart : (a b : ℕ) → IsRecordStart bits size a → IsRecordStart bits size b → a ≢ b → (a + size ≤ b) ⊎ (b + size ≤ a)
  apart a b p q ne = elim (cases_lt a b) [
    | inl less ↦ (let t = after a p in let n = after-nearest a b p q less in inl (omega (arith, t.behind)))
    | inr more ↦
        (let less : b < a = grind (arith, ne) in
        let t = after b q in
        let n = after-nearest b a q p less in
        inr (omega (arith, t.behind)))
  ]

  -- where an entry of a text stands
  pub record Stands (begin tail a : ℕ) : Type 0 where
    pub place : IsRecordStart bits size a
    pub low : begin ≤ a
    pub high : a + size ≤ tail

  module _ {K V : Type 0} where
    pub laid_out-le : (begin tail : ℕ) (text : List (Entry K V)) → IsLaidOut bits size begin tail text → begin ≤ tail
    laid_out-le begin tail [] h = let e : begin ≡ tail = h in omega arith
    laid_out-le begin tail (e ∷ es) h = let l : begin < tail = h.1 in omega arith

    -- premise of what follows: the first address is a place, unless it is the end of all
    pub stands : (begin tail : ℕ) (text : List (Entry K V)) → (begin < 2 ^ 48 → IsRecordStart bits size begin) → tail ≤ 2 ^ 48 → IsLaidOut bits size begin tail text
        → (i : ℕ) (e : Entry K V) → slice_get text i ≡ Some e → Stands begin tail e.address
    stands begin tail [] p most h i e g = absurd (cc)
    stands begin tail (x ∷ xs) p most h zero e g =
        let on : begin < tail = h.1 in
        let place = p (omega arith) in
        let same : x ≡ e = cc in
        let at : e.address ≡ begin = sym (ap (λ (w : Entry K V). w.address) same) ∙ h.0 in
        let t = after begin place in
        let le = laid_out-le (tail_after bits size begin) tail xs h.2 in
        rw at (record { place = place; low = omega arith; high = omega (arith, le, t.behind) })
    stands begin tail (x ∷ xs) p most h (suc i) e g =
        let on : begin < tail = h.1 in
        let t = after begin (p (omega arith)) in
        let r = stands (tail_after bits size begin) tail xs t.place most h.2 i e g in
        record { place = r.place; low = omega (arith, r.low, t.above); high = r.high }

    -- addresses rise
    above-all : (a begin tail : ℕ) (text : List (Entry K V)) → (begin < 2 ^ 48 → IsRecordStart bits size begin) → tail ≤ 2 ^ 48 → IsLaidOut bits size begin tail text → a < begin → AllAbove a text
    above-all a begin tail [] p most h l = tt
    above-all a begin tail (e ∷ es) p most h l =
        let on : begin < tail = h.1 in
        let t = after begin (p (omega arith)) in
        let at : e.address ≡ begin = h.0 in
        (omega arith, above-all a (tail_after bits size begin) tail es t.place most h.2 (omega (arith, t.above)))

    pub rising : (begin tail : ℕ) (text : List (Entry K V)) → (begin < 2 ^ 48 → IsRecordStart bits size begin) → tail ≤ 2 ^ 48 → IsLaidOut bits size begin tail text → IsRising text
    rising begin tail [] p most h = tt
    rising begin tail (e ∷ es) p most h =
        let on : begin < tail = h.1 in
        let t = after begin (p (omega arith)) in
        let at : e.address ≡ begin = h.0 in
        (above-all e.address (tail_after bits size begin) tail es t.place most h.2 (omega (arith, t.above)), rising (tail_after bits size begin) tail es t.place most h.2)

    -- one more entry at the tail
    pub laid_out-append : (begin tail : ℕ) (text : List (Entry K V)) (e : Entry K V) → IsLaidOut bits size begin tail text → e.address ≡ tail → tail < tail_after bits size tail
        → IsLaidOut bits size begin (tail_after bits size tail) (text ++ e ∷ [])
    laid_out-append begin tail [] e h at on = let same : begin ≡ tail = h in rw same (at, on, refl)
    laid_out-append begin tail (x ∷ xs) e h at on =
        let below : begin < tail = h.1 in
        (h.0, omega arith, laid_out-append (tail_after bits size begin) tail xs e h.2 at on)

    -- each place below the tail has an entry
    pub place_has_entry : (begin tail a : ℕ) (text : List (Entry K V)) → (begin < 2 ^ 48 → IsRecordStart bits size begin) → tail ≤ 2 ^ 48 → IsLaidOut bits size begin tail text
        → IsRecordStart bits size a → begin ≤ a → a < tail → (e : Entry K V) × (IsIn text e × (e.address ≡ a))
    place_has_entry begin tail a [] p most h q low high = let same : begin ≡ tail = h in absurd (omega arith)
    place_has_entry begin tail a (x ∷ xs) p most h q low high =
        let on : begin < tail = h.1 in
        let place = p (omega arith) in
        let t = after begin place in
        elim (cases_lt begin a) [
          | inr last ↦ (let at : x.address ≡ begin = h.0 in (x, (record { place = zero; here = refl }, omega arith)))
          | inl less ↦
              (let r = place_has_entry (tail_after bits size begin) tail a xs t.place most h.2 q (after-nearest begin a place q less) high in
              (r.0, (record { place = suc r.1.0.place; here = r.1.0.here }, r.1.1)))
        ]

    pub entry_there : (begin tail a : ℕ) (text : List (Entry K V)) → (begin < 2 ^ 48 → IsRecordStart bits size begin) → tail ≤ 2 ^ 48 → IsLaidOut bits size begin tail text
        → IsRecordStart bits size a → begin ≤ a → a < tail → IsSome (entry_at text a)
    entry_there begin tail a text p most h q low high =
        let r = place_has_entry begin tail a text p most h q low high in
        by_last (entry_at text a) refl r.0 r.1.0 r.1.1
      where
        by_last : (o : Option (Entry K V)) → entry_at text a ≡ o → (e : Entry K V) → IsIn text e → e.address ≡ a → IsSome (entry_at text a)
        by_last (Some x) l e m at = rw l refl
        by_last None l e m at = absurd (
            let no : (e.address == a) ≡ false = none-passes (λ x. x.address == a) text l m.place e m.here in
            let yes : (e.address == a) ≡ true = eq-eqb e.address a at in cc)

    -- and an entry that is found stands at its address
    pub entry_found : (text : List (Entry K V)) (a : ℕ) (e : Entry K V) → entry_at text a ≡ Some e → IsIn text e × (e.address ≡ a)
    entry_found text a e l = (last_where-in (λ x. x.address == a) text e l, eqb-true e.address a (last_where-found (λ x. x.address == a) text e l))

    pub entry_stands : (begin tail a : ℕ) (text : List (Entry K V)) → (begin < 2 ^ 48 → IsRecordStart bits size begin) → tail ≤ 2 ^ 48 → IsLaidOut bits size begin tail text
        → IsSome (entry_at text a) → Stands begin tail a
    entry_stands begin tail a text p most h some = by_last (entry_at text a) refl some
      where
        by_last : (o : Option (Entry K V)) → entry_at text a ≡ o → IsSome o → Stands begin tail a
        by_last None l n = absurd (cc)
        by_last (Some e) l n =
            let f = entry_found text a e l in
            subst (λ (b : ℕ). Stands begin tail b) f.1 (stands begin tail text p most h f.0.place e f.0.here)
