-- Small texts, of which some records are superseded.
use Rattle.std.proofs.Common.{◌≡◌, ℕ, zero, suc, ◌≤◌, ◌==◌, inl, inr, true, false, Option, Some, None, slice_get, refl, ap, ◌∙◌, arith, lit<}
use Rattle.std.specs.Ordering.{nat_cmp}
use Rattle.fkv_texts.specs.declared.entries.Entry.{Entry}
use Rattle.fkv_texts.specs.Text.{has_key}
use Rattle.fkv_texts.specs.WrongTexts.{entry}
use Rattle.fkv_texts.proofs.LastWhere.{last_where-in}
use Rattle.fkv_texts.specs.Deltas.{HasWholeAbove, IsSuperseded, IsCleared}
use Rattle.fkv_lookups.specs.WrongCleared.{written_twice, written_once}

pub first-superseded : (v : Option ℕ) (w : ℕ) → IsSuperseded nat_cmp (written_twice v w) (entry 64 1 3 v)
first-superseded v w = inr (record { by = entry 96 64 3 (Some w); stands = record { place = 1; here = refl }; key = refl; whole = refl; above = lit< tt })

none-above : (v : Option ℕ) (w : ℕ) → HasWholeAbove nat_cmp (written_twice v w) 3 96 → ⊥
none-above v w h = at h.stands.place h.stands.here
  where
    low : (e : Entry ℕ ℕ) → e ≡ h.by → e.address ≤ 96 → ⊥
    low e same le = let there = ap (λ (d : Entry ℕ ℕ). d.address) same in let up = h.above in omega arith

    at : (i : ℕ) → slice_get (written_twice v w) i ≡ Some h.by → ⊥
    at zero g = low (entry 64 1 3 v) (cc) (omega arith)
    at (suc zero) g = low (entry 96 64 3 (Some w)) (cc) (omega arith)
    at (suc (suc i)) g = cc

pub last-holds : (v : Option ℕ) (w : ℕ) → IsSuperseded nat_cmp (written_twice v w) (entry 96 64 3 (Some w)) → ⊥
last-holds v w (inl none) = absurd (let bad : Some w ≡ None = none in cc)
last-holds v w (inr covered) = none-above v w covered

stands-high : (v : ℕ) (w : Option ℕ) (e : Entry ℕ ℕ) (i : ℕ) → slice_get (written_once v w) i ≡ Some e → 64 ≤ e.address
stands-high v w e zero h =
    let same : entry 64 1 3 (Some v) ≡ e = cc in
    let at = ap (λ (x : Entry ℕ ℕ). x.address) same in
    omega arith
stands-high v w e (suc zero) h =
    let same : entry 96 1 4 w ≡ e = cc in
    let at = ap (λ (x : Entry ℕ ℕ). x.address) same in
    omega arith
stands-high v w e (suc (suc i)) h = absurd (cc)

pub none-below : (v : ℕ) (w : Option ℕ) → IsCleared nat_cmp (written_once v w) 64
none-below v w e here low =
    let m = last_where-in (λ x. x.address == e.address) (written_once v w) e here in
    let high = stands-high v w e m.place m.here in
    absurd (omega arith)

other-key : (v : ℕ) (w : Option ℕ) → HasWholeAbove nat_cmp (written_once v w) 3 64 → ⊥
other-key v w h = at h.stands.place h.stands.here
  where
    at : (i : ℕ) → slice_get (written_once v w) i ≡ Some h.by → ⊥
    at zero g =
        let same : entry 64 1 3 (Some v) ≡ h.by = cc in
        let there = ap (λ (d : Entry ℕ ℕ). d.address) same in
        let up = h.above in
        omega arith
    at (suc zero) g =
        let same : entry 96 1 4 w ≡ h.by = cc in
        let no : false ≡ true = ap (has_key nat_cmp 3) same ∙ h.key in
        cc
    at (suc (suc i)) g = cc

superseded-once : (v : ℕ) (w : Option ℕ) → IsSuperseded nat_cmp (written_once v w) (entry 64 1 3 (Some v)) → ⊥
superseded-once v w (inl none) = absurd (let bad : Some v ≡ None = none in cc)
superseded-once v w (inr covered) = other-key v w covered

pub not-past : (v : ℕ) (w : Option ℕ) → IsCleared nat_cmp (written_once v w) 96 → ⊥
not-past v w h = superseded-once v w (h (entry 64 1 3 (Some v)) refl (lit< tt))
