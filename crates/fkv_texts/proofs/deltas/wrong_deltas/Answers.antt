use Rattle.std.proofs.Common.{◌≡◌, ◌<◌, ◌≤◌, ◌==◌, ℕ, zero, suc, true, false, Some, inl, inr, slice_get, refl, sym, ap, ◌∙◌, subst, arith}
use Rattle.std.specs.Ordering.{nat_cmp}
use Rattle.fkv_texts.specs.declared.entries.Entry.{Entry}
use Rattle.fkv_texts.specs.Text.{has_key}
use Rattle.fkv_texts.specs.Deltas.{HasWholeAbove, IsSuperseded, IsCleared}
use Rattle.fkv_texts.specs.WrongTexts.{entry}
use Rattle.fkv_texts.specs.WrongDeltas.{part, written}
use Rattle.fkv_texts.proofs.LastWhere.{last_where-in}
use Rattle.fkv_texts.proofs.deltas.wrong_deltas.Goals as goal

module _ (t u v w x : ℕ) where
  -- the upper value covers what is below it
  covers : (a : ℕ) → a < 128 → HasWholeAbove nat_cmp (written t u v w x) 3 a
  covers a lt = record { by = entry 128 96 3 (Some v); stands = record { place = 2; here = refl }; key = refl; whole = refl; above = lt }

  -- and nothing covers it
  none-above : (a : ℕ) → 128 ≤ a → HasWholeAbove nat_cmp (written t u v w x) 3 a → ⊥
  none-above a le h = at h.stands.place h.stands.here
    where
      low : (e : Entry ℕ ℕ) → e ≡ h.by → e.address ≤ 128 → ⊥
      low e same lt = let there : e.address ≡ h.by.address = ap (λ (d : Entry ℕ ℕ). d.address) same in let up : a < h.by.address = h.above in omega arith

      at : (i : ℕ) → slice_get (written t u v w x) i ≡ Some h.by → ⊥
      at zero g = low (entry 64 1 3 (Some t)) (cc) (omega arith)
      at (suc zero) g = low (part 96 64 3 u) (cc) (omega arith)
      at (suc (suc zero)) g = low (entry 128 96 3 (Some v)) (cc) (omega arith)
      at (suc (suc (suc zero))) g =
          let same : part 160 128 3 w ≡ h.by = cc in
          let no : true ≡ false = ap (λ (d : Entry ℕ ℕ). d.delta) same ∙ h.whole in cc
      at (suc (suc (suc (suc zero)))) g =
          let same : entry 192 1 4 (Some x) ≡ h.by = cc in
          let no : false ≡ true = ap (has_key nat_cmp 3) same ∙ h.key in cc
      at (suc (suc (suc (suc (suc i))))) g = cc

  upper-stays : IsSuperseded nat_cmp (written t u v w x) (entry 128 96 3 (Some v)) → ⊥
  upper-stays (inl none) = cc
  upper-stays (inr c) = none-above 128 (omega arith) c

  part-stays : IsSuperseded nat_cmp (written t u v w x) (part 160 128 3 w) → ⊥
  part-stays (inl none) = cc
  part-stays (inr c) = none-above 160 (omega arith) c

  clear : IsCleared nat_cmp (written t u v w x) 128
  clear e here lt = let m = last_where-in (λ d. d.address == e.address) (written t u v w x) e here in at m.place m.here
    where
      of_key : (d : Entry ℕ ℕ) → d ≡ e → d.key ≡ 3 → IsSuperseded nat_cmp (written t u v w x) e
      of_key d same key = inr (subst (λ k. HasWholeAbove nat_cmp (written t u v w x) k e.address) (sym key ∙ ap (λ (y : Entry ℕ ℕ). y.key) same) (covers e.address lt))

      above : (d : Entry ℕ ℕ) → d ≡ e → 128 ≤ d.address → IsSuperseded nat_cmp (written t u v w x) e
      above d same le = let there : d.address ≡ e.address = ap (λ (y : Entry ℕ ℕ). y.address) same in absurd (omega arith)

      at : (i : ℕ) → slice_get (written t u v w x) i ≡ Some e → IsSuperseded nat_cmp (written t u v w x) e
      at zero g = of_key (entry 64 1 3 (Some t)) (cc) refl
      at (suc zero) g = of_key (part 96 64 3 u) (cc) refl
      at (suc (suc zero)) g = above (entry 128 96 3 (Some v)) (cc) (omega arith)
      at (suc (suc (suc zero))) g = above (part 160 128 3 w) (cc) (omega arith)
      at (suc (suc (suc (suc zero)))) g = above (entry 192 1 4 (Some x)) (cc) (omega arith)
      at (suc (suc (suc (suc (suc i))))) g = absurd (cc)

pub returns-clause-cover : goal.returns-clause-cover
returns-clause-cover c = λ t u v w x. (
  covers t u v w x 64 (omega arith),
  covers t u v w x 96 (omega arith),
  upper-stays t u v w x,
  part-stays t u v w x,
  inl refl,
)

pub returns-clause-cut : goal.returns-clause-cut
returns-clause-cut c = λ t u v w x. (
  clear t u v w x,
  refl,
  refl,
  refl,
  λ cleared. upper-stays t u v w x (cleared (entry 128 96 3 (Some v)) refl (omega arith)),
)
