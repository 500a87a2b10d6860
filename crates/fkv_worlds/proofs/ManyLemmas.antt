-- What the contexts of a world ask, where one partition changes.
use Rattle.std.proofs.Common.{◌≡◌, ◌≢◌, ℕ, ◌⊎◌, inl, inr, List, Some, slice_get, slice_set, sym, ◌∙◌, ap}
use Rattle.std.proofs.lemmas.Bool.{cases_eq}
use Rattle.fkv_partition.specs.Views.{PartitionView}
use Rattle.fkv_partition.specs.Effect.{asked}
use Rattle.fkv_functions.proofs.ListLemmas.{get-set_same, get-set_other}
use Rattle.fkv_lives.specs.declared.steps.ContextId.{ContextId}
use Rattle.fkv_worlds.specs.Worlds.{asked_at, asked_in}

module _ {K V I : Type 0} (views : List (PartitionView K V I)) (p : ℕ) (old new : PartitionView K V I) (here : slice_get views p ≡ Some old) where
  pub asked-here : (slot c : ℕ) → asked_in (slice_set views p new) (record { partition = p; slot = slot; context = c }) ≡ asked new slot c
  asked-here slot c = ap (λ t. asked_at t slot c) (get-set_same views p old new here)

  pub asked-was : (slot c : ℕ) → asked_in views (record { partition = p; slot = slot; context = c }) ≡ asked old slot c
  asked-was slot c = ap (λ t. asked_at t slot c) here

  pub asked-elsewhere : (w : ContextId) → w.partition ≢ p → asked_in (slice_set views p new) w ≡ asked_in views w
  asked-elsewhere w n = ap (λ t. asked_at t w.slot w.context) (get-set_other views p w.partition new n)

  -- contexts that ask the same in the partition ask the same in the world
  pub asked-others : (slot c : ℕ) → ((s d : ℕ) → (s ≢ slot) ⊎ (d ≢ c) → asked new s d ≡ asked old s d)
      → (w : ContextId) → w ≢ record { partition = p; slot = slot; context = c } → asked_in (slice_set views p new) w ≡ asked_in views w
  asked-others slot c same w n = elim (cases_eq w.partition p) [
    | inr r ↦ asked-elsewhere w r
    | inl r ↦ elim (cases_eq w.slot slot) [
      | inr s ↦ in_place r (inl s)
      | inl s ↦ elim (cases_eq w.context c) [
        | inr d ↦ in_place r (inr d)
        | inl d ↦ absurd (n (λ i. record { partition = r i; slot = s i; context = d i }))
      ]
    ]
  ]
    where
      in_place : w.partition ≡ p → (w.slot ≢ slot) ⊎ (w.context ≢ c) → asked_in (slice_set views p new) w ≡ asked_in views w
      in_place r other =
          ap (λ q. asked_at (slice_get (slice_set views p new) q) w.slot w.context) r
          ∙ asked-here w.slot w.context ∙ same w.slot w.context other ∙ sym (asked-was w.slot w.context)
          ∙ ap (λ q. asked_at (slice_get views q) w.slot w.context) (sym r)

  pub asked-all : ((s d : ℕ) → asked new s d ≡ asked old s d) → (w : ContextId) → asked_in (slice_set views p new) w ≡ asked_in views w
  asked-all same w = elim (cases_eq w.partition p) [
    | inr r ↦ asked-elsewhere w r
    | inl r ↦ ap (λ q. asked_at (slice_get (slice_set views p new) q) w.slot w.context) r
        ∙ asked-here w.slot w.context ∙ same w.slot w.context ∙ sym (asked-was w.slot w.context)
        ∙ ap (λ q. asked_at (slice_get views q) w.slot w.context) (sym r)
  ]
