-- Lists that are emptied one after the other.
use Rattle.std.proofs.Common.{◌≡◌, ◌+◌, ◌<◌, inl, inr, ℕ, List, [], length, slice_set, arith, ◌∙◌}
use Rattle.std.specs.Prelude.{slice_index_or}
use Rattle.std.proofs.lemmas.Bool.{cases_eq}
use Rattle.std.proofs.lemmas.List.{get_or-set_same, get_or-set_other}

pub emptied : {A : Type 0} (was now : List (List A)) (i : ℕ) → i < length was
    → now ≡ slice_set was i []
    → ((p : ℕ) → p < i → slice_index_or was p [] ≡ [])
    → (p : ℕ) → p < i + 1
    → slice_index_or now p [] ≡ []
emptied was now i within is before p lt =
    rw is
    (elim (cases_eq p i) [
      | inl same ↦ rw same (get_or-set_same was i [] [] within)
      | inr ne ↦ get_or-set_other was i p [] [] ne ∙ before p (omega (arith, lt, ne))
    ])
