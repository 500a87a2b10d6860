-- The mark of an operation stays while it is open.
use Rattle.std.proofs.Common.{◌≡◌, inl, inr, ℕ, Some, None, slice_index, refl, sym, ap, ◌∙◌}
use Rattle.fkv_partition.specs.Effect.{asked}
use Rattle.fkv_partition.proofs.EffectLemmas.{asked-low}
use Rattle.fkv_locked.specs.declared.open_operations.OpenOperation.{OpenOperation}
use Rattle.fkv_locked.specs.Kept.{place_of}
use Rattle.fkv_locked.specs.Locks.{LockedView}
use Rattle.fkv_locked.specs.Marks.{Marks, IsOpen, IsOpenFrom, mark_of}
use Rattle.fkv_locked.specs.Turns.{question_of}
use Rattle.fkv_locked.proofs.KeptLemmas.{same_place, apart, marked_other}

module _ {K V I O : Type 0} (operation : OpenOperation K V I) where
  mark_left : (old new : LockedView K V I O) → IsOpen operation old → Marks old new → mark_of operation new ≡ mark_of operation old
  mark_left old new stands (Marks.still same) = ap (λ l. slice_index l (place_of operation.session.slot operation.context)) same
  mark_left old new stands (Marks.issues slot c low none set) =
      let eight = asked-low old.partition operation.session.slot operation.context (question_of operation) stands in
      marked_other old.lows new.lows (place_of slot c) (place_of operation.session.slot operation.context) old.count set
      (elim (same_place operation.session.slot operation.context slot c) [
        | inl s ↦ (λ e.
            let here : asked old.partition operation.session.slot operation.context ≡ asked old.partition slot c =
            ap (λ t. asked old.partition t operation.context) s.0 ∙ ap (asked old.partition slot) s.1 in
            let bad : Some (question_of operation) ≡ None = sym stands ∙ (here ∙ none) in
            absurd (cc))
        | inr n ↦ apart operation.session.slot operation.context slot c eight low n
      ])

  pub marks_stay : (start : LockedView K V I O) {end : LockedView K V I O} → IsOpenFrom operation start end → mark_of operation end ≡ mark_of operation start
  marks_stay start IsOpenFrom.none = refl
  marks_stay start (IsOpenFrom.more {before} {end} from stands event) = mark_left before end stands event ∙ marks_stay start from
