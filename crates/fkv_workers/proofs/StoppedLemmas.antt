-- Workers that stopped before their feeds ended.
use Rattle.std.proofs.Common.{◌≡◌, inl, inr, ◌<◌, ◌++◌, [], ◌∷◌, ℕ, ℤ, zero, suc, Bool, List, length, map, Option, Some, None, refl, sym, ap, subst, ◌∙◌, arith}
use Rattle.std.specs.Prelude.{◌⊎◌, IfSome, IfNone, option_map, slice_get}
use Rattle.std.specs.List.{All, AllZip}
use Rattle.std.proofs.lemmas.Slice.Zip.{AllZip-long}
use Rattle.std.proofs.lemmas.List.{length-map}
use Rattle.std.proofs.lemmas.Option.{slice_get-map, slice_get_within, slice_get_cases}
use Rattle.fkv_functions.specs.declared.refusals.Refused.{Refused}
use Rattle.fkv_functions.specs.declared.refusals.Refused.TheVariants.{NoMemory}
use Rattle.fkv_device.specs.Failing.{FailsOnlyBy}
use Rattle.fkv_feeds.specs.Tables.{AreFeeds, most_rows}
use Rattle.fkv_feeds.specs.declared.counting.RowMode.{RowMode}
use Rattle.fkv_functions.specs.declared.names.Name.{Name}
use Rattle.fkv_store.specs.Passes.{PassView}
use Rattle.fkv_store.specs.Stores.{IsTold, IsUnopened}
use Rattle.fkv_workers.specs.Shares.{AreDealt, dealt}
use Rattle.fkv_workers.specs.Works.{IsFirstFault, HasDone, HasRead, HaveRead}
use Rattle.fkv_workers.proofs.WorkedLemmas.{beside}

behind : {X : Type 0} (before after : List X) (x : X) → slice_get (before ++ x ∷ after) (length before) ≡ Some x
behind [] after x = refl
behind (b ∷ before) after x = behind before after x

module _ {W S R : Type 0} (feeds_in : W → List (ℕ × S)) (fault_of : R → Option Refused) (stops : List (ℕ × S) → Refused → Type 0)
    (done also : W → R → Type 0) (workers : ℕ) (items : List S) (jobs : List W) (results : List R) (why : Refused) where
  -- the fault of the first worker that has one is about a feed of its own
  pub stopped : AreDealt workers items (map feeds_in jobs)
      → AllZip (λ job r. done job r × IfSome (fault_of r) (stops (feeds_in job)) × also job r) jobs results
      → (first : IsFirstFault (map fault_of results) why)
      → (length first.before < workers) × stops (dealt workers (length first.before) items) why
  stopped hands each first =
      from (slice_get results (length first.before)) refl
      (sym (slice_get-map fault_of results (length first.before)) ∙ (ap (λ l. slice_get l (length first.before)) first.is ∙ behind first.before first.after (Some why)))
    where
      from : (o : Option R) → slice_get results (length first.before) ≡ o → option_map fault_of o ≡ Some (Some why)
          → (length first.before < workers) × stops (dealt workers (length first.before) items) why
      from None at h = absurd (cc)
      from (Some r) at h =
          let w = length first.before in
          let found = beside (λ job r. done job r × IfSome (fault_of r) (stops (feeds_in job)) × also job r) jobs results w r each at in
          let hand : feeds_in found.0 ≡ dealt workers w items = hands.each w (feeds_in found.0) (slice_get-map feeds_in jobs w ∙ ap (option_map feeds_in) found.1) in
          let many : length jobs ≡ workers = sym (length-map jobs feeds_in) ∙ hands.count in
          let fault : fault_of r ≡ Some why = cc in (
            subst (λ n. w < n) many (slice_get_within jobs w found.0 found.1),
            subst (λ feeds. stops feeds why) hand (subst (λ f. IfSome f (stops (feeds_in found.0))) fault found.2.1),
          )

-- what a store may refuse to open by is told by its calls too
pub told_memory : (e : Refused) → e ≡ NoMemory → IsTold e
told_memory e is = subst IsTold (sym is) tt

pub told_unopened : (e : Refused) → IsUnopened e → IsTold e
told_unopened e (inl is) = told_memory e is
told_unopened e (inr is) = subst IsTold (sym is) (inl (refl, refl))

pub told_failing : (old new : ℕ) (e : Refused) → FailsOnlyBy 1 0 old new e → IsTold e
told_failing old new e (inl is) = told_memory e is.0
told_failing old new e (inr is) = subst IsTold (sym is.0) (inl (refl, refl))

-- a worker whose pass rests at its end, with the fault that it had
pub rested_done : (Done : Type 0) (was now : Option Refused) → IfSome was (λ why. now ≡ Some why) → IfNone was Done → IfNone now Done
rested_done Done (Some why) now first done = rw first tt
rested_done Done None None first done = done
rested_done Done None (Some why) first done = tt

pub rested_stopped : (Told Unread : Refused → Type 0) (was now : Option Refused) → IfSome was (λ why. now ≡ Some why)
    → (was ≡ None → IfSome now Told)
    → IfSome was (λ why. Told why ⊎ Unread why)
    → IfSome now (λ why. Told why ⊎ Unread why)
rested_stopped Told Unread (Some why) now first told stops = rw first stops
rested_stopped Told Unread None None first told stops = tt
rested_stopped Told Unread None (Some why) first told stops = inl (told refl)

-- ---- workers that have no fault
none-there : (faults : List (Option Refused)) (v : ℕ) → All (λ fault. fault ≡ None) faults → v < length faults → slice_get faults v ≡ Some None
none-there faults v all lt = elim (slice_get_cases faults v).1 [
  | inl h ↦ h.2 ∙ ap Some (sym h.3 ∙ all v h.0 lt)
  | inr h ↦ absurd (omega (arith, h.0, lt))
]

front : {X : Type 0} (before rest : List X) (v : ℕ) → v < length before → slice_get (before ++ rest) v ≡ slice_get before v
front [] rest v lt = absurd (omega arith)
front (b ∷ before) rest zero lt = refl
front (b ∷ before) rest (suc v) lt = front before rest v (omega arith)

module _ {W S R V O : Type 0} (remaining : S → Option (List ℕ)) (failures : S → ℕ) (keeps : Bool) (code : Name → ℕ)
    (feeds_in : W → List (ℕ × S)) (mode_of : W → RowMode) (pass_of : R → PassView Name V ℤ O) (fault_of : R → Option Refused)
    (stops : W → R → Type 0) (workers : ℕ) (items : List S) (jobs : List W) (results : List R) (why : Refused)
    (hands : AreDealt workers items (map feeds_in jobs))
    (each : AllZip (λ job r. IfNone (fault_of r) (HasDone (AreFeeds most_rows (map (λ feed. remaining feed.1) (feeds_in job))) keeps code (mode_of job) (pass_of r)) × stops job r) jobs results)
  where
    -- one has read its feeds to their ends
    has_read : (v : ℕ) → slice_get (map fault_of results) v ≡ Some None → HasRead remaining failures (dealt workers v items)
    has_read v none = from (slice_get results v) refl (sym (slice_get-map fault_of results v) ∙ none)
      where
        from : (o : Option R) → slice_get results v ≡ o → option_map fault_of o ≡ Some None → HasRead remaining failures (dealt workers v items)
        from None at h = absurd (cc)
        from (Some r) at h =
            let found = beside (λ job r. IfNone (fault_of r) (HasDone (AreFeeds most_rows (map (λ feed. remaining feed.1) (feeds_in job))) keeps code (mode_of job) (pass_of r)) × stops job r) jobs results v r each at in
            let hand : feeds_in found.0 ≡ dealt workers v items = hands.each v (feeds_in found.0) (slice_get-map feeds_in jobs v ∙ ap (option_map feeds_in) found.1) in
            let fault : fault_of r ≡ None = cc in
            let done : HasDone (AreFeeds most_rows (map (λ feed. remaining feed.1) (feeds_in found.0))) keeps code (mode_of found.0) (pass_of r) =
            subst (λ f. IfNone f (HasDone (AreFeeds most_rows (map (λ feed. remaining feed.1) (feeds_in found.0))) keeps code (mode_of found.0) (pass_of r))) fault found.2.0 in
            subst (HasRead remaining failures) hand (record { rows = done.rows; read = done.read })

    pub all_read : All (λ fault. fault ≡ None) (map fault_of results) → HaveRead remaining failures workers workers items
    all_read none v lt =
        let many : length (map fault_of results) ≡ workers =
        length-map results fault_of ∙ (AllZip-long _ jobs results each ∙ (sym (length-map jobs feeds_in) ∙ hands.count)) in
        has_read v (none-there (map fault_of results) v none (omega (arith, many, lt)))

    pub read_before : (first : IsFirstFault (map fault_of results) why) → HaveRead remaining failures (length first.before) workers items
    read_before first v lt =
        has_read v (ap (λ faults. slice_get faults v) first.is ∙ (front first.before (Some why ∷ first.after) v lt ∙ none-there first.before v first.none lt))
