-- What the rules of a relocation leave in its context, and where they refuse.
use Rattle.std.proofs.Common.{◌≡◌, Bool, ℕ, ◌+◌, ◌*◌, ◌⊎◌, inl, inr, List, Option, Some, None, option_map, Result, Ok, Err, slice_set, subst, refl, sym, ◌∙◌, ap}
use Rattle.std.specs.declared.cmp.Ordering.{Ordering}
use Rattle.fkv_functions.specs.declared.refusals.Refused.{Refused}
use Rattle.fkv_device.specs.Standing.{Standing, Joined}
use Rattle.fkv_texts.specs.declared.entries.Entry.{Entry}
use Rattle.fkv_operations.specs.declared.operations.Answer.TheVariants.{Cleared}
use Rattle.fkv_operations.specs.declared.entries.IndexEntry.{IndexEntry}
use Rattle.fkv_partition.specs.declared.contexts.Progress.{Progress}
use Rattle.fkv_partition.specs.declared.contexts.Progress.TheVariants.{Done, Next, NeedsLoad, Waits}
use Rattle.fkv_partition.specs.declared.contexts.Wait.TheVariants.{Full}
use Rattle.fkv_partition.specs.Contexts.{context_in, relocating}
use Rattle.fkv_partition.specs.Pending.{AllPend}
use Rattle.fkv_partition.specs.Views.{slots_of, PartitionView, relocation_at, with_relocation, at_stage}
use Rattle.fkv_partition.specs.declared.contexts.OpenWork.{OpenWork}
use Rattle.fkv_partition.specs.declared.contexts.OpenWork.TheVariants.{Relocating}
use Rattle.fkv_partition.specs.declared.relocations.Relocation.{Relocation}
use Rattle.fkv_partition.specs.declared.relocations.Stage.TheVariants.{Fresh}
use Rattle.fkv_partition.specs.Effect.{IsGiveUp}
use Rattle.fkv_partition.specs.Checking.{Ends, Asks, ChecksLiveness, renewed}
use Rattle.fkv_partition.specs.Going.{GoesOn}
use Rattle.fkv_partition.specs.Reading.{LoadsOn}
use Rattle.fkv_partition.proofs.EffectLemmas.{Proceeds, set-here, dropped-event}
use Rattle.fkv_partition.proofs.MoveLemmas.{event-set, open-here, keyless-here, dropped-pends}

abbrev granted : {A : Type 0} → A → Result A Refused
granted x = Ok x

ok-is : {A : Type 0} (x y : A) → granted x ≡ granted y → x ≡ y
ok-is x y e = cc

-- what one answer is, another is that is told so
proceeds-as : {K V I O R : Type 0} (x : Relocation K V) (is : Option (Relocation K V)) (now : ℕ) (p q : Progress K V I O R) → granted p ≡ granted q → Proceeds x is now q → Proceeds x is now p
proceeds-as x is now p q e h = subst (Proceeds x is now) (sym (ok-is p q e)) h

module _ {K V I : Type 0} (old new : PartitionView K V I) (slot c now : ℕ) (x : Relocation K V) (h : relocation_at old slot c ≡ Some x) where
  -- its context holds this then, and the sessions are as they were
  set-then : (y : Option (Relocation K V)) (v : PartitionView K V I) → new ≡ v → slots_of v ≡ slots_of old → v.contexts ≡ slice_set old.contexts (slot * 8 + c) (option_map Relocating y) → relocation_at new slot c ≡ y
  set-then y v is slots set =
      ap (λ (w : PartitionView K V I). relocation_at w slot c) is
      ∙ ap (λ s. relocating (context_in s v.contexts slot c)) slots
      ∙ ap (λ (cs : List (Option (OpenWork K V I))). relocating (context_in (slots_of old) cs slot c)) set
      ∙ set-here old slot c now x h y

  module _ {O R : Type 0} (progress : Progress K V I O R) where
    ends-proceeds : (entry : Entry K V) (kept : IndexEntry) → Ends old new slot c x entry kept now (Ok progress) → Proceeds x (relocation_at new slot c) now progress
    ends-proceeds entry kept (Ends.moved w is r) = proceeds-as x _ now progress Next r (at_stage x Fresh, set-then (Some (at_stage x Fresh)) _ is refl refl, refl)
    ends-proceeds entry kept (Ends.worn w full is r) = absurd (cc)
    ends-proceeds entry kept (Ends.full w full is r) = proceeds-as x _ now progress (Waits Full) r (at_stage x _, set-then (Some (at_stage x _)) _ is refl refl, refl)
    ends-proceeds entry kept (Ends.appends w some room is r) = proceeds-as x _ now progress (Done Cleared now) r (set-then None _ is refl refl, refl, refl)

    asks-proceeds : (stands : R → Standing) (y : Relocation K V) (wanted : ℕ) → y.number ≡ x.number → Asks stands old new (with_relocation old slot c (Some y) now) wanted (Ok progress) → Proceeds x (relocation_at new slot c) now progress
    asks-proceeds stands y wanted same (Asks.asks q held is r) = proceeds-as x _ now progress (NeedsLoad q wanted) r (y, set-then (Some y) _ is refl refl, same)
    asks-proceeds stands y wanted same (Asks.unshared is r) = absurd (cc)

    checks-proceeds : (stands : R → Standing) (cmp : K → K → Ordering) (join : V → V → V) (code : K → ℕ) (entry : Entry K V) → ChecksLiveness stands cmp join code old new slot c x entry now (Ok progress) → Proceeds x (relocation_at new slot c) now progress
    checks-proceeds stands cmp join code entry (ChecksLiveness.superseded d is r) = proceeds-as x _ now progress (Done Cleared now) r (set-then None _ is refl refl, refl, refl)
    checks-proceeds stands cmp join code entry (ChecksLiveness.last kept parts w ends) = ends-proceeds (renewed join entry parts) kept ends
    checks-proceeds stands cmp join code entry (ChecksLiveness.further kept b parts w asks) = asks-proceeds stands (at_stage x _) b refl asks

-- what a relocation's context holds after it went on
pub goes_on-proceeds : {K V I O R : Type 0} (stands : R → Standing) (cmp : K → K → Ordering) (join : V → V → V) (code : K → ℕ) (old new : PartitionView K V I) (slot c now : ℕ) (progress : Progress K V I O R) (x : Relocation K V)
    → relocation_at old slot c ≡ Some x → GoesOn stands cmp join code old new slot c now (Ok progress) → Proceeds x (relocation_at new slot c) now progress
goes_on-proceeds {K} {V} {I} {O} {R} stands cmp join code old new slot c now progress x h does = by_rule does
  where
    same : (y : Relocation K V) → relocation_at old slot c ≡ Some y → y ≡ x
    same y k = let both : Some y ≡ Some x = sym k ∙ h in cc

    told : (y : Relocation K V) → relocation_at old slot c ≡ Some y → Proceeds y (relocation_at new slot c) now progress → Proceeds x (relocation_at new slot c) now progress
    told y k p = subst (λ (z : Relocation K V). Proceeds z (relocation_at new slot c) now progress) (same y k) p

    by_rule : GoesOn stands cmp join code old new slot c now (Ok progress) → Proceeds x (relocation_at new slot c) now progress
    by_rule (GoesOn.unknown none is r) = absurd (cc)
    by_rule (GoesOn.not_ready y a k w is r) = absurd (cc)
    by_rule (GoesOn.again y entry kept k stage ends) = told y k (ends-proceeds old new slot c now y k progress entry kept ends)
    by_rule (GoesOn.passed y k stage low is r) = told y k (proceeds-as y _ now progress (Done Cleared now) r (set-then old new slot c now y k None _ is refl refl, refl, refl))
    by_rule (GoesOn.checks y entry k stage at low here checks) = told y k (checks-proceeds old new slot c now y k progress stands cmp join code entry checks)
    by_rule (GoesOn.reads y k stage at low asks) = told y k (asks-proceeds old new slot c now y k progress stands (at_stage y _) y.target refl asks)

-- and after a page came for it
pub loads_on-proceeds : {K V I O R : Type 0} (stands : R → Standing) (spells : ℕ → List ℕ → ℕ → Entry K V → Type 0) (cmp : K → K → Ordering) (join : V → V → V) (code : K → ℕ) (old new : PartitionView K V I) (slot c now : ℕ) (came : Result (Joined R) Refused) (progress : Progress K V I O R) (x : Relocation K V)
    → relocation_at old slot c ≡ Some x → LoadsOn stands spells cmp join code old new slot c came now (Ok progress) → Proceeds x (relocation_at new slot c) now progress
loads_on-proceeds {K} {V} {I} {O} {R} stands spells cmp join code old new slot c now came progress x h does = by_rule does
  where
    same : (y : Relocation K V) → relocation_at old slot c ≡ Some y → y ≡ x
    same y k = let both : Some y ≡ Some x = sym k ∙ h in cc

    told : (y : Relocation K V) → relocation_at old slot c ≡ Some y → Proceeds y (relocation_at new slot c) now progress → Proceeds x (relocation_at new slot c) now progress
    told y k p = subst (λ (z : Relocation K V). Proceeds z (relocation_at new slot c) now progress) (same y k) p

    by_rule : LoadsOn stands spells cmp join code old new slot c came now (Ok progress) → Proceeds x (relocation_at new slot c) now progress
    by_rule (LoadsOn.unknown none is r) = absurd (cc)
    by_rule (LoadsOn.not_ready y k w is r) = absurd (cc)
    by_rule (LoadsOn.moved y a k w n is r) = told y k (proceeds-as y _ now progress Next r (at_stage y Fresh, set-then old new slot c now y k (Some (at_stage y Fresh)) _ is refl refl, refl))
    by_rule (LoadsOn.failed y wanted why a k n is r) = absurd (cc)
    by_rule (LoadsOn.unread y wanted a k is r) = absurd (cc)
    by_rule (LoadsOn.stranger y wanted p s a k at n is r) = absurd (cc)
    by_rule (LoadsOn.checks y begin p e stage has k spelled checks) = told y has.awaits.here (checks-proceeds old new slot c now y has.awaits.here progress stands cmp join code e checks)
    by_rule (LoadsOn.damaged y begin p stage has k none is r) = absurd (cc)
    by_rule (LoadsOn.newer y e l p q stage has k traces j is r) = told y has.awaits.here (proceeds-as y _ now progress (Done Cleared now) r (set-then old new slot c now y has.awaits.here None _ is refl refl, refl, refl))
    by_rule (LoadsOn.ends y e l p q parts stage has k traces j ends) = told y has.awaits.here (ends-proceeds old new slot c now y has.awaits.here progress (renewed join e parts) l.kept ends)
    by_rule (LoadsOn.further y e l p b parts stage has k traces above place asks) = told y has.awaits.here (asks-proceeds old new slot c now y has.awaits.here progress stands (at_stage y _) b refl asks)
    by_rule (LoadsOn.bad_record y e l p why stage has k traces is r) = absurd (cc)
    by_rule (LoadsOn.bad_link y e l p b parts stage has k traces above place is r) = absurd (cc)

-- ---- refusals
module _ {K V I O R : Type 0} (old new : PartitionView K V I) (slot c now : ℕ) (why : Refused) (x : Relocation K V) where
  ends-same : (entry : Entry K V) (kept : IndexEntry) → Ends {O = O} {R = R} old new slot c x entry kept now (Err why) → new ≡ old
  ends-same entry kept (Ends.moved w is r) = absurd (cc)
  ends-same entry kept (Ends.worn w full is r) = is
  ends-same entry kept (Ends.full w full is r) = absurd (cc)
  ends-same entry kept (Ends.appends w some room is r) = absurd (cc)

  asks-same : (stands : R → Standing) (asking : PartitionView K V I) (wanted : ℕ) → Asks {O = O} stands old new asking wanted (Err why) → new ≡ old
  asks-same stands asking wanted (Asks.asks q held is r) = absurd (cc)
  asks-same stands asking wanted (Asks.unshared is r) = is

  checks-same : (stands : R → Standing) (cmp : K → K → Ordering) (join : V → V → V) (code : K → ℕ) (entry : Entry K V) → ChecksLiveness {O = O} stands cmp join code old new slot c x entry now (Err why) → new ≡ old
  checks-same stands cmp join code entry (ChecksLiveness.superseded d is r) = absurd (cc)
  checks-same stands cmp join code entry (ChecksLiveness.last kept parts w ends) = ends-same (renewed join entry parts) kept ends
  checks-same stands cmp join code entry (ChecksLiveness.further kept b parts w asks) = asks-same stands _ b asks

-- a refused load of a relocation changes nothing, or frees its context
pub loads_on-ends : {K V I O R : Type 0} {cmp : K → K → Ordering} {join : V → V → V} {code : K → ℕ} (stands : R → Standing) (spells : ℕ → List ℕ → ℕ → Entry K V → Type 0) (old new : PartitionView K V I) (slot c now : ℕ) (came : Result (Joined R) Refused) (why : Refused)
    → LoadsOn {O = O} stands spells cmp join code old new slot c came now (Err why) → (new ≡ old) ⊎ ((x : Relocation K V) × (relocation_at old slot c ≡ Some x) × (new ≡ with_relocation old slot c None now))
loads_on-ends {K} {V} {I} {O} {R} {cmp} {join} {code} stands spells old new slot c now came why does = by_rule does
  where
    by_rule : LoadsOn {O = O} stands spells cmp join code old new slot c came now (Err why) → (new ≡ old) ⊎ ((x : Relocation K V) × (relocation_at old slot c ≡ Some x) × (new ≡ with_relocation old slot c None now))
    by_rule (LoadsOn.unknown none is r) = inl is
    by_rule (LoadsOn.not_ready y k w is r) = inl is
    by_rule (LoadsOn.moved y a k w n is r) = absurd (cc)
    by_rule (LoadsOn.failed y wanted e a k n is r) = inr (y, a.here, is)
    by_rule (LoadsOn.unread y wanted a k is r) = inl is
    by_rule (LoadsOn.stranger y wanted p q a k at n is r) = inl is
    by_rule (LoadsOn.checks y begin p e stage has k spelled checks) = inl (checks-same old new slot c now why y stands cmp join code e checks)
    by_rule (LoadsOn.damaged y begin p stage has k none is r) = inr (y, has.awaits.here, is)
    by_rule (LoadsOn.newer y e l p q stage has k traces j is r) = absurd (cc)
    by_rule (LoadsOn.ends y e l p q parts stage has k traces j ends) = inl (ends-same {R = R} old new slot c now why y (renewed join e parts) l.kept ends)
    by_rule (LoadsOn.further y e l p b parts stage has k traces above place asks) = inl (asks-same old new slot c now why y stands _ b asks)
    by_rule (LoadsOn.bad_record y e l p q stage has k traces is r) = inr (y, has.awaits.here, is)
    by_rule (LoadsOn.bad_link y e l p b parts stage has k traces above place is r) = inr (y, has.awaits.here, is)

module _ {K V I : Type 0} (old new : PartitionView K V I) (slot c now : ℕ) (ends : (new ≡ old) ⊎ ((x : Relocation K V) × (relocation_at old slot c ≡ Some x) × (new ≡ with_relocation old slot c None now))) where
  -- so it is given up
  pub ended-event : (keeps : Bool) (cmp : K → K → Ordering) → (new ≡ old) ⊎ IsGiveUp old new slot c now
  ended-event keeps cmp = elim ends [
    | inl same ↦ inl same
    | inr e ↦ inr (subst (λ (w : PartitionView K V I). IsGiveUp old w slot c now) (sym e.2) (dropped-event old slot c now e.0 e.1 (event-set keeps cmp old slot c now (open-here old slot c e.0 e.1).low (keyless-here old slot c e.0 e.1) None)))
  ]

  -- and look-ups are to find what they were to find
  pub ended-pends : (cmp : K → K → Ordering) → AllPend cmp old new
  ended-pends cmp = elim ends [
    | inl same ↦ rw same (λ s d. refl)
    | inr e ↦ rw e.2 (dropped-pends cmp old slot c now (keyless-here old slot c e.0 e.1))
  ]
