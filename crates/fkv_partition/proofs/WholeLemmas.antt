-- What a change keeps: what holds of every partition, where its records and the operations on keys keep theirs.
use Rattle.std.proofs.Common.{◌≡◌, ◌≤◌, inl, inr, ℕ, Bool, true, false, List, Option, Some, None, slice_get, slice_set, refl, ap, subst, arith}
use Rattle.std.specs.Bool.{OnTrue, OnFalse}
use Rattle.std.specs.declared.cmp.Ordering.{Ordering}
use Rattle.fkv_functions.proofs.ListLemmas.{get-set_cases}
use Rattle.fkv_index.specs.declared.words.Place.{Place}
use Rattle.fkv_regions.specs.Agree.{IsRaised}
use Rattle.fkv_regions.specs.RegionsView.{RegionsView}
use Rattle.fkv_lookups.specs.RecordsViews.{RecordsView, IsMoved, confirmed, released}
use Rattle.fkv_partition.specs.KeySound.{IsSound}
use Rattle.fkv_partition.specs.Grown.{IsPreserved}
use Rattle.fkv_partition.specs.Sound.{IsPartition, MayClear}
use Rattle.fkv_partition.specs.Stages.{RelocationStands}
use Rattle.fkv_partition.specs.Views.{PartitionView, context_at}
use Rattle.fkv_partition.specs.declared.contexts.Context.{Context}
use Rattle.fkv_partition.specs.declared.contexts.OpenWork.{OpenWork}
use Rattle.fkv_partition.specs.declared.contexts.OpenWork.TheVariants.{OnKey, Relocating}
use Rattle.fkv_partition.specs.declared.contexts.Phase.TheVariants.{Confirm}
use Rattle.fkv_partition.specs.declared.relocations.Relocation.{Relocation}
use Rattle.fkv_partition.proofs.AgainLemmas.{keep-moment}
use Rattle.fkv_partition.proofs.KeepLemmas.{keep-event, keep-changed, keep-value_after, rises-not}
use Rattle.fkv_partition.proofs.PreservedLemmas.{borne-confirmed, borne-released, borne-moved}
use Rattle.fkv_partition.proofs.SoundLemmas.{sound-moment, sound-cleared}

-- a relocation that stands where a context was set to none stood before
pub set-resolved : {K V I : Type 0} (contexts : List (Option (OpenWork K V I))) (i : ℕ) (y : Option (OpenWork K V I)) → ((x : Relocation K V) → y ≡ Some (Relocating x) → ⊥)
    → (p : ℕ) (x : Relocation K V) → slice_get (slice_set contexts i y) p ≡ Some (Some (Relocating x)) → slice_get contexts p ≡ Some (Some (Relocating x))
set-resolved contexts i y none p x h = elim (get-set_cases contexts i p y (Some (Relocating x)) h) [
  | inl e ↦ absurd (none x e.1)
  | inr o ↦ o
]

pub none-moves : {K V I P : Type 0} (x : Relocation K V) → ◌≡◌ {A = Option (OpenWork K V I)} None (Some (Relocating x)) → P
none-moves x e = absurd (cc)

pub key-moves : {K V I P : Type 0} (y : Context K V I) (x : Relocation K V) → ◌≡◌ {A = Option (OpenWork K V I)} (Some (OnKey y)) (Some (Relocating x)) → P
key-moves y x e = absurd (cc)

module _ {K V I : Type 0} {keeps : Bool} {cmp : K → K → Ordering} {join : V → V → V} {code : K → ℕ} (v : PartitionView K V I) (p : IsPartition keeps cmp join code v) where
  -- relocations that stand then stood before, and Begin stands, or passes nothing that is not cleared
  pub whole-event : (new : PartitionView K V I) → IsSound keeps cmp join code new → IsPreserved keeps cmp join code v new
      → new.number ≡ v.number → new.count ≡ v.count → new.cleared ≡ v.cleared → new.records.log.begin ≤ v.cleared
      → ((i : ℕ) (x : Relocation K V) → slice_get new.contexts i ≡ Some (Some (Relocating x)) → slice_get v.contexts i ≡ Some (Some (Relocating x)))
      → IsPartition keeps cmp join code new
  whole-event new s b number count cleared begun resolved = record {
    sound = s;
    compacting = keep-event keeps cmp join code v new p.compacting s.traced s.resolved b number count cleared begun resolved;
  }

  pub whole-records : (r : RecordsView K V) (contexts : List (Option (OpenWork K V I))) (now : ℕ)
      → IsSound keeps cmp join code (record v { records = r; contexts = contexts; moment = now })
      → IsPreserved keeps cmp join code v (record v { records = r; contexts = contexts; moment = now })
      → r.log.begin ≡ v.records.log.begin
      → ((i : ℕ) (x : Relocation K V) → slice_get contexts i ≡ Some (Some (Relocating x)) → slice_get v.contexts i ≡ Some (Some (Relocating x)))
      → IsPartition keeps cmp join code (record v { records = r; contexts = contexts; moment = now })
  whole-records r contexts now s b begin resolved = whole-event (record v { records = r; contexts = contexts; moment = now }) s b refl refl refl (let begun = p.compacting.begun in omega (arith, begin, begun)) resolved

  -- a context is set
  pub whole-set : (i now : ℕ) (y : Option (OpenWork K V I))
      → ((x : Relocation K V) → y ≡ Some (Relocating x) → RelocationStands keeps cmp join code v v.cleared x)
      → IsSound keeps cmp join code (record v { contexts = slice_set v.contexts i y; moment = now })
      → IsPartition keeps cmp join code (record v { contexts = slice_set v.contexts i y; moment = now })
  whole-set i now y fits s = record {
    sound = s;
    compacting = keep-changed keeps cmp join code v i now v.cleared y p.compacting (rises-not keeps cmp join code v p.compacting) fits;
  }

  -- a moment passes
  pub whole-moment : (now : ℕ) → IsPartition keeps cmp join code (record v { moment = now })
  whole-moment now = record { sound = sound-moment p.sound now; compacting = keep-moment v p.compacting now }

  -- more is cleared
  pub whole-cleared : (limit : ℕ) → MayClear keeps cmp v limit → IsPartition keeps cmp join code (record v { cleared = limit })
  whole-cleared limit may = record { sound = sound-cleared p.sound limit; compacting = keep-value_after keeps cmp join code v limit p.compacting may }

  -- the regions move
  pub whole-regions : (r : RecordsView K V) (regions : RegionsView) (now : ℕ) → IsRaised v.records.log.regions.offsets r.log.regions.offsets → IsMoved keeps regions v.records r
      → IsSound keeps cmp join code (record v { records = r; moment = now })
      → IsPartition keeps cmp join code (record v { records = r; moment = now })
  whole-regions r regions now up moves s =
      let new = record v { records = r; moment = now } in
      let same : r.log.regions ≡ regions = ap (λ (u : RecordsView K V). u.log.regions) moves.is in
      let raised = subst (λ (g : RegionsView). IsRaised v.records.log.regions.offsets g.offsets) same up in
      whole-event new s (borne-moved cmp join code v p.sound new regions now raised (record { moves = moves; is = refl })) refl refl refl
      (let begun = p.compacting.begun in let begin = ap (λ (u : RecordsView K V). u.log.begin) moves.is in omega (arith, begin, begun)) (λ i x h. h)

  -- a tentative entry is confirmed, or taken back
  module _ (slot c now : ℕ) (x : Context K V I) (h : context_at v slot c ≡ Some x) (q : Place) (phase : x.phase ≡ Confirm q) (r : RecordsView K V) where
    pub whole-settled : (contexts : List (Option (OpenWork K V I))) (b : Bool) → OnTrue b (r ≡ confirmed v.records q) → OnFalse b (r ≡ released v.records q)
        → IsSound keeps cmp join code (record v { records = r; contexts = contexts; moment = now })
        → ((i : ℕ) (y : Relocation K V) → slice_get contexts i ≡ Some (Some (Relocating y)) → slice_get v.contexts i ≡ Some (Some (Relocating y)))
        → IsPartition keeps cmp join code (record v { records = r; contexts = contexts; moment = now })
    whole-settled contexts true is out s resolved =
        whole-records r contexts now s (borne-confirmed cmp join code v p.sound (record v { records = r; contexts = contexts; moment = now }) slot c now x h q phase is) (ap (λ (u : RecordsView K V). u.log.begin) is) resolved
    whole-settled contexts false out is s resolved =
        whole-records r contexts now s (borne-released cmp join code v p.sound (record v { records = r; contexts = contexts; moment = now }) slot c now x h q phase is) (ap (λ (u : RecordsView K V). u.log.begin) is) resolved
