-- Runs of a store's lists that are spilled, and why they are not.
use Rattle.std.proofs.Common.{◌≡◌, ◌≢◌, ◌⊎◌, ℕ, Bool, inl, inr, List, Option, refl}
use Rattle.fkv_functions.specs.declared.refusals.Refused.{Refused}
use Rattle.fkv_functions.specs.declared.refusals.Refused.TheVariants.{NoMemory, Worn, Device, Damaged}
use Rattle.fkv_device.specs.Failing.{FailsOnlyBy}
use Rattle.fkv_partition.specs.declared.limits.Config.{Config}
use Rattle.fkv_local.specs.Causing.{IsCausedBy}
use Rattle.fkv_spills.specs.Reading.{IsUnreadable}
use Rattle.fkv_feeds.specs.Faults.{IsDeviceFault}
use Rattle.fkv_feeds.specs.Refusing.{TellsStopped, TellsWhyNone}
use Rattle.fkv_feeds.specs.Spilling.{IsSpillFault}
use Rattle.fkv_feeds.proofs.FeedsLemmas.{IsOfDevice, reads-by, devices-by, stopped-by, why_none}

-- ---- why a page of a run was not read
pub unread-caused : (A B : Type 0) {known : Type 0} (old new : ℕ) (e : Refused) → IsUnreadable old new known e → (e ≢ NoMemory → B) → IsCausedBy A B e
unread-caused A B old new e h may = elim h.1 [
  | inl r ↦ elim r [
    | inl f ↦ elim f [
      | inl a ↦ rw a.0 tt
      | inr b ↦ (let m = rw b.0 at may in rw b.0 (inr (refl, m (λ t. absurd (cc)))))
    ]
    | inr b ↦ (let m = rw b.0 at may in rw b.0 (m (λ t. absurd (cc))))
  ]
  | inr d ↦ (let m = rw d.0 at may in rw d.0 (m (λ t. absurd (cc))))
]

-- ---- why a run is refused
stopped-weaker : (f g : Refused → Type 0) (feeds : List (Option (List ℕ))) (old new : List ℕ) (e : Refused) → (f e → g e) → TellsStopped f feeds old new e → TellsStopped g feeds old new e
stopped-weaker f g feeds old new (Device code page) w t = (t.0, w t.1)
stopped-weaker f g feeds old new (Damaged page) w t = (t.0, w t.1)
stopped-weaker f g feeds old new other w t = t

module _ {D W R : Type 0} (A B : Type 0) (keeps : Bool) (opens : D → ℕ) (writes : W → ℕ) (reads : R → ℕ) where
  pub spills-by : (e : Refused) → IsSpillFault keeps opens writes reads A B e → IsOfDevice e
  spills-by e (IsSpillFault.unmade f) = devices-by keeps opens writes reads e f
  spills-by e (IsSpillFault.unwritten page old new f) = elim f [ inl a ↦ inl a.0 | inr b ↦ inr (inl (2, page, b.0)) ]
  spills-by e (IsSpillFault.unread before now f caused) = elim f.1 [ inl r ↦ reads-by f.0 (reads before) (reads now) e r | inr d ↦ inr (inr (f.0, d.0)) ]

  module _ (config : Config) (size : ℕ) (feeds : List (Option (List ℕ))) (old new : List ℕ) (e : Refused) where
    -- the device was not opened
    pub opened-told : (device device_now : D) → new ≡ old → FailsOnlyBy 1 0 (opens device) (opens device_now) e
        → TellsWhyNone (IsSpillFault keeps opens writes reads A B) config size feeds old new e
    opened-told device device_now same f =
        let fault = IsSpillFault.unmade (IsDeviceFault.unopened device device_now f) in
        why_none (IsSpillFault keeps opens writes reads A B) config size feeds old new e
        (stopped-by (IsSpillFault keeps opens writes reads A B) feeds old new e same fault (spills-by e fault))

    -- the feeds were not read
    pub read-told : TellsStopped (IsDeviceFault keeps opens writes reads A B) feeds old new e → TellsWhyNone (IsSpillFault keeps opens writes reads A B) config size feeds old new e
    read-told t =
        why_none (IsSpillFault keeps opens writes reads A B) config size feeds old new e
        (stopped-weaker (IsDeviceFault keeps opens writes reads A B) (IsSpillFault keeps opens writes reads A B) feeds old new e (λ f. IsSpillFault.unmade f) t)

    -- the table was not spilled
    pub ended-told : new ≡ old → (e ≡ NoMemory) ⊎ (e ≡ Worn) ⊎ IsSpillFault keeps opens writes reads A B e
        → TellsWhyNone (IsSpillFault keeps opens writes reads A B) config size feeds old new e
    ended-told same (inl none) = rw none same
    ended-told same (inr (inl worn)) = rw worn same
    ended-told same (inr (inr fault)) =
        why_none (IsSpillFault keeps opens writes reads A B) config size feeds old new e
        (stopped-by (IsSpillFault keeps opens writes reads A B) feeds old new e same fault (spills-by e fault))
