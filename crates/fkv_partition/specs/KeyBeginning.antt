-- What `enter` does, a rule for each case, and what `issue` does.
use Rattle.std.specs.Prelude.{◌≡◌, ◌<◌, true, ℕ, Some, None, Result, Ok, Err}
use Rattle.fkv_functions.specs.declared.refusals.Refused.{Refused}
use Rattle.fkv_functions.specs.declared.refusals.Refused.TheVariants.{NoSlot}
use Rattle.fkv_regions.specs.RegionsView.{entered}
use Rattle.fkv_operations.specs.After.{key_of, is_merge}
use Rattle.fkv_operations.specs.declared.operations.KeyedOp.{KeyedOp}
use Rattle.fkv_partition.specs.declared.contexts.Phase.TheVariants.{Fresh}
use Rattle.fkv_partition.specs.Contexts.{is_session}
use Rattle.fkv_partition.specs.Views.{PartitionView, partition_of, slots_of, held_at, with_context, in_regions, free_slot}

-- a session gets the lowest free slot, with the current epoch and the view of now
pub data Enters {K V I : Type 0} (old new : PartitionView K V I) (now : ℕ) (result : Result ℕ Refused) : Type 0 where
  full : free_slot old ≡ None → new ≡ old → result ≡ Err NoSlot → Enters old new now result
  enters : (slot : ℕ)
      → free_slot old ≡ Some slot
      → new ≡ in_regions old (entered old.records.log.regions slot) now
      → result ≡ Ok slot
      → Enters old new now result

-- whether a slot is that of a session
abbrev pub IsEntered : {K V I : Type 0} → PartitionView K V I → ℕ → Type 0
IsEntered v slot = is_session (slots_of v) slot ≡ true

-- an operation is opened in a context of a session that the caller has chosen, in which nothing is open; its key belongs
-- here, and it is a merge only where the functions merge
pub record Issues {K V I : Type 0} (code : K → ℕ) (old new : PartitionView K V I) (slot c : ℕ) (op : KeyedOp K V I) (now : ℕ)
    : Type 0 where
  pub entered : IsEntered old slot
  pub low : c < 8
  pub free : held_at old slot c ≡ None
  pub own : partition_of old.count (code (key_of op)) ≡ old.number
  pub merging : is_merge op ≡ true → old.merges ≡ true
  pub is : new ≡ with_context old slot c (Some (record { number = now; op = op; phase = Fresh })) now
