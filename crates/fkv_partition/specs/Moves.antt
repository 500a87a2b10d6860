-- What `refresh`, `shift_read_only` and `shift_head` do: a rule for each case, in the order of the tests.
use Rattle.std.specs.Prelude.{◌≡◌, ◌≤◌, Bool, false, ℕ, length, Result, Ok, Err}
use Rattle.fkv_functions.specs.declared.refusals.Refused.{Refused}
use Rattle.fkv_functions.specs.declared.refusals.Refused.TheVariants.{Unknown, NotDue, DrainFull}
use Rattle.fkv_records.specs.Places.{start_at}
use Rattle.fkv_regions.specs.RegionsView.{IsReadOnlyDue, IsHeadDue, IsRoomy, refreshed, with_read_only, with_head}
use Rattle.fkv_partition.specs.Contexts.{is_session}
use Rattle.fkv_partition.specs.KeyBeginning.{IsEntered}
use Rattle.fkv_partition.specs.Views.{PartitionView, slots_of, MovesTo}

-- the session gets the current epoch, the offsets that are due then move, and it gets the view of now
pub data Refreshes {K V I : Type 0} (keeps : Bool) (old new : PartitionView K V I) (slot now : ℕ)
    (result : Result (Unit {0}) Refused) : Type 0 where
  unknown : is_session (slots_of old) slot ≡ false
      → new ≡ old
      → result ≡ Err Unknown
      → Refreshes keeps old new slot now result
  refreshes : IsEntered old slot
      → MovesTo keeps (refreshed old.records.log.regions slot) old new now
      → result ≡ Ok tt
      → Refreshes keeps old new slot now result

-- the read-only offset moves up to a page's start, and the safe one behind it as far as is due
pub data Shifts {K V I : Type 0} (keeps : Bool) (old new : PartitionView K V I) (page now : ℕ)
    (result : Result (Unit {0}) Refused) : Type 0 where
  not_due : ¬ IsReadOnlyDue old.records.log.regions page old.records.log.tail
      → new ≡ old
      → result ≡ Err NotDue
      → Shifts keeps old new page now result
  full : IsReadOnlyDue old.records.log.regions page old.records.log.tail
      → 16 ≤ length old.records.log.regions.epochs.waiting
      → new ≡ old
      → result ≡ Err DrainFull
      → Shifts keeps old new page now result
  shifts : IsReadOnlyDue old.records.log.regions page old.records.log.tail
      → IsRoomy old.records.log.regions
      → MovesTo keeps (with_read_only old.records.log.regions (start_at old.records.log.regions.bits page)) old new now
      → result ≡ Ok tt
      → Shifts keeps old new page now result

-- Head moves up to a page's start, and frames below are closed as far as is due
pub data Evicts {K V I : Type 0} (keeps : Bool) (old new : PartitionView K V I) (page now : ℕ)
    (result : Result (Unit {0}) Refused) : Type 0 where
  not_due : ¬ IsHeadDue old.records.log.regions page
      → new ≡ old
      → result ≡ Err NotDue
      → Evicts keeps old new page now result
  full : IsHeadDue old.records.log.regions page
      → 16 ≤ length old.records.log.regions.epochs.waiting
      → new ≡ old
      → result ≡ Err DrainFull
      → Evicts keeps old new page now result
  evicts : IsHeadDue old.records.log.regions page
      → IsRoomy old.records.log.regions
      → MovesTo keeps (with_head old.records.log.regions (start_at old.records.log.regions.bits page)) old new now
      → result ≡ Ok tt
      → Evicts keeps old new page now result
