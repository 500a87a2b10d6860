-- What `leave` and `give_up` do: a rule for each case, in the order of the tests.
use Rattle.std.specs.Prelude.{◌≡◌, Bool, false, ℕ, Some, None, Result, Ok, Err}
use Rattle.fkv_functions.specs.declared.refusals.Refused.{Refused}
use Rattle.fkv_functions.specs.declared.refusals.Refused.TheVariants.{Unknown, Busy}
use Rattle.fkv_partition.specs.declared.contexts.Context.{Context}
use Rattle.fkv_index.specs.declared.words.Place.{Place}
use Rattle.fkv_lookups.specs.RecordsViews.{released}
use Rattle.fkv_partition.specs.declared.contexts.Phase.TheVariants.{Confirm}
use Rattle.fkv_regions.specs.RegionsView.{left}
use Rattle.fkv_partition.specs.Contexts.{is_session, claim_by}
use Rattle.fkv_partition.specs.KeyBeginning.{IsEntered}
use Rattle.fkv_partition.specs.Views.{PartitionView, context_at, slots_of, with_context, open_context, MovesTo}

pub data Leaves {K V I : Type 0} (keeps : Bool) (old new : PartitionView K V I) (slot now : ℕ)
    (result : Result (Unit {0}) Refused) : Type 0 where
  unknown : is_session (slots_of old) slot ≡ false
      → new ≡ old
      → result ≡ Err Unknown
      → Leaves keeps old new slot now result
  busy : (c : ℕ)
      → IsEntered old slot
      → open_context old slot ≡ Some c
      → new ≡ old
      → result ≡ Err Busy
      → Leaves keeps old new slot now result
  leaves : IsEntered old slot
      → open_context old slot ≡ None
      → MovesTo keeps (left old.records.log.regions slot) old new now
      → result ≡ Ok tt
      → Leaves keeps old new slot now result

pub data GivesUp {K V I : Type 0} (old new : PartitionView K V I) (slot c now : ℕ)
    (result : Result (Unit {0}) Refused) : Type 0 where
  unknown : context_at old slot c ≡ None → new ≡ old → result ≡ Err Unknown → GivesUp old new slot c now result
  gives_up : (x : Context K V I)
      → context_at old slot c ≡ Some x
      → claim_by x.phase ≡ None
      → new ≡ with_context old slot c None now
      → result ≡ Ok tt
      → GivesUp old new slot c now result
  -- and its tentative entry is gone with it
  cancels : (x : Context K V I) (p : Place)
      → context_at old slot c ≡ Some x
      → x.phase ≡ Confirm p
      → new ≡ record (with_context old slot c None now) { records = released old.records p }
      → result ≡ Ok tt
      → GivesUp old new slot c now result
