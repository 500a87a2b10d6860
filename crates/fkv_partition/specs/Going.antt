-- What `go_on` does with a relocation: nothing is open; or it waits for a page; or its place was cleared meanwhile; or its
-- record is read, in memory or from the device, and checked; or its last part is tried again.
use Rattle.std.specs.Prelude.{◌≡◌, ◌<◌, ◌≤◌, ℕ, Bool, false, Option, Some, None, Result, Ok, Err, is_some}
use Rattle.std.specs.declared.cmp.Ordering.{Ordering}
use Rattle.fkv_functions.specs.declared.refusals.Refused.{Refused}
use Rattle.fkv_functions.specs.declared.refusals.Refused.TheVariants.{Unknown, NotReady}
use Rattle.fkv_device.specs.Standing.{Standing}
use Rattle.fkv_texts.specs.declared.entries.Entry.{Entry}
use Rattle.fkv_texts.specs.Text.{entry_at}
use Rattle.fkv_lookups.specs.Decisions.{low_of}
use Rattle.fkv_operations.specs.declared.entries.IndexEntry.{IndexEntry}
use Rattle.fkv_partition.specs.Views.{seen_at, PartitionView, relocation_at, with_relocation, at_stage}
use Rattle.fkv_partition.specs.declared.relocations.Relocation.{Relocation}
use Rattle.fkv_partition.specs.declared.relocations.Stage.{Stage}
use Rattle.fkv_partition.specs.declared.relocations.Stage.TheVariants.{Fresh, Reading, Tracing, Ready}
use Rattle.fkv_partition.specs.declared.contexts.Progress.{Progress}
use Rattle.fkv_partition.specs.declared.contexts.Progress.TheVariants.{Done}
use Rattle.fkv_operations.specs.declared.operations.Answer.TheVariants.{Cleared}
use Rattle.fkv_partition.specs.Checking.{Ends, Asks, ChecksLiveness}

-- the page that a relocation waits for: where Begin was when it was asked for, and the address wanted
pub record Awaited : Type 0 where
  pub begin : ℕ
  pub wanted : ℕ

abbrev pub awaited_by : {K V : Type 0} → ℕ → Stage K V → Option Awaited
awaited_by place Fresh = None
awaited_by place (Reading begin) = Some (record { begin = begin; wanted = place })
awaited_by place (Tracing entry l) = Some (record { begin = l.begin; wanted = l.wanted })
awaited_by place (Ready entry kept) = None

abbrev pub awaited : {K V : Type 0} → Relocation K V → Option Awaited
awaited x = awaited_by x.target x.stage

-- whether a relocation, if there is one, waits for a page
abbrev pub is_awaiting : {K V : Type 0} → Option (Relocation K V) → Bool
is_awaiting None = false
is_awaiting (Some x) = is_some (awaited x)

-- the lowest address that the session at a slot reads in memory
abbrev pub low_at : {K V I : Type 0} → PartitionView K V I → ℕ → ℕ
low_at v slot = low_of v.records.log.begin (seen_at v slot)

pub data GoesOn {K V I O R : Type 0} (stands : R → Standing) (cmp : K → K → Ordering) (join : V → V → V) (code : K → ℕ)
    (old new : PartitionView K V I) (slot c now : ℕ) (result : Result (Progress K V I O R) Refused) : Type 0 where
  unknown : relocation_at old slot c ≡ None
      → new ≡ old
      → result ≡ Err Unknown
      → GoesOn stands cmp join code old new slot c now result
  not_ready : (x : Relocation K V) (a : Awaited)
      → relocation_at old slot c ≡ Some x
      → awaited x ≡ Some a
      → new ≡ old
      → result ≡ Err NotReady
      → GoesOn stands cmp join code old new slot c now result
  again : (x : Relocation K V) (entry : Entry K V) (kept : IndexEntry)
      → relocation_at old slot c ≡ Some x
      → x.stage ≡ Ready entry kept
      → Ends old new slot c x entry kept now result
      → GoesOn stands cmp join code old new slot c now result
  -- another relocation has cleared its place
  passed : (x : Relocation K V)
      → relocation_at old slot c ≡ Some x
      → x.stage ≡ Fresh
      → x.target < old.cleared
      → new ≡ with_relocation old slot c None now
      → result ≡ Ok (Done Cleared now)
      → GoesOn stands cmp join code old new slot c now result
  checks : (x : Relocation K V) (entry : Entry K V)
      → relocation_at old slot c ≡ Some x
      → x.stage ≡ Fresh
      → x.target ≡ old.cleared
      → low_at old slot ≤ x.target
      → entry_at old.records.log.text x.target ≡ Some entry
      → ChecksLiveness stands cmp join code old new slot c x entry now result
      → GoesOn stands cmp join code old new slot c now result
  reads : (x : Relocation K V)
      → relocation_at old slot c ≡ Some x
      → x.stage ≡ Fresh
      → x.target ≡ old.cleared
      → x.target < low_at old slot
      → Asks stands old new (with_relocation old slot c
      (Some (at_stage x (Reading old.records.log.begin))) now) x.target result
      → GoesOn stands cmp join code old new slot c now result
