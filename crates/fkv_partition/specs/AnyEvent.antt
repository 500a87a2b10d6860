-- One event of a partition, whatever it is and however it ends, and events one after another.
use Rattle.std.specs.Prelude.{◌≡◌, ℕ, Bool, List, [], ◌∷◌, Result}
use Rattle.std.specs.declared.cmp.Ordering.{Ordering}
use Rattle.fkv_functions.specs.Meanings.{Meanings}
use Rattle.fkv_functions.specs.declared.asks.Ask.{Ask}
use Rattle.fkv_functions.specs.declared.refusals.Refused.{Refused}
use Rattle.fkv_device.specs.Standing.{Standing, Joined}
use Rattle.fkv_texts.specs.declared.entries.Entry.{Entry}
use Rattle.fkv_operations.specs.declared.operations.Op.{Op}
use Rattle.fkv_partition.specs.declared.contexts.Progress.{Progress}
use Rattle.fkv_partition.specs.Beginning.{LeavesAll}
use Rattle.fkv_partition.specs.Events.{Enters, Refreshes, Shifts, Evicts, Flushes, Issues, Goes, Installs, Loads, LoadsBy, GivesUp}
use Rattle.fkv_partition.specs.Sound.{IsPartition}
use Rattle.fkv_partition.specs.Truncating.{Truncates}
use Rattle.fkv_partition.specs.Views.{PartitionView, at_moment}

-- what each call does that may change a partition, by the rule that its contract names. An update that is issued and done in
-- one call is two events
pub data Event {K V I O R : Type 0} (keeps : Bool) (stands : R → Standing) (spells : ℕ → List ℕ → ℕ → Entry K V → Type 0)
    (cmp : K → K → Ordering) (join : V → V → V) (f : Meanings K V I O) (code : K → ℕ) (old new : PartitionView K V I)
    : Type 0 where
  enters : (now : ℕ) (result : Result ℕ Refused)
      → Enters old new now result
      → Event keeps stands spells cmp join f code old new
  leaves : (slot now : ℕ) (result : Result (Unit {0}) Refused)
      → LeavesAll keeps old new slot now result
      → Event keeps stands spells cmp join f code old new
  refreshes : (slot now : ℕ) (result : Result (Unit {0}) Refused)
      → Refreshes keeps old new slot now result
      → Event keeps stands spells cmp join f code old new
  issues : (slot : ℕ) (op : Op K V I) (now : ℕ) (result : Result ℕ Refused)
      → Issues code old new slot op now result
      → Event keeps stands spells cmp join f code old new
  goes : (slot c now : ℕ) (result : Result (Progress K V I O R) Refused)
      → Goes stands cmp join f code old new slot c now result
      → Event keeps stands spells cmp join f code old new
  installs : (slot c : ℕ) (ask : Ask K V I) (now : ℕ) (result : Result (Progress K V I O R) Refused)
      → Installs cmp f code old new slot c ask now result
      → Event keeps stands spells cmp join f code old new
  loads : (slot c : ℕ) (came : Result (Joined R) Refused) (now : ℕ) (result : Result (Progress K V I O R) Refused)
      → Loads stands spells cmp join f code old new slot c came now result
      → Event keeps stands spells cmp join f code old new
  loads_by : (slot c now before after : ℕ) (result : Result (Progress K V I O R) Refused)
      → LoadsBy stands spells cmp join f code old new slot c now before after result
      → Event keeps stands spells cmp join f code old new
  gives_up : (slot c now : ℕ) (result : Result (Unit {0}) Refused)
      → GivesUp old new slot c now result
      → Event keeps stands spells cmp join f code old new
  shifts : (page now : ℕ) (result : Result (Unit {0}) Refused)
      → Shifts keeps old new page now result
      → Event keeps stands spells cmp join f code old new
  evicts : (page now : ℕ) (result : Result (Unit {0}) Refused)
      → Evicts keeps old new page now result
      → Event keeps stands spells cmp join f code old new
  flushes : (s : Standing) (bytes : List ℕ) (now : ℕ) (result : Result (Unit {0}) Refused)
      → Flushes old new s bytes now result
      → Event keeps stands spells cmp join f code old new
  truncates : (page now : ℕ) (result : Result (Unit {0}) Refused)
      → Truncates keeps old new page now result
      → Event keeps stands spells cmp join f code old new
  -- a page is taken to be written, which lets a moment pass, or is refused
  takes : (now : ℕ) → new ≡ at_moment old now → Event keeps stands spells cmp join f code old new
  takes_none : new ≡ old → Event keeps stands spells cmp join f code old new

abbrev pub AreEvents : {K V I O R : Type 0} → Bool → (R → Standing) → (ℕ → List ℕ → ℕ → Entry K V → Type 0)
    → (K → K → Ordering) → (V → V → V) → Meanings K V I O → (K → ℕ) → PartitionView K V I → List (PartitionView K V I) → Type 0
AreEvents keeps stands spells cmp join f code v [] = Unit {0}
AreEvents keeps stands spells cmp join f code v (w ∷ ws) =
    Event keeps stands spells cmp join f code v w × IsPartition keeps cmp join code w
    × AreEvents keeps stands spells cmp join f code w ws
