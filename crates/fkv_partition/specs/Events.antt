-- What each event does: a relation with a rule for each case. What belongs to operations on keys stands in `KeyBeginning`,
-- `KeyGoing`, `KeyInstalling`, `KeyLoading` and `KeyEnding`; what belongs to relocations in `Beginning`, `Going`, `Reading` and
-- `Truncating`.
use Rattle.std.specs.Prelude.{◌≡◌, ℕ, Bool, List, Some, None, Result, Err}
use Rattle.std.specs.declared.cmp.Ordering.{Ordering}
use Rattle.fkv_functions.specs.Meanings.{Meanings}
use Rattle.fkv_functions.specs.declared.asks.Ask.{Ask}
use Rattle.fkv_functions.specs.declared.refusals.Refused.{Refused}
use Rattle.fkv_functions.specs.declared.refusals.Refused.TheVariants.{NotReady}
use Rattle.fkv_device.specs.Standing.{Standing, Joined}
use Rattle.fkv_texts.specs.declared.entries.Entry.{Entry}
use Rattle.fkv_operations.specs.Operations.{keyed}
use Rattle.fkv_operations.specs.declared.operations.KeyedOp.{KeyedOp}
use Rattle.fkv_operations.specs.declared.operations.Op.{Op}
use Rattle.fkv_operations.specs.declared.operations.Op.TheVariants.{Relocate}
use Rattle.fkv_partition.specs.declared.contexts.Progress.{Progress}
use Rattle.fkv_partition.specs.KeyBeginning as beginning
use Rattle.fkv_partition.specs.KeyEnding as ending
use Rattle.fkv_partition.specs.Flushing as flushing
use Rattle.fkv_partition.specs.KeyGoing as going
use Rattle.fkv_partition.specs.KeyInstalling as installing
use Rattle.fkv_partition.specs.KeyLoading as loading
use Rattle.fkv_partition.specs.Moves as looking
use Rattle.fkv_partition.specs.declared.relocations.Relocation.{Relocation}
use Rattle.fkv_partition.specs.Beginning.{IssuesOnKey, Relocates, Drops}
use Rattle.fkv_partition.specs.Going.{GoesOn}
use Rattle.fkv_partition.specs.Reading.{LoadsOn, WaitsOn}
pub use Rattle.fkv_partition.specs.Grown.{IsPassedOn}
use Rattle.fkv_partition.specs.Views.{PartitionView, relocation_at}

pub record Enters {K V I : Type 0} (old new : PartitionView K V I) (now : ℕ) (result : Result ℕ Refused) : Type 0 where
  pub does : beginning.Enters old new now result
  pub rest : IsPassedOn old new

pub record Refreshes {K V I : Type 0} (keeps : Bool) (old new : PartitionView K V I) (slot now : ℕ)
    (result : Result (Unit {0}) Refused) : Type 0 where
  pub does : looking.Refreshes keeps old new slot now result
  pub rest : IsPassedOn old new

pub record Shifts {K V I : Type 0} (keeps : Bool) (old new : PartitionView K V I) (page now : ℕ)
    (result : Result (Unit {0}) Refused) : Type 0 where
  pub does : looking.Shifts keeps old new page now result
  pub rest : IsPassedOn old new

pub record Evicts {K V I : Type 0} (keeps : Bool) (old new : PartitionView K V I) (page now : ℕ)
    (result : Result (Unit {0}) Refused) : Type 0 where
  pub does : looking.Evicts keeps old new page now result
  pub rest : IsPassedOn old new

pub record Flushes {K V I : Type 0} (old new : PartitionView K V I) (s : Standing) (bytes : List ℕ) (now : ℕ)
    (result : Result (Unit {0}) Refused) : Type 0 where
  pub does : flushing.Flushes old new s bytes now result
  pub rest : IsPassedOn old new

-- an operation on a key, or a relocation, is issued
pub data Issues {K V I : Type 0} (code : K → ℕ) (old new : PartitionView K V I) (slot : ℕ) (op : Op K V I) (now : ℕ)
    (result : Result ℕ Refused) : Type 0 where
  on_key : (o : KeyedOp K V I)
      → keyed op ≡ Some o
      → IssuesOnKey code old new slot o now result
      → Issues code old new slot op now result
  relocation : op ≡ Relocate → Relocates old new slot now result → Issues code old new slot op now result

-- what is open in a context goes on: a relocation, or else an operation on a key, if any
pub data Goes {K V I O R : Type 0} (stands : R → Standing) (cmp : K → K → Ordering) (join : V → V → V)
    (f : Meanings K V I O) (code : K → ℕ) (old new : PartitionView K V I) (slot c now : ℕ)
    (result : Result (Progress K V I O R) Refused)
    : Type 0 where
  on_key : relocation_at old slot c ≡ None
      → going.Goes stands cmp join f code old new slot c now result
      → IsPassedOn old new
      → Goes stands cmp join f code old new slot c now result
  relocation : (x : Relocation K V)
      → relocation_at old slot c ≡ Some x
      → GoesOn stands cmp join code old new slot c now result
      → Goes stands cmp join f code old new slot c now result

-- what was built for an update is installed; a relocation asks for nothing to be built
pub data Installs {K V I O R : Type 0} (cmp : K → K → Ordering) (f : Meanings K V I O) (code : K → ℕ)
    (old new : PartitionView K V I) (slot c : ℕ) (ask : Ask K V I) (now : ℕ)
    (result : Result (Progress K V I O R) Refused) : Type 0 where
  on_key : relocation_at old slot c ≡ None
      → installing.Installs cmp f code old new slot c ask now result
      → IsPassedOn old new
      → Installs cmp f code old new slot c ask now result
  relocation : (x : Relocation K V)
      → relocation_at old slot c ≡ Some x
      → new ≡ old
      → result ≡ Err NotReady
      → Installs cmp f code old new slot c ask now result

-- a page came for what is open in a context, or a refusal in its place
pub data Loads {K V I O R : Type 0} (stands : R → Standing) (spells : ℕ → List ℕ → ℕ → Entry K V → Type 0)
    (cmp : K → K → Ordering) (join : V → V → V) (f : Meanings K V I O) (code : K → ℕ)
    (old new : PartitionView K V I) (slot c : ℕ) (came : Result (Joined R) Refused) (now : ℕ) (result : Result (Progress K V I O R) Refused) : Type 0 where
  on_key : relocation_at old slot c ≡ None
      → loading.Loads stands spells cmp join f old new slot c came now result
      → IsPassedOn old new
      → Loads stands spells cmp join f code old new slot c came now result
  relocation : (x : Relocation K V)
      → relocation_at old slot c ≡ Some x
      → LoadsOn stands spells cmp join code old new slot c came now result
      → Loads stands spells cmp join f code old new slot c came now result

-- what is open in a context waits for this page, and Begin has not moved since
pub data WaitsFor {K V I : Type 0} (v : PartitionView K V I) (slot c page : ℕ) : Type 0 where
  on_key : relocation_at v slot c ≡ None → loading.WaitsFor v slot c page → WaitsFor v slot c page
  relocation : WaitsOn v slot c page → WaitsFor v slot c page

-- the page that is waited for is read by the receipt that is kept of it
abbrev pub LoadsBy : {K V I O R : Type 0} → (R → Standing) → (ℕ → List ℕ → ℕ → Entry K V → Type 0)
    → (K → K → Ordering) → (V → V → V) → Meanings K V I O → (K → ℕ) → PartitionView K V I → PartitionView K V I
    → ℕ → ℕ → ℕ → ℕ → ℕ → Result (Progress K V I O R) Refused → Type 0
LoadsBy stands spells cmp join f code old new slot c now before after result = loading.ReadsBy stands
    old.records.log.receipts (WaitsFor old slot c)
    (λ came. Loads stands spells cmp join f code old new slot c came now result) old new before after result

-- what is open in a context is given up
pub data GivesUp {K V I : Type 0} (old new : PartitionView K V I) (slot c now : ℕ)
    (result : Result (Unit {0}) Refused) : Type 0 where
  on_key : relocation_at old slot c ≡ None
      → ending.GivesUp old new slot c now result
      → IsPassedOn old new
      → GivesUp old new slot c now result
  relocation : (x : Relocation K V)
      → relocation_at old slot c ≡ Some x
      → Drops old new slot c now result
      → GivesUp old new slot c now result
