-- What an operation of a pass runs as, and what its readers count meanwhile.
use Rattle.std.specs.Prelude.{◌≡◌, ◌≢◌, ◌⊎◌, ◌+◌, ◌-◌, ◌^◌, ◌<◌, ◌≤◌, ℕ, Bool, IsTrue, List, slice_index, slice_set, Option, Some, None, Result, Ok, Err}
use Rattle.fkv_functions.specs.declared.refusals.Refused.{Refused}
use Rattle.fkv_functions.specs.declared.refusals.Refused.TheVariants.{NoMemory, Device, Damaged}
use Rattle.fkv_operations.specs.declared.operations.KeyedOp.{KeyedOp}
use Rattle.fkv_operations.specs.declared.operations.KeyedOp.TheVariants.{Rmw}
use Rattle.fkv_histories.specs.declared.entries.Entry.{Entry}
use Rattle.fkv_store.specs.declared.running.Loads.{Loads}
use Rattle.fkv_store.specs.declared.running.Loads.TheVariants as loads
use Rattle.fkv_store.specs.Passes.{IsUpdateBy}
use Rattle.fkv_store.specs.Stores.{IsPageFault}

-- an operation runs as itself; where no page is to be read, an update runs as one or as a merge
abbrev pub IsRunAs : {K V I : Type 0} → Loads → KeyedOp K V I → KeyedOp K V I → Type 0
IsRunAs loads.Merge (Rmw key input) ran = IsUpdateBy key input ran
IsRunAs _ op ran = ran ≡ op

-- an entry of this operation, whose place is not before so many updates
pub record IsEntryOf {K V I O : Type 0} (op : KeyedOp K V I) (known : ℕ) (e : Entry K V I O) : Type 0 where
  pub op_is : e.op ≡ op
  pub fresh : known ≤ e.at
  pub room : e.at < 2 ^ 64 - 1

-- how many turns an operation took, and how many faults of pages it passed over: a page that it asked for was not read, but something
-- else came of the operation, as where compaction had dropped that page by then
pub record TurnsView : Type 0 where
  pub count : ℕ
  pub missed : ℕ

-- what came in place of a page, if anything did
abbrev pub fault_in : {A : Type 0} → Result A Refused → Option Refused
fault_in (Ok page) = None
fault_in (Err why) = Some why

-- how many faults that is: a want of memory is none
abbrev pub faults_of : Option Refused → ℕ
faults_of None = 0
faults_of (Some NoMemory) = 0
faults_of (Some why) = 1

-- why a turn is refused that was handed a page, or what came in its place, and how many faults are passed over before and after: it
-- tells that fault; or, on a device that does not keep, the page that came spells no record; or it tells something else, and
-- passes the fault over
pub data IsSaid (keeps : Bool) (fault : Option Refused) (old new : ℕ) (why : Refused) : Type 0 where
  told : fault ≡ Some why → IsPageFault why → new ≡ old → IsSaid keeps fault old new why
  misspelled : (page : ℕ)
      → (IsTrue keeps → ⊥)
      → fault ≡ None
      → why ≡ Damaged page
      → new ≡ old
      → IsSaid keeps fault old new why
  passed : (IsPageFault why → ⊥) → new ≡ old + faults_of fault → IsSaid keeps fault old new why

-- how often a reader has failed, before an operation and when it is refused: once for each fault that was passed over, and once
-- more where the refusal is the reader's own. On a device that does not keep, `Damaged` may also be of bytes that spell no record
abbrev pub IsCounted : Bool → ℕ → ℕ → ℕ → Refused → Type 0
IsCounted keeps before now missed (Device code page) =
    ((code ≡ 3) × (now ≡ before + missed + 1)) ⊎ ((code ≢ 3) × (now ≡ before + missed))
IsCounted keeps before now missed (Damaged page) =
    (now ≡ before + missed + 1) ⊎ ((IsTrue keeps → ⊥) × (now ≡ before + missed))
IsCounted keeps before now missed other = now ≡ before + missed

-- the same of a pass, of whose readers one reads the pages of the operation's home: no other one counts anything
abbrev pub AreCounted : Bool → ℕ → List ℕ → List ℕ → ℕ → Refused → Type 0
AreCounted keeps home old new missed why =
    (now : ℕ) × IsCounted keeps (slice_index old home) now missed why × (new ≡ slice_set old home now)

-- and of an operation that is answered
abbrev pub AreSteady : ℕ → List ℕ → List ℕ → ℕ → Type 0
AreSteady home old new missed = new ≡ slice_set old home (slice_index old home + missed)
