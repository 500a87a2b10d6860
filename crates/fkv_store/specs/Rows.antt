-- Rows, which are keys with inputs, that a pass makes updates in one call.
use Rattle.std.specs.Prelude.{◌≡◌, ◌-◌, ◌^◌, ◌<◌, ◌≤◌, ℕ, Bool, List, [], ◌∷◌, ◌++◌, slice_index}
use Rattle.fkv_functions.specs.declared.refusals.Refused.{Refused}
use Rattle.fkv_functions.specs.declared.refusals.Refused.TheVariants.{Stalled}
use Rattle.fkv_operations.specs.declared.operations.KeyedOp.{KeyedOp}
use Rattle.fkv_operations.specs.declared.operations.KeyedOp.TheVariants.{Rmw}
use Rattle.fkv_operations.specs.declared.operations.Answer.{Answer}
use Rattle.fkv_partition.specs.Views.{partition_of}
use Rattle.fkv_store.specs.declared.running.Loads.{Loads}
use Rattle.fkv_store.specs.Stores.{StoreView, IsStopped}
use Rattle.fkv_store.specs.Passes.{PassView, Runs}
use Rattle.fkv_store.specs.Runs.{IsRunAs, AreSteady, AreCounted}

module _ {K V I O : Type 0} (keeps : Bool) (code : K → ℕ) (loads : Loads) (s : StoreView) where
  -- a row was made an update, or, where no page is to be read, a merge: by one run, as where it is run alone
  pub record IsMade (old : PassView K V I O) (row : K × I) (new : PassView K V I O) : Type 0 where
    pub ran : KeyedOp K V I
    pub as_asked : IsRunAs loads (Rmw row.0 row.1) ran
    pub answer : Answer O
    pub runs : Runs keeps old new (partition_of s.count (code row.0)) ran answer
    pub room : old.share < 2 ^ 64 - 1
    pub within : new.turned ≤ s.turns
    pub steady : AreSteady (partition_of s.count (code row.0)) old.reads new.reads new.missed

  -- rows were made so in order, one after the other
  abbrev pub AreMade : PassView K V I O → List (K × I) → PassView K V I O → Type 0
  AreMade old [] new = new ≡ old
  AreMade old (row ∷ rows) new = (then : PassView K V I O) × IsMade old row then × AreMade then rows new

  -- why not all rows were made: one was refused, as where it is run alone; those before it were made, and none behind it
  pub record IsCutShort (pages_keep : Bool) (old : PassView K V I O) (rows : List (K × I)) (new : PassView K V I O) (why : Refused)
      : Type 0 where
    pub before : List (K × I)
    pub row : K × I
    pub behind : List (K × I)
    pub is : rows ≡ before ++ row ∷ behind
    pub then : PassView K V I O
    pub made : AreMade old before then
    pub stands : new ≡ record then { turned = new.turned; missed = new.missed; reads = new.reads }
    pub only : IsStopped (slice_index then.told (partition_of s.count (code row.0))) why
    pub stalled : why ≡ Stalled → new.turned ≡ s.turns
    pub counted : AreCounted pages_keep (partition_of s.count (code row.0)) then.reads new.reads new.missed why
