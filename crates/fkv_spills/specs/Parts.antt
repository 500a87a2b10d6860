-- The runs of several partitions in pages, by their pairs that are still to come and how many are counted.
use Rattle.std.specs.Prelude.{◌≡◌, ℕ, Bool, List, length}
use Rattle.fkv_functions.specs.Codecs.{Codec}
use Rattle.fkv_functions.specs.Names.{name_cmp}
use Rattle.fkv_functions.specs.declared.names.Name.{Name}
use Rattle.fkv_device.specs.Standing.{Standing}
use Rattle.fkv_runs.specs.Merging.{merged}
use Rattle.fkv_spills.specs.Reading.{HasMerged, IsGrouped, IsLeft}
use Rattle.fkv_spills.specs.declared.parts.SpilledPart.{SpilledPart}
use Rattle.fkv_spills.specs.declared.parts.SpilledParts.{SpilledParts}
use Rattle.fkv_spills.specs.declared.parts.SpilledTable.{SpilledTable}

module _ {V : Type 0} {vsize : ℕ} (value : Codec V vsize) (keeps : Bool) where
  -- those of one
  abbrev pub HasPairs : {R P : Type 0} → (R → Standing) → SpilledPart V R P → List (Name × V) → Type 0
  HasPairs stands part xs = IsLeft value keeps stands part.rest xs × (part.len ≡ length xs)

  -- these of each
  abbrev pub HaveRuns : {R P : Type 0} → (R → Standing) → SpilledParts V R P → List (List (Name × V)) → Type 0
  HaveRuns stands parts lists = IsGrouped (IsLeft value keeps stands) parts.groups lists × (parts.keys ≡ length (merged name_cmp lists))

  -- those of all, as one list
  abbrev pub HasMergedPairs : {R P : Type 0} → (R → Standing) → SpilledTable V R P → List (Name × V) → Type 0
  HasMergedPairs stands table xs = HasMerged (HasMerged (IsLeft value keeps stands)) table.pairs xs × (table.keys ≡ length xs)
