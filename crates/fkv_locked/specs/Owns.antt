-- What a caller was answered: its own lists, and what one entry more makes of them.
use Rattle.std.specs.Prelude.{◌≡◌, ◌+◌, ℕ, Bool, true, List, [], ◌∷◌, ◌++◌, Option, Some, length, map, slice_set, slice_index_or, if◌then◌else◌}
use Rattle.fkv_operations.specs.declared.operations.Answer.{Answer}
use Rattle.fkv_histories.specs.declared.entries.Entry.{Entry}
use Rattle.fkv_histories.specs.Histories.{is_update_entry}

-- for each partition a recorder of what it was answered there, and of how many updates it was told; its share: how many entries
-- it took; and the answer of the last
pub record OwnsView (H O : Type 0) : Type 0 where
  pub lists : List H
  pub told : List ℕ
  pub share : ℕ
  pub last : Option (Answer O)

module _ {K V I O : Type 0} where
  -- of how many updates a caller was told, after it was answered by an entry
  abbrev pub told_after : Entry K V I O → ℕ
  told_after e = if is_update_entry e then e.at + 1 else e.at

module _ {H K V I O : Type 0} where
  -- one entry was taken, which was recorded in a partition: where entries are kept the own list of the partition has it, at its
  -- end; the caller was told of its place; and the last answer is its answer
  pub record Takes (keeps : Bool) (entries : H → List (Entry K V I O)) (old new : OwnsView H O) (place : ℕ)
      (e : Entry K V I O) : Type 0 where
    pub own_is : keeps ≡ true → map entries new.lists
        ≡ slice_set (map entries old.lists) place (slice_index_or (map entries old.lists) place [] ++ e ∷ [])
    pub told_is : new.told ≡ slice_set old.told place (told_after e)
    pub share_is : new.share ≡ old.share + 1
    pub last_is : new.last ≡ Some e.answer
    pub sized : length new.lists ≡ length old.lists
