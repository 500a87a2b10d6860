-- What a store comes to at its end.
use Rattle.std.specs.Prelude.{◌≡◌, ℕ, List, [], length, sum, sum_by, slice_get, slice_index_or, Some}
use Rattle.std.specs.List.{All}
use Rattle.std.specs.declared.cmp.Ordering.{Ordering}
use Rattle.fkv_functions.specs.Meanings.{Meanings}
use Rattle.fkv_functions.specs.Plain.{PlainMap, Same}
use Rattle.fkv_partition.specs.Views.{partition_of, PartitionView}
use Rattle.fkv_histories.specs.declared.entries.Entry.{Entry}
use Rattle.fkv_histories.specs.Histories.{updates, map_of, IsLegal}
use Rattle.fkv_histories.specs.Merges.{IsMerge, IsShuffle}
use Rattle.fkv_closing.specs.Lists.{lists_of}

-- each partition stands in its place: it has that number, and says that there are as many as there are
pub record AreNumbered {K V I : Type 0} (views : List (PartitionView K V I)) : Type 0 where
  pub numbered : (p : ℕ) (v : PartitionView K V I) → slice_get views p ≡ Some v → v.number ≡ p
  pub counted : (p : ℕ) (v : PartitionView K V I) → slice_get views p ≡ Some v → v.count ≡ length views

module _ {K V I O : Type 0} where
  -- each history is a merge of the own lists of its partition, and one in which each list stands in its order
  abbrev pub AreMerged : List (List (Entry K V I O)) → (ℕ → List (List (Entry K V I O))) → Type 0
  AreMerged histories lists = (p : ℕ) (history : List (Entry K V I O)) → slice_get histories p ≡ Some history
      → IsMerge history (lists p) × IsShuffle history (lists p)

  -- some history is not that
  pub record IsUnmerged (histories : List (List (Entry K V I O))) (lists : ℕ → List (List (Entry K V I O))) : Type 0 where
    pub partition : ℕ
    pub history : List (Entry K V I O)
    pub here : slice_get histories partition ≡ Some history
    pub unlike : ¬ IsShuffle history (lists partition)

module _ {K V I O : Type 0} (cmp : K → K → Ordering) (f : Meanings K V I O) (code : K → ℕ) where
  -- what the updates of the histories of partitions make of the empty map: each key's value by the history of its partition
  abbrev pub map_of_histories : List (List (Entry K V I O)) → PlainMap K V
  map_of_histories histories k =
      map_of cmp f (updates (slice_index_or histories (partition_of (length histories) (code k)) [])) k

  -- a closed store, by the own lists of its passes and by their shares: each pass has an own list for each history; each
  -- history is legal, and a merge of the own lists of its partition; together they have as many entries as operations were
  -- finished, which is what the shares add up to; and the map is what the histories make
  pub record IsClosed (owns : List (List (List (Entry K V I O)))) (shares : List ℕ) (live : PlainMap K V)
      (histories : List (List (Entry K V I O))) (finished : ℕ) : Type 0 where
    pub sized : All (λ own. length own ≡ length histories) owns
    pub legal : All (IsLegal cmp f) histories
    pub merged : AreMerged histories (lists_of owns)
    pub counted : sum_by length histories ≡ finished
    pub shared : sum shares ≡ finished
    pub made : Same live (map_of_histories histories)
