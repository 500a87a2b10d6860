-- Rows that workers share out among them, and the histories that they make of them.
use Rattle.std.specs.Prelude.{◌≡◌, ◌<◌, ◌==◌, ◌%◌, ℕ, ℤ, List, [], length, map, slice_get, slice_index_or, Option, Some, FitsSigned}
use Rattle.std.specs.List.{All, AllZip, filter, enumerate_from}
use Rattle.std.specs.Int.{w64}
use Rattle.std.specs.declared.cmp.Ordering.{Ordering}
use Rattle.fkv_functions.specs.Meanings.{Meanings}
use Rattle.fkv_functions.specs.Plain.{PlainMap}
use Rattle.fkv_functions.specs.declared.names.Name.{Name}
use Rattle.fkv_histories.specs.declared.entries.Entry.{Entry}
use Rattle.fkv_histories.specs.Histories.{updates, map_of}
use Rattle.fkv_histories.specs.Merges.{IsShuffle}
use Rattle.fkv_partition.specs.Views.{partition_of}
use Rattle.fkv_store.specs.Passes.{IsUpdateBy}
use Rattle.fkv_feeds.specs.Tables.{AreFeeds}

-- what worker w takes of these items, with their places, where so many workers take one in turn
abbrev pub dealt : {A : Type 0} → ℕ → ℕ → List A → List (ℕ × A)
dealt workers w items = filter (λ item. item.0 % workers == w) (enumerate_from 0 items)

-- each of so many workers has what it takes of these items
pub record AreDealt {A : Type 0} (workers : ℕ) (items : List A) (hands : List (List (ℕ × A))) : Type 0 where
  pub count : length hands ≡ workers
  pub each : (w : ℕ) (hand : List (ℕ × A)) → slice_get hands w ≡ Some hand → hand ≡ dealt workers w items

-- the feeds of a worker
abbrev pub feeds_of : {A : Type 0} → ℕ → ℕ → List A → List A
feeds_of workers w feeds = map (λ item. item.1) (dealt workers w feeds)

-- the rows whose keys are of this partition
abbrev pub rows_at : {K I : Type 0} → (K → ℕ) → ℕ → ℕ → List (K × I) → List (K × I)
rows_at code count p rows = filter (λ r. partition_of count (code r.0) == p) rows

-- an own list has one update or merge for each of these rows, in their order, and nothing else
abbrev pub HasRows : {K V I O : Type 0} → List (Entry K V I O) → List (K × I) → Type 0
HasRows own rows = AllZip (λ e r. IsUpdateBy r.0 r.1 e.op) own rows

-- each worker has the rows of the feeds that it takes in turn, of which there are no more than `limit` a feed
pub record AreFedInTurn (limit : ℕ) (feeds : List (Option (List ℕ))) (shares : List (List (Name × ℤ))) : Type 0 where
  pub some : 0 < length shares
  pub each : (w : ℕ) (rows : List (Name × ℤ)) → slice_get shares w ≡ Some rows
      → AreFeeds limit (feeds_of (length shares) w feeds) rows

-- a worker's own lists, one a partition, have its rows: each list those whose keys are of its partition; amounts are of 64
-- bits
pub record HasShare {V O : Type 0} (code : Name → ℕ) (count : ℕ) (own : List (List (Entry Name V ℤ O)))
    (rows : List (Name × ℤ)) : Type 0 where
  pub sized : length own ≡ count
  pub lists : (p : ℕ) → p < count → HasRows (slice_index_or own p []) (rows_at code count p rows)
  pub small : All (λ r. FitsSigned w64 r.1) rows

-- each partition's history is a shuffle of the workers' own lists of it
pub record AreShuffled {K V I O : Type 0} (histories : List (List (Entry K V I O)))
    (owns : List (List (List (Entry K V I O)))) : Type 0 where
  pub some : 0 < length histories
  pub each : (p : ℕ) (history : List (Entry K V I O)) → slice_get histories p ≡ Some history
      → IsShuffle history (map (λ own. slice_index_or own p []) owns)

-- what a key has by the history of its partition
abbrev pub value_by : {K V I O : Type 0} → (K → K → Ordering) → Meanings K V I O → (K → ℕ)
    → List (List (Entry K V I O)) → PlainMap K V
value_by cmp f code histories k =
    map_of cmp f (updates (slice_index_or histories (partition_of (length histories) (code k)) [])) k
