-- What a worker does with its feeds, and what is known of it afterwards.
use Rattle.std.specs.Prelude.{◌≡◌, ◌<◌, ◌+◌, ◌-◌, ◌^◌, ◌≤◌, ◌⊎◌, ℕ, ℤ, Bool, true, false, FitsSigned, List, [], ◌∷◌, ◌++◌, length, map, slice_get, slice_index_or, Option, Some, None, min}
use Rattle.std.specs.Int.{w64}
use Rattle.std.specs.List.{All, AllZip}
use Rattle.std.specs.BTreeMap.{is_at}
use Rattle.std.specs.Map.{lookup}
use Rattle.fkv_functions.specs.Meanings.{Meanings}
use Rattle.fkv_functions.specs.Names.{name_cmp}
use Rattle.fkv_functions.specs.declared.names.Name.{Name}
use Rattle.fkv_functions.specs.declared.refusals.Refused.{Refused}
use Rattle.fkv_functions.specs.declared.refusals.Refused.TheVariants.{BadConfig}
use Rattle.fkv_feed_rows.specs.Feeds.{TellsUnread}
use Rattle.fkv_feeds.specs.Tables.{AreFeeds, most_rows}
use Rattle.fkv_feeds.specs.declared.counting.RowMode.{RowMode}
use Rattle.fkv_feeds.specs.declared.counting.RowMode.TheVariants.{Update}
use Rattle.fkv_operations.specs.After.{is_merge}
use Rattle.fkv_closing.specs.Closing.{IsClosed}
use Rattle.fkv_histories.specs.declared.entries.Entry.{Entry}
use Rattle.fkv_partition.specs.Limits.{IsWithinLimits}
use Rattle.fkv_partition.specs.declared.limits.Config.{Config}
use Rattle.fkv_partition.specs.Views.{partition_of}
use Rattle.fkv_store.specs.declared.running.Loads.{Loads}
use Rattle.fkv_store.specs.declared.running.Loads.TheVariants as loads
use Rattle.fkv_store.specs.Stores.{IsTold, IsUnopened, IsClosing}
use Rattle.fkv_store.specs.Passes.{PassView, IsUpdateBy, Answers}
use Rattle.fkv_blocks.specs.Pieces.{AreFed, IsFirstUnread}
use Rattle.fkv_workers.specs.Shares.{AreFedInTurn, HasShare, dealt, rows_at}

-- what a pass does where a row needs a page
abbrev pub loads_of : RowMode → Loads
loads_of Update = loads.Read
loads_of RowMode.Merge = loads.Merge

-- a pass made a row by one operation on its key, with its amount: by an update, or, only where the mode asks for merges, by a
-- merge
pub record Makes {V O : Type 0} (mode : RowMode) (keeps : Bool) (old new : PassView Name V ℤ O) (partition : ℕ) (key : Name)
    (amount : ℤ) : Type 0 where
  pub entry : Entry Name V ℤ O
  pub of_row : IsUpdateBy key amount entry.op
  pub by_mode : mode ≡ Update → is_merge entry.op ≡ false
  pub answers : Answers keeps old new partition entry.op entry.answer entry

-- no own list has a merge, but where the mode asks for merges
abbrev pub AreMadeBy : {V O : Type 0} → RowMode → List (List (Entry Name V ℤ O)) → Type 0
AreMadeBy mode own = mode ≡ Update → All (All (λ e. is_merge e.op ≡ false)) own

-- a pass, whose own lists have these rows where entries are kept, and each as the mode says
pub record StandsFor {V O : Type 0} (keeps : Bool) (code : Name → ℕ) (mode : RowMode) (pass : PassView Name V ℤ O)
    (rows : List (Name × ℤ)) : Type 0 where
  pub some : 0 < length pass.told
  pub share : keeps ≡ true → HasShare code (length pass.told) pass.own rows
  pub made : keeps ≡ true → AreMadeBy mode pass.own

-- a pass has some of these rows, and the others wait: those of each partition in a list of its own, in their order
pub record AreSplit {V O : Type 0} (keeps : Bool) (code : Name → ℕ) (mode : RowMode) (pass : PassView Name V ℤ O)
    (waiting : List (List (Name × ℤ))) (rows : List (Name × ℤ)) : Type 0 where
  pub done : List (Name × ℤ)
  pub stands : StandsFor keeps code mode pass done
  pub sized : length waiting ≡ length pass.told
  pub parts : (p : ℕ) → p < length pass.told → rows_at code (length pass.told) p rows
      ≡ rows_at code (length pass.told) p done ++ slice_index_or waiting p []
  pub placed : (p : ℕ) → p < length pass.told
      → All (λ r. partition_of (length pass.told) (code r.0) ≡ p) (slice_index_or waiting p [])
  pub small : All (λ r. FitsSigned w64 r.1) rows

-- the number of the feed at this place, counted from 1
abbrev pub number_of : ℕ → ℕ
number_of place = min (place + 1) (2 ^ 64 - 1)

-- a worker read its share to its end, which has rows of this kind, and its pass has them, each made as the mode says
pub record HasDone {V O : Type 0} (HasRows : List (Name × ℤ) → Type 0) (keeps : Bool) (code : Name → ℕ) (mode : RowMode)
    (pass : PassView Name V ℤ O) : Type 0 where
  pub rows : List (Name × ℤ)
  pub read : HasRows rows
  pub stands : StandsFor keeps code mode pass rows

module _ {S : Type 0} (remaining : S → Option (List ℕ)) (failures : S → ℕ) where
  -- one of these feeds was not read to its end, and why: by its failures, and those of what the reading left of it
  pub record IsUnreadOf (feeds : List (ℕ × S)) (why : Refused) : Type 0 where
    pub place : ℕ
    pub feed : ℕ × S
    pub here : slice_get feeds place ≡ Some feed
    pub left : S
    pub after : ℕ
    pub counts : after ≡ failures left
    pub tells : TellsUnread (number_of feed.0) most_rows (remaining feed.1) (failures feed.1) after why

  -- why a worker stopped before: its pass refused an update or to rest, or a feed was not read to its end
  abbrev pub IsStop : List (ℕ × S) → Refused → Type 0
  IsStop feeds why = IsTold why ⊎ IsUnreadOf feeds why

  -- these feeds were read to their ends, and have rows
  pub record HasRead (feeds : List (ℕ × S)) : Type 0 where
    pub rows : List (Name × ℤ)
    pub read : AreFeeds most_rows (map (λ feed. remaining feed.1) feeds) rows

  -- each worker has read its feeds, of so many workers
  abbrev pub HaveRead : ℕ → ℕ → List S → Type 0
  HaveRead many workers feeds = (w : ℕ) → w < many → HasRead (dealt workers w feeds)

  -- whose refusal is told of a run by so many workers: one that comes before any feed is read, or where threads can't be made or
  -- hand nothing back; or that of the first worker that stopped, where all before it have read their feeds to their ends; or, where
  -- all have, the keeper's; or that of the store's end
  pub data IsFirst (workers : ℕ) (feeds : List S) (why : Refused) : Type 0 where
    early : (why ≡ BadConfig) ⊎ IsUnopened why → IsFirst workers feeds why
    worker : (w : ℕ)
        → w < workers
        → HaveRead w workers feeds
        → IsStop (dealt workers w feeds) why
        → IsFirst workers feeds why
    keeper : HaveRead workers workers feeds → IsTold why → IsFirst workers feeds why
    closing : HaveRead workers workers feeds → IsClosing why → IsFirst workers feeds why

  -- why a run by so many workers has no table: it is outside its limits; a call on the store was refused, one that opens it, an
  -- update of a row or the keeper's work; one of the feeds that a worker has was not read to its end; or the store did not close
  pub data IsUnmade (runnable : Type 0) (workers : ℕ) (feeds : List S) (why : Refused) : Type 0 where
    beyond : why ≡ BadConfig → ¬ runnable → IsUnmade runnable workers feeds why
    told : IsTold why → IsUnmade runnable workers feeds why
    unread : (w : ℕ) → w < workers → IsUnreadOf (dealt workers w feeds) why → IsUnmade runnable workers feeds why
    unclosed : IsClosing why → IsUnmade runnable workers feeds why

  -- why the threads of a run hand no passes back
  abbrev pub IsUnworked : ℕ → List S → Refused → Type 0
  IsUnworked workers feeds why = IsTold why ⊎ ((w : ℕ) × (w < workers) × IsUnreadOf (dealt workers w feeds) why)

-- the fault of the first worker that has one
pub record IsFirstFault (faults : List (Option Refused)) (why : Refused) : Type 0 where
  pub before : List (Option Refused)
  pub after : List (Option Refused)
  pub is : faults ≡ before ++ Some why ∷ after
  pub none : All (λ fault. fault ≡ None) before

-- the own lists of these passes have the rows of these feeds, which their workers share out among them: each row by one update, or, only
-- where the mode asks for merges, by one merge
pub record IsShared {V O : Type 0} (code : Name → ℕ) (mode : RowMode) (feeds : List (Option (List ℕ)))
    (passes : List (PassView Name V ℤ O)) : Type 0 where
  pub shares : List (List (Name × ℤ))
  pub fed : AreFed most_rows feeds shares
  pub kept : AllZip (λ pass rows. HasShare code (length pass.told) pass.own rows) passes shares
  pub made : All (λ pass. AreMadeBy mode pass.own) passes

-- and they share them out feed by feed, in turn
pub record IsFedBy {V O : Type 0} (code : Name → ℕ) (mode : RowMode) (feeds : List (Option (List ℕ)))
    (passes : List (PassView Name V ℤ O)) : Type 0 where
  pub shared : IsShared code mode feeds passes
  pub in_turn : AreFedInTurn most_rows feeds shared.shares

-- what workers who share feeds out, in pieces of any, make of them: the own lists of passes have one update or merge for each row, each
-- history is a merge of these lists, they have as many entries as stand beside the table, and what they make of the empty map is the
-- table
pub record IsMadeOf {V O : Type 0} (f : Meanings Name V ℤ O) (code : Name → ℕ) (mode : RowMode) (feeds : List (Option (List ℕ)))
    (table : List (Name × V)) (count : ℕ) : Type 0 where
  pub passes : List (PassView Name V ℤ O)
  pub histories : List (List (Entry Name V ℤ O))
  pub shared : IsShared code mode feeds passes
  pub closed : IsClosed name_cmp f code (map (λ pass. pass.own) passes) (map (λ pass. pass.share) passes)
      (λ k. lookup (is_at (name_cmp k)) table) histories count

-- why a run over blocks of these feeds has no table: it is outside its limits; a call on the store was refused; the first feed that has
-- no rows, and why, where the streams had failed so often before the run, and so often after it; or the store did not close
pub data IsUnread (runnable : Type 0) (feeds : List (Option (List ℕ))) (before after : List ℕ) (why : Refused) : Type 0 where
  beyond : why ≡ BadConfig → ¬ runnable → IsUnread runnable feeds before after why
  told : IsTold why → IsUnread runnable feeds before after why
  unread : IsFirstUnread feeds before after most_rows why → IsUnread runnable feeds before after why
  unclosed : IsClosing why → IsUnread runnable feeds before after why

-- a table, beside which stand so many updates, was made of these feeds in this mode: the own lists of passes have one update or merge
-- for each row, each history is a merge of these lists, they have as many entries, and what they make of the empty map is the
-- table
pub record IsMadeBy {V O : Type 0} (f : Meanings Name V ℤ O) (code : Name → ℕ) (mode : RowMode) (feeds : List (Option (List ℕ)))
    (table : List (Name × V)) (count : ℕ) : Type 0 where
  pub passes : List (PassView Name V ℤ O)
  pub histories : List (List (Entry Name V ℤ O))
  pub fed : IsFedBy code mode feeds passes
  pub closed : IsClosed name_cmp f code (map (λ pass. pass.own) passes) (map (λ pass. pass.share) passes)
      (λ k. lookup (is_at (name_cmp k)) table) histories count

-- a run of so many workers over so many feeds is within its limits
pub record IsRunnable (c : Config) (record_size workers feeds : ℕ) : Type 0 where
  pub limits : IsWithinLimits c record_size
  pub workers_least : 1 ≤ workers
  pub workers_most : workers ≤ 14
  pub feeds_least : 1 ≤ feeds
  pub feeds_most : feeds ≤ 64
