-- The rows of a feed, by the words of the crate `csv`.
use Rattle.std.specs.Prelude.{◌≡◌, ◌<◌, ◌≤◌, ◌+◌, ◌⊎◌, ◌++◌, ◌∷◌, [], ℕ, ℤ, List, length, Option, Some, None, IfSome}
use Rattle.csv.specs.Reading.{Reached, AreRecords, strip_bom, default_config}
use Rattle.csv.specs.declared.parser.State.{State}
use Rattle.csv.specs.declared.parser.State.TheVariants as st
use Rattle.fkv_functions.specs.declared.names.Name.{Name}
use Rattle.fkv_functions.specs.declared.refusals.Refused.{Refused}
use Rattle.fkv_functions.specs.declared.refusals.Refused.TheVariants.{NoMemory, Worn, BadRow, Unreadable, Device, Damaged}
use Rattle.fkv_streams.specs.Counting.{one_more}
use Rattle.fkv_feed_rows.specs.Rows.{IsRow, AreRows}

-- what is read of a feed's bytes: csv drops a byte order mark at their front
abbrev pub without_mark : List ℕ → List ℕ
without_mark bytes = strip_bom bytes

-- The rows of these bytes, of which there are no more than so many. They are all of the records that csv reads by its
-- defaults, without a header row: commas part fields; a line feed, a carriage return or both end a record; inside
-- double quotes none of these does, and two quotes are one; an empty line is no record. Each of them is a row.
pub record AreRowsOf (limit : ℕ) (bytes : List ℕ) (rows : List (Name × ℤ)) : Type 0 where
  pub records : List (List (List ℕ))
  pub all : AreRecords default_config st.StartRecord bytes records
  pub good : AreRows records rows
  pub within : length rows ≤ limit

-- record n, counted from 1, is no row, and those before it are
pub record IsBadRow (bytes : List ℕ) (n : ℕ) : Type 0 where
  pub before : List (List (List ℕ))
  pub here : List (List ℕ)
  pub state : State
  pub left : List ℕ
  pub reached : Reached default_config st.StartRecord bytes (before ++ here ∷ []) state left
  pub rows : List (Name × ℤ)
  pub good : AreRows before rows
  pub number : n ≡ length before + 1
  pub bad : (row : Name × ℤ) → IsRow here row → ⊥

-- there are more records than so many
pub record IsTooLong (limit : ℕ) (bytes : List ℕ) : Type 0 where
  pub records : List (List (List ℕ))
  pub state : State
  pub left : List ℕ
  pub reached : Reached default_config st.StartRecord bytes records state left
  pub more : limit < length records

-- the rows of a feed, where its bytes are known
abbrev pub IsFeed : ℕ → Option (List ℕ) → List (Name × ℤ) → Type 0
IsFeed limit None rows = Unit {0}
IsFeed limit (Some bytes) rows = AreRowsOf limit (without_mark bytes) rows

-- Why this feed was not read to its end, whose stream had failed so often before, and so often after. It is told as
-- unreadable where its stream failed in the reading, or where it has a record too many.
abbrev pub TellsUnread : ℕ → ℕ → Option (List ℕ) → ℕ → ℕ → Refused → Type 0
TellsUnread feed limit bytes old new NoMemory = new ≡ old
TellsUnread feed limit bytes old new (BadRow f n) =
    (new ≡ old) × (f ≡ feed) × IfSome bytes (λ b. IsBadRow (without_mark b) n)
TellsUnread feed limit bytes old new (Unreadable f) =
    (f ≡ feed)
    × ((new ≡ one_more old) ⊎ ((new ≡ old) × IfSome bytes (λ b. IsTooLong limit (without_mark b))))
TellsUnread feed limit bytes old new other = ⊥

-- Why the reading of this feed into partitions was refused: an update of a row was, where a device's fault is one that
-- `fault` says; or the feed was not read to its end.
abbrev pub TellsWhy : (Refused → Type 0) → ℕ → ℕ → Option (List ℕ) → ℕ → ℕ → Refused → Type 0
TellsWhy fault feed limit bytes old new Worn = new ≡ old
TellsWhy fault feed limit bytes old new (Device code page) = (new ≡ old) × fault (Device code page)
TellsWhy fault feed limit bytes old new (Damaged page) = (new ≡ old) × fault (Damaged page)
TellsWhy fault feed limit bytes old new other = TellsUnread feed limit bytes old new other
