-- What is known of a reader of records on the way.
use Rattle.std.specs.Prelude.{◌≡◌, ℕ, ℤ, List, Bool, true, false, Option, Some, None, IfSome, ⊤}
use Rattle.csv.specs.Reading.{Ready, default_config, reader_trim, reader_config, reader_state}
use Rattle.csv.specs.declared.parser.State.TheVariants as st
use Rattle.csv.specs.declared.reader.Trim.TheVariants as trim
use Rattle.csv.specs.declared.reader.Reader.{Reader}
use Rattle.fkv_functions.specs.declared.names.Name.{Name}
use Rattle.fkv_functions.specs.declared.refusals.Refused.{Refused}
use Rattle.fkv_functions.specs.declared.refusals.Refused.TheVariants.{NoMemory, BadRow, Unreadable}
use Rattle.fkv_streams.specs.Counting.{one_more}
use Rattle.fkv_feed_rows.specs.Feeds.{AreRowsOf, IsBadRow, IsTooLong}

-- how often a stream has failed by now, which had failed so often, and failed since or did not
abbrev pub count_of : Bool → ℕ → ℕ
count_of true before = one_more before
count_of false before = before

-- a reader before its first record, by csv's defaults but for the header row
pub record IsFresh {R : Type 0} (reader : Reader R) : Type 0 where
  pub plain : reader_trim reader ≡ trim.None
  pub ready : Ready reader
  pub config : reader_config reader ≡ default_config
  pub start : reader_state reader ≡ st.StartRecord

-- the rows of these bytes, where they are known
abbrev pub AreRowsIn : ℕ → Option (List ℕ) → List (Name × ℤ) → Type 0
AreRowsIn limit None rows = ⊤
AreRowsIn limit (Some bytes) rows = AreRowsOf limit bytes rows

-- why the rows of these bytes were not all read
abbrev pub TellsOf : ℕ → ℕ → Option (List ℕ) → Refused → Type 0
TellsOf feed limit bytes NoMemory = ⊤
TellsOf feed limit bytes (BadRow f n) = (f ≡ feed) × IfSome bytes (λ b. IsBadRow b n)
TellsOf feed limit bytes (Unreadable f) = (f ≡ feed) × IfSome bytes (λ b. IsTooLong limit b)
TellsOf feed limit bytes other = ⊥
