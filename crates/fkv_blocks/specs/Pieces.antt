-- Rows of feeds that several workers read, in pieces.
use Rattle.std.specs.Prelude.{◌≡◌, ◌<◌, ◌≤◌, ◌+◌, ◌==◌, ◌⊎◌, ℕ, ℤ, List, [], ◌∷◌, length, map, slice_index, slice_index_or, Option, None, Some, ⊤, IfSome, flat_map, option_map}
use Rattle.std.specs.List.{All, AllZip, filter}
use Rattle.fkv_functions.specs.declared.names.Name.{Name}
use Rattle.csv.specs.Reading.{strip_bom}
use Rattle.fkv_functions.specs.declared.refusals.Refused.{Refused}
use Rattle.fkv_functions.specs.declared.refusals.Refused.TheVariants.{BadRow, Unreadable}
use Rattle.fkv_streams.specs.Counting.{one_more}
use Rattle.fkv_feed_rows.specs.Feeds.{IsBadRow, IsFeed, IsTooLong, without_mark}
use Rattle.fkv_feed_rows.specs.Rows.{AreRows}
use Rattle.fkv_blocks.specs.declared.orders.Taken.{Taken}
use Rattle.fkv_blocks.specs.declared.spans.Span.{Span}
use Rattle.fkv_blocks.specs.declared.spans.Ticket.{Ticket}
use Rattle.fkv_blocks.specs.Left.{IsWide, number_of, text_at}
use Rattle.fkv_blocks.specs.Shares.{AreRowsIn}
use Rattle.fkv_blocks.specs.Spans.{AreRecordsAt, Chains}

-- rows of a feed that stand one behind another there, and were read by one worker: the places of both, counted from 0
pub record Piece : Type 0 where
  pub worker : ℕ
  pub feed : ℕ
  pub rows : List (Name × ℤ)

-- the rows of these pieces, one behind another
abbrev pub rows_of : List Piece → List (Name × ℤ)
rows_of pieces = flat_map (λ piece. piece.rows) pieces

-- workers share the rows of feeds out among them, piece by piece: the pieces of each feed, in its order, are its rows, of which there
-- are no more than `limit`; those of each worker, in the order in which it read them, are its share; and what a worker has of a feed
-- it read in the feed's order
pub record AreFed (limit : ℕ) (feeds : List (Option (List ℕ))) (shares : List (List (Name × ℤ))) : Type 0 where
  pub order : ℕ → List Piece
  pub hand : ℕ → List Piece
  pub read : (f : ℕ) → f < length feeds → IsFeed limit (slice_index_or feeds f None) (rows_of (order f))
  pub share : (w : ℕ) → w < length shares → slice_index_or shares w [] ≡ rows_of (hand w)
  pub held : (f w : ℕ) → f < length feeds → w < length shares
      → filter (λ piece. piece.worker == w) (order f) ≡ filter (λ piece. piece.feed == f) (hand w)
  pub some_worker : (f : ℕ) → f < length feeds → All (λ piece. piece.worker < length shares) (order f)
  pub some_feed : (w : ℕ) → w < length shares → All (λ piece. piece.feed < length feeds) (hand w)

-- whatever rows the workers' blocks have, they are the feeds' rows
abbrev pub AreWhole : ℕ → List (Option (List ℕ)) → List (List Ticket) → Type 0
AreWhole limit feeds hands = (parts : List (List (List (Name × ℤ)))) → AllZip (AllZip (AreRowsIn feeds)) hands parts
    → AreFed limit feeds (map (flat_map (λ part. part)) parts)

-- how many records these blocks have
abbrev pub records_of : List Taken → ℕ
records_of [] = 0
records_of (taken ∷ order) = taken.span.records + records_of order

-- so many, or the limit, where there are more
abbrev pub IsUpTo : ℕ → ℕ → ℕ → Type 0
IsUpTo limit n count = ((count ≡ n) × (n ≤ limit)) ⊎ ((count ≡ limit) × (limit ≤ n))

-- so many rows, or the limit, where there are more, stand in a text's blocks up to a place
abbrev pub HasBefore : ℕ → Option (List ℕ) → ℕ → ℕ → Type 0
HasBefore limit None low count = ⊤
HasBefore limit (Some text) low count =
    (spans : List Span)
    × (records : List (List (List (List ℕ))))
    × (rows : List (Name × ℤ))
    × Chains 0 spans low
    × AllZip (AreRecordsAt text) spans records
    × AreRows (flat_map (λ part. part) records) rows
    × IsUpTo limit (length rows) count

-- the feeds before this one have rows, and so many stand in it before this place
pub record StandsBefore (limit : ℕ) (feeds : List (Option (List ℕ))) (feed low count : ℕ) : Type 0 where
  pub is_one : feed < length feeds
  pub before : (f : ℕ) → f < feed → (rows : List (Name × ℤ)) × IsFeed limit (slice_index_or feeds f None) rows
  pub here : HasBefore limit (text_at feeds feed) low count

-- why a feed has no rows, whose stream had failed so often before a run, and so often after it: a record of it is no row; or its stream
-- failed, which it counted; or it has more records than the limit, or more bytes than a number of 64 bits counts
pub data TellsFault (feed limit : ℕ) (bytes : Option (List ℕ)) (before after : ℕ) (why : Refused) : Type 0 where
  bad : (n : ℕ)
      → why ≡ BadRow feed n
      → IfSome bytes (λ b. IsBadRow (without_mark b) n)
      → TellsFault feed limit bytes before after why
  failed : why ≡ Unreadable feed → after ≡ one_more before → TellsFault feed limit bytes before after why
  long : why ≡ Unreadable feed
      → IfSome bytes (λ b. IsTooLong limit (without_mark b))
      → TellsFault feed limit bytes before after why
  wide : why ≡ Unreadable feed
      → IsWide (option_map strip_bom bytes)
      → TellsFault feed limit bytes before after why

-- the first of these feeds that has no rows, and why, where their streams had failed so often before a run, and so often after it: those
-- before it have rows
pub record IsFirstUnread (feeds : List (Option (List ℕ))) (before after : List ℕ) (limit : ℕ) (why : Refused) : Type 0 where
  pub place : ℕ
  pub is_one : place < length feeds
  pub read : (f : ℕ) → f < place → (rows : List (Name × ℤ)) × IsFeed limit (slice_index_or feeds f None) rows
  pub tells : TellsFault (number_of place) limit (slice_index_or feeds place None) (slice_index before place)
      (slice_index after place) why
