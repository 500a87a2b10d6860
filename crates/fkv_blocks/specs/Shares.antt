-- What a reader of blocks has of a feed.
use Rattle.std.specs.Prelude.{◌≡◌, ℕ, ℤ, List, Option, Some, None, ⊤, false, flat_map}
use Rattle.std.specs.List.{AllZip}
use Rattle.fkv_functions.specs.declared.names.Name.{Name}
use Rattle.fkv_functions.specs.declared.refusals.Refused.{Refused}
use Rattle.fkv_functions.specs.declared.refusals.Refused.TheVariants.{NoMemory, BadRow, Unreadable}
use Rattle.fkv_feed_rows.specs.Rows.{AreRows}
use Rattle.fkv_feed_rows.specs.Feeds.{IsBadRow, IsTooLong}
use Rattle.fkv_blocks.specs.Spans.{AreRecordsAt}
use Rattle.fkv_blocks.specs.declared.spans.Span.{Span}
use Rattle.fkv_blocks.specs.declared.spans.Ticket.{Ticket}
use Rattle.fkv_blocks.specs.declared.blocks.Stop.{Stop}
use Rattle.fkv_blocks.specs.Left.{IsBlockOf, IsUntaken, number_of, text_at}

-- these are the rows of a span of these bytes, where they are known
abbrev pub AreRowsAt : Option (List ℕ) → Span → List (Name × ℤ) → Type 0
AreRowsAt None span rows = ⊤
AreRowsAt (Some text) span rows = (records : List (List (List ℕ))) × AreRecordsAt text span records × AreRows records rows

-- these are the rows of a block of these feeds
abbrev pub AreRowsIn : List (Option (List ℕ)) → Ticket → List (Name × ℤ) → Type 0
AreRowsIn feeds ticket rows = AreRowsAt (text_at feeds ticket.feed) ticket.span rows

-- why a block was not read to its end: a record of it is no row, by its number in the block
abbrev pub TellsBlock : ℕ → ℕ → List ℕ → Refused → Type 0
TellsBlock feed limit block NoMemory = ⊤
TellsBlock feed limit block (BadRow f n) = (f ≡ feed) × IsBadRow block n
TellsBlock feed limit block (Unreadable f) = (f ≡ feed) × IsTooLong limit block
TellsBlock feed limit block other = ⊥

-- a block of the feed at this place, which begins there, was not read to its end
pub record IsBadBlock (feeds : List (Option (List ℕ))) (limit place low : ℕ) (why : Refused) : Type 0 where
  pub high : ℕ
  pub block : List ℕ
  pub is : IsBlockOf (text_at feeds place) block low high
  pub tells : TellsBlock (number_of place) limit block why

-- why no more blocks of a feed were read: one of them was not read to its end, or the next one was not handed out
pub data IsStop (feeds : List (Option (List ℕ))) (limit : ℕ) (stop : Stop) : Type 0 where
  bad : stop.has_failed ≡ false → IsBadBlock feeds limit stop.feed stop.low stop.refused → IsStop feeds limit stop
  untaken : IsUntaken feeds stop → IsStop feeds limit stop

-- the blocks of these tickets were read: each has rows
abbrev pub WereRead : List (Option (List ℕ)) → List Ticket → Type 0
WereRead feeds tickets = (parts : List (List (Name × ℤ))) × AllZip (AreRowsIn feeds) tickets parts

-- and this stands for them, one block behind another
abbrev pub HaveRows : List (Option (List ℕ)) → (List (Name × ℤ) → Type 0) → List Ticket → Type 0
HaveRows feeds stands tickets =
    (parts : List (List (Name × ℤ))) × AllZip (AreRowsIn feeds) tickets parts × stands (flat_map (λ part. part) parts)
