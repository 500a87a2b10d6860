-- What a feed that is cut into blocks has left.
use Rattle.std.specs.Prelude.{◌≡◌, ◌<◌, ◌≤◌, ◌+◌, ◌-◌, ◌^◌, ◌⊎◌, ℕ, Bool, true, false, List, [], length, drop, min, slice_index, slice_index_or, Option, Some, None, option_map, ⊤}
use Rattle.std.specs.Io.KnownBytes.{IsAtEnd, prepend_known}
use Rattle.csv.specs.Reading.{strip_bom}
use Rattle.csv.specs.declared.parser.State.TheVariants as st
use Rattle.fkv_functions.specs.declared.refusals.Refused.{Refused}
use Rattle.fkv_functions.specs.declared.refusals.Refused.TheVariants.{NoMemory, Unreadable}
use Rattle.fkv_streams.specs.Counting.{one_more}
use Rattle.fkv_blocks.specs.Cutting.{IsBetween, IsCut, block_of, state_after}
use Rattle.fkv_blocks.specs.declared.blocks.Stop.{Stop}

-- the number of the feed at this place, counted from 1
abbrev pub number_of : ℕ → ℕ
number_of place = min (place + 1) (2 ^ 64 - 1)

-- the bytes of the feed at this place, without a byte order mark, where they are known
abbrev pub text_at : List (Option (List ℕ)) → ℕ → Option (List ℕ)
text_at feeds place = option_map strip_bom (slice_index_or feeds place None)

-- of these bytes, where they are known, those behind this place are left, and a record may begin there
abbrev pub HasLeft : Option (List ℕ) → ℕ → Option (List ℕ) → Type 0
HasLeft None at left = ⊤
HasLeft (Some text) at None = ⊥
HasLeft (Some text) at (Some left) = (left ≡ drop at text) × IsCut text at

-- they have so many
abbrev pub EndsAt : Option (List ℕ) → ℕ → Type 0
EndsAt None at = ⊤
EndsAt (Some text) at = length text ≡ at

-- they have more than a number of 64 bits counts
abbrev pub IsWide : Option (List ℕ) → Type 0
IsWide None = ⊤
IsWide (Some text) = 2 ^ 64 ≤ length text

-- a block of them, which begins where a record may, and ends so, or with them
abbrev pub IsBlockOf : Option (List ℕ) → List ℕ → ℕ → ℕ → Type 0
IsBlockOf None block low high = ⊤
IsBlockOf (Some text) block low high =
    (block ≡ block_of text low high)
    × (low ≤ high)
    × IsCut text low
    × (IsBetween (state_after st.StartRecord block) ⊎ (length text ≤ high))

-- a feed in blocks: its place among the feeds, where its next block begins, whether its first bytes were read, whether it ends there, why
-- no more of it is read, what was read and is in no block yet, what its stream has left, and how often that has failed
pub record BlocksView : Type 0 where
  pub place : ℕ
  pub at : ℕ
  pub begun : Bool
  pub over : Bool
  pub stopped : Option Refused
  pub held : List ℕ
  pub left : Option (List ℕ)
  pub failures : ℕ

-- once it is over, it ends where the next block would begin; before, what is held and what its stream has left stand behind that
-- place; and where no more is read, what is held is the front of what stands there
abbrev pub Stands : Option (List ℕ) → Bool → Option Refused → ℕ → List ℕ → Option (List ℕ) → Type 0
Stands text true stopped at held left = EndsAt text at
Stands text false None at held left = HasLeft text at (prepend_known held left)
Stands text false (Some why) at held left = (rest : Option (List ℕ)) × HasLeft text at (prepend_known held rest)

-- no more is read for want of memory, or since its stream failed, which it counted
abbrev pub HasFailed : ℕ → ℕ → ℕ → Option Refused → Type 0
HasFailed place before now None = now ≡ before
HasFailed place before now (Some NoMemory) = now ≡ before
HasFailed place before now (Some (Unreadable n)) = (n ≡ number_of place) × (now ≡ one_more before)
HasFailed place before now (Some other) = ⊥

-- nothing was read of a feed: its stream has all of it left
pub record IsUnread (feeds : List (Option (List ℕ))) (b : BlocksView) : Type 0 where
  pub left : b.left ≡ slice_index_or feeds b.place None
  pub at : b.at ≡ 0
  pub held : b.held ≡ []
  pub over : b.over ≡ false
  pub stopped : b.stopped ≡ None

-- what every feed in blocks keeps
pub record IsOneOf (feeds : List (Option (List ℕ))) (counts : List ℕ) (b : BlocksView) : Type 0 where
  pub unread : b.begun ≡ false → IsUnread feeds b
  pub stands : b.begun ≡ true → Stands (text_at feeds b.place) b.over b.stopped b.at b.held b.left
  pub counted : HasFailed b.place (slice_index counts b.place) b.failures b.stopped

-- how many of the bytes that are held make the next block: whole records, one byte at least, or all where nothing comes behind them
abbrev pub IsNext : BlocksView → ℕ → Bool → Type 0
IsNext b size true = (size ≡ length b.held) × (b.stopped ≡ None) × IsAtEnd b.left
IsNext b size false = (0 < size) × IsCut b.held size

-- why no block is handed out of a feed: for want of memory; or since its stream failed; or it is too wide
pub data IsUntaken (feeds : List (Option (List ℕ))) (stop : Stop) : Type 0 where
  memory : stop.refused ≡ NoMemory → IsUntaken feeds stop
  failed : stop.refused ≡ Unreadable (number_of stop.feed) → stop.has_failed ≡ true → IsUntaken feeds stop
  wide : stop.refused ≡ Unreadable (number_of stop.feed)
      → stop.has_failed ≡ false
      → IsWide (text_at feeds stop.feed)
      → IsUntaken feeds stop
