-- The blocks of feeds that several workers read, in the order of each feed.
use Rattle.std.specs.Prelude.{◌≡◌, ◌<◌, ◌==◌, ℕ, List, [], ◌∷◌, length, map, slice_index, slice_index_or, slice_set}
use Rattle.std.specs.List.{All, filter}
use Rattle.fkv_blocks.specs.Spans.{Chains}
use Rattle.fkv_blocks.specs.declared.orders.Taken.{Taken}
use Rattle.fkv_blocks.specs.declared.spans.Span.{Span}
use Rattle.fkv_blocks.specs.declared.spans.Ticket.{Ticket}

-- what these tickets have of a feed
abbrev pub spans_in : ℕ → List Ticket → List Span
spans_in feed hand = map (λ t. t.span) (filter (λ t. t.feed == feed) hand)

-- what a worker has of an order
abbrev pub spans_by : ℕ → List Taken → List Span
spans_by worker order = map (λ t. t.span) (filter (λ t. t.worker == worker) order)

-- an order of the workers' lists: the spans lie one behind another from one place to another, each has one byte at least, and what
-- each worker has of it is its list
pub record IsOrder (low high : ℕ) (lists : List (List Span)) (order : List Taken) : Type 0 where
  pub chain : Chains low (map (λ t. t.span) order) high
  pub wide : All (λ t. t.span.low < t.span.high) order
  pub held : (worker : ℕ) → spans_by worker order ≡ slice_index_or lists worker []

-- an order for each feed, from its start to its end, of what the workers' tickets have of it; and no ticket is of another feed
pub record AreOrdered (ends : List ℕ) (hands : List (List Ticket)) (orders : List (List Taken)) : Type 0 where
  pub count : length orders ≡ length ends
  pub feeds : All (All (λ t. t.feed < length ends)) hands
  pub each : (feed : ℕ) → feed < length ends
      → IsOrder 0 (slice_index ends feed) (map (spans_in feed) hands) (slice_index_or orders feed [])

-- a list goes on at this place, with one byte at least
abbrev pub BeginsAt : ℕ → List Span → Type 0
BeginsAt at [] = ⊥
BeginsAt at (span ∷ spans) = (span.low ≡ at) × (at < span.high)

-- what goes on at this place was taken off its worker's list
pub record IsNext (at : ℕ) (lists : List (List Span)) (taken : Taken) (left : List (List Span)) : Type 0 where
  pub rest : List Span
  pub here : slice_index_or lists taken.worker [] ≡ taken.span ∷ rest
  pub left_is : left ≡ slice_set lists taken.worker rest
  pub low : taken.span.low ≡ at
  pub high : at < taken.span.high
