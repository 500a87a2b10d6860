-- Blocks of a text by their places.
use Rattle.std.specs.Prelude.{◌≡◌, ◌≤◌, ℕ, List, [], ◌∷◌, length}
use Rattle.fkv_blocks.specs.Cutting.{IsCut, AreRecordsOf, block_of}
use Rattle.fkv_blocks.specs.declared.spans.Span.{Span}

-- these lie one behind another, from one place to another
abbrev pub Chains : ℕ → List Span → ℕ → Type 0
Chains low [] high = low ≡ high
Chains low (span ∷ spans) high = (span.low ≡ low) × (low ≤ span.high) × Chains span.high spans high

-- these are the records of a span of a text, which begins where a record may
pub record AreRecordsAt (text : List ℕ) (span : Span) (records : List (List (List ℕ))) : Type 0 where
  pub cut : IsCut text span.low
  pub all : AreRecordsOf (block_of text span.low span.high) records
  pub count : span.records ≡ length records
