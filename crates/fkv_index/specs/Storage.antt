-- How buckets are stored: rows of seven words and a number, and numbered blocks of further words.
use Rattle.std.specs.Prelude.{◌≡◌, ◌<◌, ◌++◌, ℕ, List, [], ◌∷◌, All, length, map, slice_index_or}
use Rattle.fkv_index.specs.declared.words.Word.{Word}
use Rattle.fkv_index.specs.Words.{swept}
use Rattle.fkv_index.specs.declared.buckets.Bucket.{Bucket}
use Rattle.fkv_index.specs.declared.buckets.Buckets.TheInside.{Inside}

-- the blocks by their numbers: there is nothing at the number 0
abbrev pub numbered : Inside → List (List Word)
numbered s = [] ∷ map (λ block. block.items) s.blocks.items

-- the words of a row, and those of its block
abbrev pub row_words : List (List Word) → Bucket → List Word
row_words blocks row = row.words ++ slice_index_or blocks row.overflow []

abbrev pub stored_words : Inside → List (List Word)
stored_words s = map (row_words (numbered s)) s.rows.items

-- each row has seven words and the number of a block of its own, or 0
pub record AreApart (rows : List Bucket) (blocks : List (List Word)) : Type 0 where
  pub seven : All (λ row. length row.words ≡ 7) rows
  pub within : All (λ row. row.overflow < length blocks) rows
  pub own : (i j : ℕ) (d : Bucket) → i < length rows → j < length rows
      → (slice_index_or rows i d).overflow ≡ (slice_index_or rows j d).overflow
      → 0 < (slice_index_or rows i d).overflow
      → i ≡ j

abbrev pub IsStored : Inside → Type 0
IsStored s = AreApart s.rows.items (numbered s)

-- a row after a sweep
abbrev pub swept_row : ℕ → Bucket → Bucket
swept_row begin row = record { words = map (swept begin) row.words; overflow = row.overflow }
