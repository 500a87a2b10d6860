-- Where words stand. An index is seen as a list of buckets, each the list of its words in the order of
-- their places.
use Rattle.std.specs.Prelude.{◌≡◌, ◌<◌, ◌++◌, ℕ, List, [], Bool, false, IsTrue, length, slice_set, slice_index_or}
use Rattle.std.specs.Prelude.{replicate}
use Rattle.fkv_index.specs.declared.words.Word.{Word}
use Rattle.fkv_index.specs.declared.words.Place.{Place}
use Rattle.fkv_index.specs.Words.{empty}

-- the words of a bucket, those of its overflow buckets too
abbrev pub words_of : List (List Word) → ℕ → List Word
words_of index bucket = slice_index_or index bucket []

-- the word at a place
abbrev pub word_at : List (List Word) → Place → Word
word_at index p = slice_index_or (words_of index p.bucket) p.at empty

abbrev pub IsPlace : List (List Word) → Place → Type 0
IsPlace index p = p.at < length (words_of index p.bucket)

-- one word is written
abbrev pub with_word : List (List Word) → Place → Word → List (List Word)
with_word index p word = slice_set index p.bucket (slice_set (words_of index p.bucket) p.at word)

-- a bucket has an overflow bucket of seven empty places more
abbrev pub with_overflow : List (List Word) → ℕ → List (List Word)
with_overflow index bucket = slice_set index bucket (words_of index bucket ++ replicate 7 empty)

-- the first of these words that passes a test
pub record IsFirst (test : Word → Bool) (words : List Word) (at : ℕ) : Type 0 where
  pub within : at < length words
  pub passes : IsTrue (test (slice_index_or words at empty))
  pub before : (k : ℕ) → k < at → test (slice_index_or words k empty) ≡ false

-- none of these words passes a test
abbrev pub NonePasses : (Word → Bool) → List Word → Type 0
NonePasses test words = (k : ℕ) → k < length words → test (slice_index_or words k empty) ≡ false
