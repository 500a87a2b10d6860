-- What calls do to an index.
use Rattle.std.specs.Prelude.{◌≡◌, ◌<◌, ◌≤◌, false, IsTrue, ◌↔◌, ℕ, List, Some, length, map, if◌then◌else◌}
use Rattle.std.specs.List.{list_any}
use Rattle.fkv_index.specs.declared.words.Word.{Word}
use Rattle.fkv_index.specs.declared.words.Place.{Place}
use Rattle.fkv_index.specs.Words.{address_of, is_empty, is_tentative, is_final, swept}
use Rattle.fkv_index.specs.Places.{words_of, word_at, IsPlace, with_word, with_overflow}
use Rattle.fkv_index.specs.Entries.{entry_at, kept}

-- the word at one place is written, and every other word stays
pub record Writes (p : Place) (w : Word) (old new : List (List Word)) : Type 0 where
  pub exact : new ≡ with_word old p w
  pub there : word_at new p ≡ w
  pub elsewhere : (q : Place) → (q ≡ p → ⊥) → word_at new q ≡ word_at old q
  pub places : (q : Place) → IsPlace new q ↔ IsPlace old q
  pub buckets : length new ≡ length old

-- the first empty place of a bucket is given, in a new overflow bucket where the bucket was full, and
-- every word stays
pub record Probes (bucket : ℕ) (p : Place) (old new : List (List Word)) : Type 0 where
  pub exact : new ≡ (if list_any is_empty (words_of old bucket) then old else with_overflow old bucket)
  pub there : p.bucket ≡ bucket
  pub place : IsPlace new p
  pub empty : IsTrue (is_empty (word_at new p))
  pub first : (q : Place) → q.bucket ≡ bucket → q.at < p.at → is_empty (word_at new q) ≡ false
  pub words : (q : Place) → word_at new q ≡ word_at old q
  pub places : (q : Place) → IsPlace old q → IsPlace new q
  pub buckets : length new ≡ length old

-- each final entry below `begin` is emptied, and every other word stays
pub record Sweeps (begin : ℕ) (old new : List (List Word)) : Type 0 where
  pub exact : new ≡ map (map (swept begin)) old
  pub emptied : (q : Place)
      → IsTrue (is_final (word_at old q))
      → address_of (word_at old q) < begin
      → IsTrue (is_empty (word_at new q))
  pub kept : (q : Place)
      → IsTrue (is_final (word_at old q))
      → begin ≤ address_of (word_at old q)
      → word_at new q ≡ word_at old q
  pub others : (q : Place) → is_final (word_at old q) ≡ false → word_at new q ≡ word_at old q
  pub places : (q : Place) → IsPlace new q ↔ IsPlace old q
  pub buckets : length new ≡ length old

-- the same places are tentative
abbrev pub SameTentative : List (List Word) → List (List Word) → Type 0
SameTentative old new = (q : Place) → is_tentative (word_at new q) ≡ is_tentative (word_at old q)

-- the index map is the same
abbrev pub SameEntries : List (List Word) → List (List Word) → Type 0
SameEntries old new = (bucket tag : ℕ) → entry_at new bucket tag ≡ entry_at old bucket tag

-- the index map has this address at a bucket and a tag, and is the same elsewhere
pub record SetsEntry (bucket tag address : ℕ) (old new : List (List Word)) : Type 0 where
  pub there : entry_at new bucket tag ≡ Some address
  pub elsewhere : (b t : ℕ) → ((b ≡ bucket) × (t ≡ tag) → ⊥) → entry_at new b t ≡ entry_at old b t

-- the index map has lost exactly what was below `begin`
abbrev pub SweepsEntries : ℕ → List (List Word) → List (List Word) → Type 0
SweepsEntries begin old new = (bucket tag : ℕ) → entry_at new bucket tag ≡ kept begin (entry_at old bucket tag)
