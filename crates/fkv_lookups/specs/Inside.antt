-- The fields behind a `RecordsView`.
use Rattle.std.specs.Prelude.{ℕ, List}
use Rattle.std.specs.declared.cmp.Ordering.{Ordering}
use Rattle.fkv_texts.specs.Deltas.{resolved}
use Rattle.fkv_index.specs.declared.words.Word.{Word}
use Rattle.fkv_hybrid.specs.Views.{LogView}
use Rattle.fkv_lookups.specs.RecordsViews.{RecordsView}

-- a log of records of this size, read with this order of keys and this join, and the words of an index
abbrev pub view_of : {K V : Type 0} → (K → K → Ordering) → (V → V → V) → ℕ → ℕ → ℕ → LogView K V → List (List Word)
    → RecordsView K V
view_of cmp join partition_bits bucket_bits record_size log words = record {
  partition_bits = partition_bits;
  bucket_bits = bucket_bits;
  record_size = record_size;
  log = log;
  text = resolved cmp join log.text;
  words = words;
}
