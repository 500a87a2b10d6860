-- The text of a table.
use Rattle.std.specs.Prelude.{◌≡◌, ◌⊎◌, ℕ, List, ◌∷◌, map, Option}
use Rattle.std.specs.List.{flat_map, range_with_len}
use Rattle.csv.specs.Writing.{default_writer, row_text}
use Rattle.fkv_functions.specs.Names.{text_of}
use Rattle.fkv_functions.specs.declared.names.Name.{Name}
use Rattle.fkv_functions.specs.declared.refusals.Refused.{Refused}
use Rattle.fkv_functions.specs.declared.refusals.Refused.TheVariants.{NoMemory, Worn, Unwritable}
use Rattle.fkv_streams.specs.Counting.{one_more}

-- the fields of a value that has so many, by their places
abbrev pub fields_of : {V : Type 0} → ℕ → (V → ℕ → List ℕ) → V → List (List ℕ)
fields_of count at v = map (at v) (range_with_len 0 count)

-- A row: the key, and behind it the fields of the value, with commas between them and a line feed at the end. A field is put in
-- double quotes where it has a comma, a double quote, a carriage return or a line feed in it, and double quotes in it are doubled.
abbrev pub pair_text : {V : Type 0} → (V → List (List ℕ)) → Name × V → List ℕ
pair_text fields p = row_text default_writer (text_of p.0 ∷ fields p.1)

-- the rows of a table, in order
abbrev pub table_text : {V : Type 0} → (V → List (List ℕ)) → List (Name × V) → List ℕ
table_text fields pairs = flat_map (pair_text fields) pairs

-- Why pairs were not all written, by what was written before and after, and by the counts of the writer's failures: no memory, before
-- anything was written; or the writer failed, and counted it; or more rows came than a number of 64 bits counts; or one of the pairs
-- was refused, as `refuses` says.
abbrev pub IsUnwritten : {P : Type 0} → (P → P → Refused → Type 0) → Option (List ℕ) → Option (List ℕ) → ℕ → ℕ → Refused → Type 0
IsUnwritten {P} refuses old new failed fails why =
    ((why ≡ NoMemory) × (new ≡ old) × (fails ≡ failed))
    ⊎ ((why ≡ Unwritable) × (fails ≡ one_more failed))
    ⊎ ((why ≡ Worn) × (fails ≡ failed))
    ⊎ ((was : P) × (is : P) × refuses was is why × (fails ≡ failed))
