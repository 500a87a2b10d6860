-- Rows.
use Rattle.std.specs.Prelude.{◌≡◌, ◌∷◌, [], ℕ, ℤ, List, Some}
use Rattle.fkv_functions.specs.Names.{text_of}
use Rattle.fkv_functions.specs.declared.names.Name.{Name}
use Rattle.fkv_feed_rows.specs.Amounts.{amount_of}

-- a record is this row: it has two fields, the bytes of the key, of which a name has 1 to 31, and its amount
abbrev pub IsRow : List (List ℕ) → Name × ℤ → Type 0
IsRow fields row = (amount : List ℕ) × (fields ≡ text_of row.0 ∷ amount ∷ []) × (amount_of amount ≡ Some row.1)

-- each record is the row beside it
abbrev pub AreRows : List (List (List ℕ)) → List (Name × ℤ) → Type 0
AreRows [] [] = Unit {0}
AreRows [] (r ∷ rs) = ⊥
AreRows (f ∷ fs) [] = ⊥
AreRows (f ∷ fs) (r ∷ rs) = IsRow f r × AreRows fs rs
