-- A map with what a text says.
use Rattle.std.specs.Prelude.{◌≡◌, ◌++◌, List, Option, Some, None, IsSome}
use Rattle.std.specs.declared.cmp.Ordering.{Ordering}
use Rattle.fkv_functions.specs.Plain.{PlainMap, Same}
use Rattle.fkv_texts.specs.declared.entries.Entry.{Entry}
use Rattle.fkv_texts.specs.Text.{last_of}

-- what an entry says: its value, none for a tombstone; where there is no entry, what stood
abbrev pub said_over : {K V : Type 0} → Option (Entry K V) → Option V → Option V
said_over None v = v
said_over (Some e) v = e.value

-- a map with the last entry of each key of a text
abbrev pub with_text : {K V : Type 0} → (K → K → Ordering) → PlainMap K V → List (Entry K V) → PlainMap K V
with_text cmp m text k = said_over (last_of cmp text k) (m k)

-- no key of a text has a value in a map
abbrev pub IsApart : {K V : Type 0} → (K → K → Ordering) → PlainMap K V → List (Entry K V) → Type 0
IsApart {K} cmp m text = (k : K) → IsSome (last_of cmp text k) → m k ≡ None

-- a map that has what the first entries of a text say, and nothing of the others
pub record HasFront {K V : Type 0} (cmp : K → K → Ordering) (old new : PlainMap K V) (text : List (Entry K V)) : Type 0 where
  pub done : List (Entry K V)
  pub rest : List (Entry K V)
  pub whole : text ≡ done ++ rest
  pub said : Same new (with_text cmp old done)
