-- What a handle leads to: nothing, a store, which is a plain map, or pairs.
use Rattle.std.specs.Prelude.{◌≡◌, ◌≢◌, ◌<◌, ◌-◌, ◌^◌, ◌⊎◌, ◌==◌, if◌then◌else◌, ⊤, ℕ, ℤ, List, [], ◌∷◌, length, map, All, min, sum_by, Option, Some, None, Result, Ok, Err}
use Rattle.std.specs.BTreeMap.{get}
use Rattle.std.specs.BTreeMap.Range.{IsLtBy}
use Rattle.fkv_functions.specs.declared.names.Name.{Name}
use Rattle.fkv_functions.specs.declared.refusals.Refused.{Refused}
use Rattle.fkv_functions.specs.declared.refusals.Refused.TheVariants.{NoMemory}
use Rattle.fkv_functions.specs.Names.{text_of, name_cmp}
use Rattle.fkv_functions.specs.Meanings.{Meanings}
use Rattle.fkv_functions.specs.Sets.{sums, maxima, capped_sums}
use Rattle.fkv_functions.specs.Plain.{PlainMap, Same}
use Rattle.fkv_operations.specs.After.{after, answer}
use Rattle.fkv_operations.specs.declared.operations.KeyedOp.{KeyedOp}
use Rattle.fkv_operations.specs.declared.operations.Answer.{Answer}
use Rattle.fkv_partition.specs.declared.limits.Config.{Config}
use Rattle.fkv_local.specs.Storing.{StoreView, plain, log_bytes, evicted_bytes}
use Rattle.fkv_c.specs.Statuses.{refusal_number}
use Rattle.fkv_c.specs.Counting.{counted, whole, whole_pairs}
use Rattle.fkv_c.specs.Crossing.{answer_of, pair_of}
use Rattle.fkv_c.specs.Cells.{blind, cell_answer_of, cell_pair_of}
use Rattle.fkv_c.specs.Stores.{name_code, IsKindNumber, IsGood, IsUnmade, FitsIn, Refuses, CellsRefuse}
use Rattle.fkv_c.specs.declared.cells.Cell.{Cell}
use Rattle.fkv_c.specs.declared.cells.CellTold.{CellTold}
use Rattle.fkv_c.specs.declared.cells.CellPair.{CellPair}
use Rattle.fkv_c.specs.declared.numbers.Told.{Told}
use Rattle.fkv_c.specs.declared.numbers.Pair.{Pair}
use Rattle.fkv_c.specs.declared.handles.Held.{Held}
use Rattle.fkv_c.specs.declared.handles.Held.TheVariants.{Sums, Maxima, CappedSums, Counts, Cells, SumPairs, MaxPairs, CountPairs, CellPairs}
use Rattle.fkv_c.specs.declared.faults.Fault.{Fault}
use Rattle.fkv_c.specs.declared.faults.Fault.TheVariants as fault

pub data Kind : Type 0 where
  Shut : Kind
  Store : Kind
  CellStore : Kind
  Cursor : Kind
  CellCursor : Kind

-- what a handle is: of numbers, or of cells
abbrev pub kind_of : Option Held → Kind
kind_of None = Shut
kind_of (Some (Sums s)) = Store
kind_of (Some (Maxima s)) = Store
kind_of (Some (CappedSums s)) = Store
kind_of (Some (Counts s)) = Store
kind_of (Some (Cells s)) = CellStore
kind_of (Some (SumPairs p)) = Cursor
kind_of (Some (MaxPairs p)) = Cursor
kind_of (Some (CountPairs p)) = Cursor
kind_of (Some (CellPairs p)) = CellCursor

-- the kind of a store of the functions of this number
abbrev pub store_kind : ℕ → Kind
store_kind n = if n == 5 then CellStore else Store

-- whether it is a store, and what cursor is made of it
abbrev pub IsStore : Kind → Type 0
IsStore Store = ⊤
IsStore CellStore = ⊤
IsStore other = ⊥

abbrev pub cursor_of : Kind → Kind
cursor_of CellStore = CellCursor
cursor_of other = Cursor

-- the number of a store's functions, and what they mean
abbrev pub set_of : Option Held → ℕ
set_of None = 0
set_of (Some (Sums s)) = 1
set_of (Some (Maxima s)) = 2
set_of (Some (CappedSums s)) = 3
set_of (Some (Counts s)) = 4
set_of (Some (Cells s)) = 5
set_of (Some (SumPairs p)) = 0
set_of (Some (MaxPairs p)) = 0
set_of (Some (CountPairs p)) = 0
set_of (Some (CellPairs p)) = 0

abbrev pub meaning_of : Option Held → Meanings Name ℤ ℤ ℤ
meaning_of None = sums
meaning_of (Some (Sums s)) = sums
meaning_of (Some (Maxima s)) = maxima
meaning_of (Some (CappedSums s)) = capped_sums
meaning_of (Some (Counts s)) = counted
meaning_of (Some (Cells s)) = sums
meaning_of (Some (SumPairs p)) = sums
meaning_of (Some (MaxPairs p)) = sums
meaning_of (Some (CountPairs p)) = sums
meaning_of (Some (CellPairs p)) = sums

-- THE PLAIN MAP THAT A HANDLE LEADS TO, of numbers: the store's, the pairs that a cursor still has, or the empty one
abbrev pub map_of : Option Held → PlainMap Name ℤ
map_of None = λ k. None
map_of (Some (Sums s)) = plain name_cmp name_code s
map_of (Some (Maxima s)) = plain name_cmp name_code s
map_of (Some (CappedSums s)) = plain name_cmp name_code s
map_of (Some (Counts s)) = whole (plain name_cmp name_code s)
map_of (Some (Cells s)) = λ k. None
map_of (Some (SumPairs p)) = get name_cmp p
map_of (Some (MaxPairs p)) = get name_cmp p
map_of (Some (CountPairs p)) = whole (get name_cmp p)
map_of (Some (CellPairs p)) = λ k. None

-- and of cells
abbrev pub cells_of : Option Held → PlainMap Name Cell
cells_of None = λ k. None
cells_of (Some (Sums s)) = λ k. None
cells_of (Some (Maxima s)) = λ k. None
cells_of (Some (CappedSums s)) = λ k. None
cells_of (Some (Counts s)) = λ k. None
cells_of (Some (Cells s)) = plain name_cmp name_code s
cells_of (Some (SumPairs p)) = λ k. None
cells_of (Some (MaxPairs p)) = λ k. None
cells_of (Some (CountPairs p)) = λ k. None
cells_of (Some (CellPairs p)) = get name_cmp p

-- both maps of a handle are those of another
pub record LeadsAsMuch (old new : Option Held) : Type 0 where
  pub numbers : Same (map_of new) (map_of old)
  pub cells : Same (cells_of new) (cells_of old)

-- AN OPERATION ON THE STORE OF A HANDLE came to this, and made `new` of the map `old`: where it is done, `new` is `old` after the
-- operation, and the answer is the plain map's; where it is not, `new` is `old`
abbrev pub IsMade : {V O : Type 0} → Meanings Name V ℤ O → PlainMap Name V → PlainMap Name V → KeyedOp Name V ℤ
    → Result (Answer O) Fault → Type 0
IsMade f old new op (Ok a) = Same new (after name_cmp f old op) × (a ≡ answer f old op)
IsMade f old new op (Err why) = Same new old

-- a store refuses, by a refusal that may come
pub record IsRefusedBy (refuses : Refused → Type 0) (why : Fault) : Type 0 where
  pub refused : Refused
  pub is : why ≡ fault.Refused refused
  pub by : refuses refused

-- why a call that wants a store does nothing: the handle is no store's, or the store refuses
abbrev pub IsStoreFault : Kind → (Refused → Type 0) → Fault → Type 0
IsStoreFault Shut refuses why = why ≡ fault.Closed
IsStoreFault Store refuses why = IsRefusedBy refuses why
IsStoreFault CellStore refuses why = IsRefusedBy refuses why
IsStoreFault Cursor refuses why = why ≡ fault.NotAStore
IsStoreFault CellCursor refuses why = why ≡ fault.NotAStore

-- why a store of numbers does no operation: exactly where the value that is to be set does not fit it is that
pub data IsWorkFault (fits : Type 0) (refuses : Refused → Type 0) (why : Fault) : Type 0 where
  unfit : why ≡ fault.OutOfRange → (fits → ⊥) → IsWorkFault fits refuses why
  store_refuses : fits → IsRefusedBy refuses why → IsWorkFault fits refuses why

-- the same of a call that wants a store of numbers, and of one that wants cells
abbrev pub IsNumberFault : Kind → Type 0 → (Refused → Type 0) → Fault → Type 0
IsNumberFault Shut fits refuses why = why ≡ fault.Closed
IsNumberFault Store fits refuses why = IsWorkFault fits refuses why
IsNumberFault CellStore fits refuses why = why ≡ fault.NotNumbers
IsNumberFault Cursor fits refuses why = why ≡ fault.NotAStore
IsNumberFault CellCursor fits refuses why = why ≡ fault.NotAStore

abbrev pub IsCellFault : Kind → (Refused → Type 0) → Fault → Type 0
IsCellFault Shut refuses why = why ≡ fault.Closed
IsCellFault Store refuses why = why ≡ fault.NotCells
IsCellFault CellStore refuses why = IsRefusedBy refuses why
IsCellFault Cursor refuses why = why ≡ fault.NotAStore
IsCellFault CellCursor refuses why = why ≡ fault.NotAStore

-- why a handle is not opened
abbrev pub IsOpenFault : Option Held → ℕ → Config → Fault → Type 0
IsOpenFault (Some h) kind config why = why ≡ fault.InUse
IsOpenFault None kind config why = IsUnmade kind config why

-- why no cursor is opened
abbrev pub IsListFault : Option Held → Kind → (Refused → Type 0) → Fault → Type 0
IsListFault (Some h) kind refuses why = why ≡ fault.InUse
IsListFault None kind refuses why = IsStoreFault kind refuses why

-- the pairs that a cursor still has, keys rising: of numbers
abbrev pub pairs_of : Option Held → List (Name × ℤ)
pairs_of None = []
pairs_of (Some (Sums s)) = []
pairs_of (Some (Maxima s)) = []
pairs_of (Some (CappedSums s)) = []
pairs_of (Some (Counts s)) = []
pairs_of (Some (Cells s)) = []
pairs_of (Some (SumPairs p)) = p.entries
pairs_of (Some (MaxPairs p)) = p.entries
pairs_of (Some (CountPairs p)) = whole_pairs p.entries
pairs_of (Some (CellPairs p)) = []

-- and of cells
abbrev pub cell_pairs_of : Option Held → List (Name × Cell)
cell_pairs_of (Some (CellPairs p)) = p.entries
cell_pairs_of other = []

-- the first of these pairs is told, and those behind it are left; or there is none
abbrev pub TakesFirst : {V : Type 0} → List (Name × V) → List (Name × V) → Option (Name × V) → Type 0
TakesFirst [] new told = (new ≡ []) × (told ≡ None)
TakesFirst (p ∷ ps) new told = (new ≡ ps) × (told ≡ Some p)

-- the first of these pairs has the least name
abbrev pub FirstIsLeast : {V : Type 0} → List (Name × V) → Type 0
FirstIsLeast [] = Unit {0}
FirstIsLeast (p ∷ ps) = All (IsLtBy name_cmp p.0) (map (λ q. q.0) ps)

-- a store holds so many bytes in its logs, so many of them below Head, and has taken so many moments
abbrev pub IsSize : {K V I W P : Type 0} → StoreView K V I W P → ℕ → ℕ → ℕ → Type 0
IsSize s bytes evicted moments = (bytes ≡ min (sum_by log_bytes s.parts) (2 ^ 64 - 1))
    × (evicted ≡ min (sum_by evicted_bytes s.parts) (2 ^ 64 - 1)) × (moments ≡ s.moments)

abbrev pub AreCounts : Option Held → ℕ → ℕ → ℕ → Type 0
AreCounts None bytes evicted moments = ⊥
AreCounts (Some (Sums s)) bytes evicted moments = IsSize s bytes evicted moments
AreCounts (Some (Maxima s)) bytes evicted moments = IsSize s bytes evicted moments
AreCounts (Some (CappedSums s)) bytes evicted moments = IsSize s bytes evicted moments
AreCounts (Some (Counts s)) bytes evicted moments = IsSize s bytes evicted moments
AreCounts (Some (Cells s)) bytes evicted moments = IsSize s bytes evicted moments
AreCounts (Some (SumPairs p)) bytes evicted moments = ⊥
AreCounts (Some (MaxPairs p)) bytes evicted moments = ⊥
AreCounts (Some (CountPairs p)) bytes evicted moments = ⊥
AreCounts (Some (CellPairs p)) bytes evicted moments = ⊥

-- the status of a refusal that may come
pub record IsRefusalStatus (refuses : Refused → Type 0) (status : ℕ) : Type 0 where
  pub refused : Refused
  pub is : status ≡ refusal_number refused
  pub by : refuses refused

-- THE STATUSES OF A CALL that wants a store
abbrev pub IsStoreStatus : Kind → (Refused → Type 0) → ℕ → Type 0
IsStoreStatus Shut refuses status = status ≡ 32
IsStoreStatus Store refuses status = (status ≡ 0) ⊎ IsRefusalStatus refuses status
IsStoreStatus CellStore refuses status = (status ≡ 0) ⊎ IsRefusalStatus refuses status
IsStoreStatus Cursor refuses status = status ≡ 34
IsStoreStatus CellCursor refuses status = status ≡ 34

-- of an operation of a store of numbers: 40 exactly where the value that is to be set does not fit it
pub data IsWorkStatus (fits : Type 0) (refuses : Refused → Type 0) (status : ℕ) : Type 0 where
  is_done : status ≡ 0 → fits → IsWorkStatus fits refuses status
  is_unfit : status ≡ 40 → (fits → ⊥) → IsWorkStatus fits refuses status
  is_refused : fits → IsRefusalStatus refuses status → IsWorkStatus fits refuses status

-- of an operation on numbers, and of one on cells
abbrev pub IsStatus : Kind → Type 0 → (Refused → Type 0) → ℕ → Type 0
IsStatus Shut fits refuses status = status ≡ 32
IsStatus Store fits refuses status = IsWorkStatus fits refuses status
IsStatus CellStore fits refuses status = status ≡ 41
IsStatus Cursor fits refuses status = status ≡ 34
IsStatus CellCursor fits refuses status = status ≡ 34

abbrev pub IsCellStatus : Kind → (Refused → Type 0) → ℕ → Type 0
IsCellStatus Shut refuses status = status ≡ 32
IsCellStatus Store refuses status = status ≡ 42
IsCellStatus CellStore refuses status = (status ≡ 0) ⊎ IsRefusalStatus refuses status
IsCellStatus Cursor refuses status = status ≡ 34
IsCellStatus CellCursor refuses status = status ≡ 34

-- of an opening: of a closed handle, by the number of the functions and the configuration
pub data IsMadeStatus (kind : ℕ) (config : Config) (status : ℕ) : Type 0 where
  is_made : status ≡ 0 → IsKindNumber kind → IsGood kind config → IsMadeStatus kind config status
  is_no_memory : status ≡ 1 → IsKindNumber kind → IsGood kind config → IsMadeStatus kind config status
  is_bad_config : status ≡ 2 → IsKindNumber kind → (IsGood kind config → ⊥) → IsMadeStatus kind config status
  is_no_kind : status ≡ 37 → (IsKindNumber kind → ⊥) → IsMadeStatus kind config status

abbrev pub IsOpenStatus : Option Held → ℕ → Config → ℕ → Type 0
IsOpenStatus None kind config status = IsMadeStatus kind config status
IsOpenStatus (Some h) kind config status = status ≡ 33

-- of a list, by what the handle of the cursor led to
abbrev pub IsListStatus : Option Held → Kind → (Refused → Type 0) → ℕ → Type 0
IsListStatus (Some h) kind refuses status = status ≡ 33
IsListStatus None kind refuses status = IsStoreStatus kind refuses status

-- of counts, of the next of a cursor's pairs of numbers and of cells, and of a close
abbrev pub counts_status : Kind → ℕ
counts_status Shut = 32
counts_status Store = 0
counts_status CellStore = 0
counts_status Cursor = 34
counts_status CellCursor = 34

abbrev pub next_status : Kind → ℕ
next_status Shut = 32
next_status Store = 35
next_status CellStore = 35
next_status Cursor = 0
next_status CellCursor = 41

abbrev pub next_cell_status : Kind → ℕ
next_cell_status Shut = 32
next_cell_status Store = 35
next_cell_status CellStore = 35
next_cell_status Cursor = 42
next_cell_status CellCursor = 0

abbrev pub close_status : Option Held → ℕ
close_status None = 32
close_status (Some h) = 0

-- AN OPERATION ON A HANDLE, BY ITS STATUS: where that is 0, the map is what the plain one's operation makes of it, and its answer
-- is written; else the map and what stood for the answer are left
pub record IsPerformed (old new : Option Held) (op : KeyedOp Name ℤ ℤ) (before after_it : Told) (status : ℕ) : Type 0 where
  pub kind : kind_of new ≡ kind_of old
  pub set : set_of new ≡ set_of old
  pub told : IsStatus (kind_of old) (FitsIn old op) (Refuses old new op) status
  pub done : status ≡ 0 → Same (map_of new) (after name_cmp (meaning_of old) (map_of old) op) × (after_it ≡ answer_of (answer (meaning_of old) (map_of old) op))
  pub left : status ≢ 0 → Same (map_of new) (map_of old) × (after_it ≡ before)
  pub cells : Same (cells_of new) (cells_of old)

-- the same of the operation on the key of these bytes
abbrev pub IsPerformedAt : List ℕ → Option Held → Option Held → (Name → KeyedOp Name ℤ ℤ) → Told → Told → ℕ → Type 0
IsPerformedAt key old new op before after_it status = (k : Name) → text_of k ≡ key → IsPerformed old new (op k) before after_it status

-- bytes that are no key: none, or more than 31
abbrev pub IsNoKey : List ℕ → Type 0
IsNoKey key = (length key ≡ 0) ⊎ (31 < length key)

-- the same, as C is told
abbrev pub IsNextTold : List (Name × ℤ) → List (Name × ℤ) → Pair → Type 0
IsNextTold [] new told = (new ≡ []) × (told ≡ pair_of None)
IsNextTold (p ∷ ps) new told = (new ≡ ps) × (told ≡ pair_of (Some p))

-- AN OPERATION ON THE CELLS OF A HANDLE, BY ITS STATUS: where that is 0, they are what the plain map's operation makes of them; else
-- they are left
pub record IsCellPerformed (old new : Option Held) (op : KeyedOp Name Cell ℤ) (status : ℕ) : Type 0 where
  pub kind : kind_of new ≡ kind_of old
  pub set : set_of new ≡ set_of old
  pub told : IsCellStatus (kind_of old) (CellsRefuse old new op) status
  pub done : status ≡ 0 → Same (cells_of new) (after name_cmp blind (cells_of old) op)
  pub left : status ≢ 0 → Same (cells_of new) (cells_of old)
  pub numbers : Same (map_of new) (map_of old)

-- the same of the operation on the key of these bytes
abbrev pub IsCellPerformedAt : List ℕ → Option Held → Option Held → (Name → KeyedOp Name Cell ℤ) → ℕ → Type 0
IsCellPerformedAt key old new op status = (k : Name) → text_of k ≡ key → IsCellPerformed old new (op k) status

abbrev pub IsCellNextTold : List (Name × Cell) → List (Name × Cell) → CellPair → Type 0
IsCellNextTold [] new told = (new ≡ []) × (told ≡ cell_pair_of None)
IsCellNextTold (p ∷ ps) new told = (new ≡ ps) × (told ≡ cell_pair_of (Some p))
