-- Histories of a partition: its finished operations in the order of their completions, each at its place between the updates.
use Rattle.std.specs.Prelude.{◌≡◌, ◌≤◌, ℕ, Bool, not, List, length, map, take, slice_get, Some, None}
use Rattle.std.specs.List.{filter, All}
use Rattle.std.specs.declared.cmp.Ordering.{Ordering}
use Rattle.fkv_functions.specs.Meanings.{Meanings}
use Rattle.fkv_functions.specs.Plain.{PlainMap}
use Rattle.fkv_operations.specs.After.{is_update, answer, after_all}
use Rattle.fkv_operations.specs.declared.operations.KeyedOp.{KeyedOp}
use Rattle.fkv_histories.specs.declared.entries.Entry.{Entry}

module _ {K V I O : Type 0} where
  abbrev pub is_update_entry : Entry K V I O → Bool
  is_update_entry e = is_update e.op

  -- the updates of a history, in order: blind writes, updates by an input, also declined ones, and deletes
  abbrev pub updates : List (Entry K V I O) → List (Entry K V I O)
  updates es = filter is_update_entry es

  abbrev pub reads : List (Entry K V I O) → List (Entry K V I O)
  reads es = filter (λ e. not (is_update_entry e)) es

  abbrev pub ops_of : List (Entry K V I O) → List (KeyedOp K V I)
  ops_of es = map (λ e. e.op) es

module _ {K V I O : Type 0} (cmp : K → K → Ordering) (f : Meanings K V I O) where
  -- what these updates make of the empty map
  abbrev pub map_of : List (Entry K V I O) → PlainMap K V
  map_of us = after_all cmp f (λ k. None) (ops_of us)

  -- what the first n of them make of it
  abbrev pub map_at : List (Entry K V I O) → ℕ → PlainMap K V
  map_at us n = map_of (take n us)

  -- an operation answers as the plain map does at its place, which is not before its issue and not after its completion
  pub record IsPlaced (us : List (Entry K V I O)) (e : Entry K V I O) : Type 0 where
    pub low : e.low ≤ e.at
    pub high : e.at ≤ e.high
    pub answers : e.answer ≡ answer f (map_at us e.at) e.op

  -- a legal history: each update stands at its place among the updates, `high` is how many of them stand before an entry,
  -- and each entry is placed
  pub record IsLegal (es : List (Entry K V I O)) : Type 0 where
    pub numbered : (j : ℕ) (u : Entry K V I O) → slice_get (updates es) j ≡ Some u → u.at ≡ j
    pub completed : (i : ℕ) (e : Entry K V I O) → slice_get es i ≡ Some e → e.high ≡ length (updates (take i es))
    pub placed : All (IsPlaced (updates es)) es
