-- What is kept under a lock: a partition beside the history of what was finished there.
use Rattle.std.specs.Prelude.{◌≡◌, ◌+◌, ◌*◌, ◌≤◌, ℕ, List, length, slice_index, Option, Some}
use Rattle.std.specs.declared.cmp.Ordering.{Ordering}
use Rattle.fkv_functions.specs.Meanings.{Meanings}
use Rattle.fkv_functions.specs.Plain.{PlainMap, Same}
use Rattle.fkv_operations.specs.After.{key_of}
use Rattle.fkv_operations.specs.Operations.{op_of}
use Rattle.fkv_operations.specs.declared.operations.KeyedOp.{KeyedOp}
use Rattle.fkv_partition.specs.Pending.{Pending, pending}
use Rattle.fkv_partition.specs.Views.{live_of, PartitionView}
use Rattle.fkv_partition.specs.Effect.{Asked, asked}
use Rattle.fkv_histories.specs.declared.entries.Entry.{Entry}
use Rattle.fkv_histories.specs.Histories.{updates, map_of, map_at, IsLegal}

-- what a history is compared with: of a partition its live map, what each context asks, what each look-up is to find, and
-- the last moment
pub record Seen (K V I : Type 0) : Type 0 where
  pub live : PlainMap K V
  pub asked : ℕ → ℕ → Option (Asked K V I)
  pub pending : ℕ → ℕ → Option (Pending V)
  pub moment : ℕ

abbrev pub seen : {K V I : Type 0} → (K → K → Ordering) → PartitionView K V I → Seen K V I
seen cmp v = record { live = live_of cmp v; asked = asked v; pending = pending cmp v; moment = v.moment }

-- the place of a context among the counts of all contexts
abbrev pub place_of : ℕ → ℕ → ℕ
place_of slot c = slot * 8 + c

module _ {K V I O : Type 0} (cmp : K → K → Ordering) (f : Meanings K V I O) where
  -- a look-up that waits for a page is of an operation on a key; it was made when so many updates stood, no fewer than at
  -- its issue, and it is to find what the map said then
  pub record IsPast (s : Seen K V I) (us : List (Entry K V I O)) (slot c : ℕ) (p : Pending V) (low look : ℕ)
      : Type 0 where
    pub number : ℕ
    pub op : KeyedOp K V I
    pub asks : s.asked slot c ≡ Some (record { number = number; op = op_of op })
    pub early : p.moment ≤ s.moment
    pub later : low ≤ look
    pub within : look ≤ length us
    pub value : p.value ≡ map_at cmp f us look (key_of op)

  -- the history is legal, its updates make the live map, each context knows how many updates stood at its issue and at its
  -- last look-up, and the book counts the entries
  pub record IsFaithful (s : Seen K V I) (es : List (Entry K V I O)) (lows looks : List ℕ) (book : ℕ) : Type 0 where
    pub legal : IsLegal cmp f es
    pub live : Same s.live (map_of cmp f (updates es))
    pub issued : (i : ℕ) → slice_index lows i ≤ length (updates es)
    pub past : (slot c : ℕ) (p : Pending V) → s.pending slot c ≡ Some p
        → IsPast s (updates es) slot c p (slice_index lows (place_of slot c)) (slice_index looks (place_of slot c))
    pub counted : book ≡ length es

  -- what is left of that at the end
  pub record IsEnded (s : Seen K V I) (es : List (Entry K V I O)) (book : ℕ) : Type 0 where
    pub legal : IsLegal cmp f es
    pub live : Same s.live (map_of cmp f (updates es))
    pub counted : book ≡ length es
