-- How many events an operation may still take that is driven alone, and how many pages it may read.
use Rattle.std.specs.Prelude.{◌≡◌, ◌+◌, ◌^◌, ◌<◌, ◌≤◌, ◌&&◌, ℕ, Bool, true, false, cond, IsTrue, Some, None, length, filter, nat_le, nat_lt}
use Rattle.fkv_index.specs.declared.words.Place.{Place}
use Rattle.fkv_index.specs.Words.{is_final, tag_of}
use Rattle.fkv_index.specs.Places.{word_at}
use Rattle.fkv_index.specs.Entries.{IsAlone}
use Rattle.fkv_functions.specs.declared.asks.Ask.{Ask}
use Rattle.fkv_texts.specs.declared.entries.Entry.{Entry}
use Rattle.fkv_operations.specs.After.{key_of}
use Rattle.fkv_operations.specs.declared.operations.KeyedOp.{KeyedOp}
use Rattle.fkv_operations.specs.declared.operations.KeyedOp.TheVariants.{Read, Rmw}
use Rattle.fkv_operations.specs.Classes.{same_class}
use Rattle.fkv_operations.specs.declared.classes.Class.{Class}
use Rattle.fkv_operations.specs.declared.entries.IndexEntry.{IndexEntry}
use Rattle.fkv_lookups.specs.RecordsViews.{RecordsView, class_in}
use Rattle.fkv_partition.specs.declared.contexts.Context.{Context}
use Rattle.fkv_partition.specs.declared.contexts.Loading.{Loading}
use Rattle.fkv_partition.specs.declared.contexts.Phase.TheVariants.{Fresh, Confirm}
use Rattle.fkv_partition.specs.declared.contexts.Progress.{Progress}
use Rattle.fkv_partition.specs.declared.contexts.Progress.TheVariants.{Next, NeedsBuild, NeedsLoad}
use Rattle.fkv_partition.specs.Contexts.{question_in, claim_at}
use Rattle.fkv_partition.specs.KeyLoading.{AwaitsPage}
use Rattle.fkv_partition.specs.Views.{PartitionView, context_at}

-- a record below Head, of the class of a key
abbrev pub is_evicted : {K V : Type 0} → (K → ℕ) → RecordsView K V → K → Entry K V → Bool
is_evicted code r k e = nat_lt e.address r.log.regions.offsets.head && same_class (class_in code r e.key) (class_in code r k)

-- how many there are, and how many of them at or below an address
abbrev pub evicted : {K V : Type 0} → (K → ℕ) → RecordsView K V → K → ℕ
evicted code r k = length (filter (is_evicted code r k) r.log.text)

abbrev pub evicted_to : {K V : Type 0} → (K → ℕ) → RecordsView K V → K → ℕ → ℕ
evicted_to code r k a = length (filter (λ e. nat_le e.address a && is_evicted code r k e) r.log.text)

-- whether an operation may read pages: a read or an update may; an upsert, a delete and a merge read none
abbrev pub may_load : {K V I : Type 0} → KeyedOp K V I → Bool
may_load (Read k i) = true
may_load (Rmw k i) = true
may_load other = false

-- how many events may follow the look-up of an operation: loads, and what is built, of one that may read pages
abbrev pub rest_of : {K V I : Type 0} → (K → ℕ) → RecordsView K V → KeyedOp K V I → ℕ
rest_of code r op = cond (may_load op) (1 + evicted code r (key_of op)) 0

-- how many pages an operation reads at most: one for each record of its key's class below Head
abbrev pub loads_of : {K V I : Type 0} → (K → ℕ) → RecordsView K V → KeyedOp K V I → ℕ
loads_of code r op = cond (may_load op) (evicted code r (key_of op)) 0

-- and how many more after it told this
abbrev pub loads_left : {K V I O R : Type 0} → (K → ℕ) → RecordsView K V → KeyedOp K V I → Progress K V I O R → ℕ
loads_left code r op Next = loads_of code r op
loads_left code r op (NeedsLoad receipt a) = cond (may_load op) (evicted_to code r (key_of op) a) 0
loads_left code r op other = 0

-- how many pages the event reads that follows this
abbrev pub loads_now : {K V I O R : Type 0} → Progress K V I O R → ℕ
loads_now (NeedsLoad receipt a) = 1
loads_now other = 0

-- no open operation holds a tentative entry
abbrev pub NoneClaims : {K V I : Type 0} → PartitionView K V I → Type 0
NoneClaims {K} {V} {I} v = (p : ℕ) → claim_at v.contexts p ≡ None

-- a final entry of a class stands at a place
pub record IsMade {K V : Type 0} (r : RecordsView K V) (c : Class) (p : Place) : Type 0 where
  pub bucket : p.bucket ≡ c.bucket
  pub final : IsTrue (is_final (word_at r.words p))
  pub tag : tag_of (word_at r.words p) ≡ c.tag

-- an operation that told this takes at most `n` more events
pub data IsNear {K V I O R : Type 0} (code : K → ℕ) (v : PartitionView K V I) (slot c : ℕ) (told : Progress K V I O R)
    (n : ℕ) : Type 0 where
  -- it may have to make an entry: a claim, its confirmation, a look-up, loads, and what is built
  begins : (x : Context K V I)
      → context_at v slot c ≡ Some x
      → x.phase ≡ Fresh
      → NoneClaims v
      → code (key_of x.op) < 2 ^ 64
      → told ≡ Next
      → 3 + rest_of code v.records x.op ≤ n
      → IsNear code v slot c told n
  confirms : (x : Context K V I) (p : Place)
      → context_at v slot c ≡ Some x
      → x.phase ≡ Confirm p
      → IsAlone v.records.words p
      → code (key_of x.op) < 2 ^ 64
      → told ≡ Next
      → 2 + rest_of code v.records x.op ≤ n
      → IsNear code v slot c told n
  -- an entry stands: a look-up, loads, and what is built
  looks : (x : Context K V I) (p : Place)
      → context_at v slot c ≡ Some x
      → x.phase ≡ Fresh
      → IsMade v.records (class_in code v.records (key_of x.op)) p
      → told ≡ Next
      → 1 + rest_of code v.records x.op ≤ n
      → IsNear code v slot c told n
  -- the entry that it kept stands: each page brings it to another record of the class
  fetches : (x : Context K V I) (l : Loading V) (r : R) (a : ℕ)
      → AwaitsPage v slot c x l
      → word_at v.records.words l.kept.place ≡ l.kept.word
      → told ≡ NeedsLoad r a
      → 1 + evicted_to code v.records (key_of x.op) l.wanted ≤ n
      → IsNear code v slot c told n
  builds : (x : Context K V I) (e : IndexEntry) (ask : Ask K V I)
      → context_at v slot c ≡ Some x
      → question_in x ≡ Some (e, ask)
      → word_at v.records.words e.place ≡ e.word
      → told ≡ NeedsBuild ask
      → 1 ≤ n
      → IsNear code v slot c told n

-- an event brings an operation nearer that took at most `n` more: it is over, waits, or takes fewer
pub record IsNearer {K V I O R : Type 0} (code : K → ℕ) (new : PartitionView K V I) (slot c : ℕ) (told : Progress K V I O R)
    (n : ℕ) : Type 0 where
  pub left : ℕ
  pub fewer : left < n
  pub near : IsNear code new slot c told left
