-- What every partition keeps: the entries of classes lead to their last records; a prepared update kept the value that
-- its key has among the records at or below the address to which the entry led that it kept, while the entry's place
-- holds that word, and nobody changes that value where it stands; a look-up that waits for a page knows from where it
-- goes on; and each tentative entry belongs to one operation, which waits to confirm it.
use Rattle.std.specs.Prelude.{◌≡◌, Bool, IsTrue, true, ◌+◌, ◌*◌, ◌^◌, ◌<◌, ◌≤◌, ℕ, length, Option, Some, None, slice_get}
use Rattle.std.specs.declared.cmp.Ordering.{Ordering}
use Rattle.fkv_texts.specs.declared.entries.Entry.{Entry}
use Rattle.fkv_texts.specs.Text.{newest, value_of}
use Rattle.fkv_texts.specs.Deltas.{combined, AreDeltasBetween}
use Rattle.fkv_index.specs.Words.{address_of}
use Rattle.fkv_index.specs.Places.{word_at}
use Rattle.fkv_operations.specs.After.{key_of, is_merge}
use Rattle.fkv_lookups.specs.RecordsViews.{RecordsView, class_in, WasEntryOf}
use Rattle.fkv_lookups.specs.Traced.{IsTraced, IsResolved}
use Rattle.fkv_operations.specs.Still.{IsStill}
use Rattle.fkv_lookups.specs.Lookups.{IsOfClass}
use Rattle.fkv_operations.specs.declared.entries.IndexEntry.{IndexEntry}
use Rattle.fkv_operations.specs.declared.operations.KeyedOp.{KeyedOp}
use Rattle.fkv_operations.specs.declared.operations.KeyedOp.TheVariants.{Read, Upsert, Rmw, Delete, Merge}
use Rattle.fkv_partition.specs.declared.contexts.Context.{Context}
use Rattle.fkv_partition.specs.declared.contexts.OpenWork.{OpenWork}
use Rattle.fkv_partition.specs.declared.contexts.OpenWork.TheVariants.{OnKey}
use Rattle.fkv_partition.specs.declared.contexts.Phase.{Phase}
use Rattle.fkv_partition.specs.declared.contexts.Phase.TheVariants.{Fresh, Confirm, Prepared, Load}
use Rattle.fkv_partition.specs.declared.contexts.Loading.{Loading}
use Rattle.fkv_partition.specs.Contexts.{is_session}
use Rattle.fkv_partition.specs.Claiming.{IsClaimOf, AreOwned}
use Rattle.fkv_partition.specs.Views.{PartitionView, partition_of, slots_of}

-- an update kept an entry of its key's class, and, on a device that keeps, the value that its key has at or below the
-- address where it leads, while the entry's place holds the kept word: of no record, of a tombstone, or of a record
-- that is frozen, so that no change in place makes it stale. An entry that leads nowhere may be dropped and made again
-- with that very word, so there the value is none whatever the place holds.
pub record IsKept {K V : Type 0} (keeps : Bool) (cmp : K → K → Ordering) (code : K → ℕ) (r : RecordsView K V) (k : K)
    (e : IndexEntry) (source : Option V) : Type 0 where
  pub entry : WasEntryOf r (class_in code r k) e
  pub low : address_of e.word < r.log.tail
  pub value : IsTrue keeps
      → word_at r.words e.place ≡ e.word
      → value_of (newest cmp r.text k (address_of e.word)) ≡ source
  pub still : IsTrue keeps
      → word_at r.words e.place ≡ e.word
      → IsStill r.log.regions.offsets.safe_read_only (newest cmp r.text k (address_of e.word))
  pub nowhere : IsTrue keeps → address_of e.word < 64 → source ≡ None

-- where a look-up goes on: a record of the key's class stands at the address that is wanted; from where the entry led, the
-- key's records above that address are deltas, what the key has is what it has at that address, joined with the parts that
-- were collected, and nobody changes its newest record
pub record LeadsOn {K V : Type 0} (cmp : K → K → Ordering) (join : V → V → V) (code : K → ℕ) (r : RecordsView K V) (k : K)
    (l : Loading V) : Type 0 where
  pub class : r.log.from ≤ l.wanted → IsOfClass code r k l.wanted
  pub still : IsStill r.log.regions.offsets.safe_read_only (newest cmp r.text k (address_of l.kept.word))
  pub newest : value_of (newest cmp r.text k (address_of l.kept.word)) ≡ combined join (value_of (newest cmp r.text k l.wanted)) l.parts
  pub between : AreDeltasBetween cmp r.log.text k l.wanted (address_of l.kept.word)

-- a look-up goes on in a page on disk, since Begin stood no higher than now: on a device that keeps, while Begin stands, at
-- the address that is wanted
pub record IsLoading {K V : Type 0} (keeps : Bool) (cmp : K → K → Ordering) (join : V → V → V) (code : K → ℕ)
    (r : RecordsView K V) (k : K) (l : Loading V) : Type 0 where
  pub entry : WasEntryOf r (class_in code r k) l.kept
  pub low : address_of l.kept.word < r.log.tail
  pub begun : l.begin ≤ l.wanted
  pub past : l.begin ≤ r.log.begin
  pub on_disk : l.wanted < r.log.regions.offsets.head
  pub leads : IsTrue keeps → l.begin ≡ r.log.begin → LeadsOn cmp join code r k l

-- what an open operation stands for
abbrev pub StandsFor : {K V I : Type 0} → Bool → (K → K → Ordering) → (V → V → V) → (K → ℕ) → RecordsView K V
    → KeyedOp K V I → Phase V → Type 0
StandsFor keeps cmp join code r op Fresh = Unit {0}
StandsFor keeps cmp join code r op (Confirm p) = IsClaimOf r (class_in code r (key_of op)) p
StandsFor keeps cmp join code r (Read k i) (Prepared e s) = ⊥
StandsFor keeps cmp join code r (Upsert k v) (Prepared e s) = ⊥
StandsFor keeps cmp join code r (Rmw k i) (Prepared e s) = IsKept keeps cmp code r k e s
StandsFor keeps cmp join code r (Delete k) (Prepared e s) = ⊥
StandsFor keeps cmp join code r (Merge k i) (Prepared e s) = ⊥
StandsFor keeps cmp join code r (Read k i) (Load l) = IsLoading keeps cmp join code r k l
StandsFor keeps cmp join code r (Upsert k v) (Load l) = ⊥
StandsFor keeps cmp join code r (Rmw k i) (Load l) = IsLoading keeps cmp join code r k l
StandsFor keeps cmp join code r (Delete k) (Load l) = ⊥
StandsFor keeps cmp join code r (Merge k i) (Load l) = ⊥

pub record IsSound {K V I : Type 0} (keeps : Bool) (cmp : K → K → Ordering) (join : V → V → V) (code : K → ℕ)
    (v : PartitionView K V I) : Type 0 where
  pub own : v.number < v.count
  pub counted : v.count ≡ 2 ^ v.records.partition_bits
  pub places : length v.contexts ≡ 128
  -- each record leads to the one before it in its class, and the entry of a class to the last
  pub traced : IsTraced keeps code v.records
  -- each record stands for what its key has once it stands
  pub resolved : IsResolved cmp join v.records
  pub stands : (p : ℕ) (x : Context K V I)
      → slice_get v.contexts p ≡ Some (Some (OnKey x))
      → StandsFor keeps cmp join code v.records x.op x.phase
  pub owned : AreOwned v.records.words v.contexts
  -- keys belong here: those of records, and those of open operations
  pub routed : (i : ℕ) (e : Entry K V)
      → slice_get v.records.log.text i ≡ Some e
      → partition_of v.count (code e.key) ≡ v.number
  pub asked : (p : ℕ) (x : Context K V I)
      → slice_get v.contexts p ≡ Some (Some (OnKey x))
      → partition_of v.count (code (key_of x.op)) ≡ v.number
  -- a merge is open only where the functions merge
  pub merging : (p : ℕ) (x : Context K V I)
      → slice_get v.contexts p ≡ Some (Some (OnKey x))
      → is_merge x.op ≡ true
      → v.merges ≡ true
  -- what is open is of a session that is entered
  pub housed : (slot c : ℕ) (x : OpenWork K V I)
      → c < 8
      → slice_get v.contexts (slot * 8 + c) ≡ Some (Some x)
      → is_session (slots_of v) slot ≡ true
