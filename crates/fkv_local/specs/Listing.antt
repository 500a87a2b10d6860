-- Lists of live pairs, a partition at a time, and why there is none.
use Rattle.std.specs.Prelude.{◌≡◌, ◌≢◌, ◌<◌, ◌-◌, ℕ, suc, Bool, List, Some, None, slice_get, length, map, take, drop}
use Rattle.std.specs.declared.cmp.Ordering.{Ordering}
use Rattle.fkv_functions.specs.Plain.{PlainMap}
use Rattle.fkv_functions.specs.declared.refusals.Refused.{Refused}
use Rattle.fkv_records.specs.Places.{page_at}
use Rattle.fkv_hybrid.specs.Scans.{IsScanRefusal}
use Rattle.fkv_partition.specs.Views.{partition_of, PartitionView}
use Rattle.fkv_partition.specs.Unions.{live_at}
use Rattle.fkv_local.specs.Storing.{StoreView}

-- lists that are still to come: the partitions that are left, what reads their pages, and how many partitions the store had
pub record ListsView (K V I P : Type 0) : Type 0 where
  pub parts : List (PartitionView K V I)
  pub readers : List P
  pub count : ℕ

-- those of a whole store
abbrev pub lists_of : {K V I W P : Type 0} → StoreView K V I W P → ListsView K V I P
lists_of s = record { parts = s.parts; readers = s.readers; count = length s.parts }

-- those behind the next one, which is the last partition's
abbrev pub behind_next : {K V I P : Type 0} → ListsView K V I P → ListsView K V I P
behind_next l = record l { parts = take (length l.parts - 1) l.parts; readers = take (length l.parts - 1) l.readers }

-- what is still to be listed: each key's value in the partition that its hash names, where that one is left
abbrev pub left : {K V I P : Type 0} → (K → K → Ordering) → (K → ℕ) → ListsView K V I P → PlainMap K V
left cmp code l k = live_at cmp (slice_get l.parts (partition_of l.count (code k))) k

-- the partitions that are left stand in their places, and say how many there were
pub record AreLeft {K V I : Type 0} (views : List (PartitionView K V I)) (count : ℕ) : Type 0 where
  pub some : 0 < count
  pub numbered : (p : ℕ) (v : PartitionView K V I) → slice_get views p ≡ Some v → v.number ≡ p
  pub counted : (p : ℕ) (v : PartitionView K V I) → slice_get views p ≡ Some v → v.count ≡ count

-- A LIST IS ITS PARTITION'S PART OF THE MAP. Each key whose hash names that partition has in it what it had in what was to be
-- listed, and no other key is in it; what is left has the other keys as before.
pub record IsNextList {K V I P : Type 0} (cmp : K → K → Ordering) (code : K → ℕ) (old new : ListsView K V I P)
    (list : PlainMap K V) : Type 0 where
  pub own : (k : K) → partition_of old.count (code k) ≡ length new.parts → list k ≡ left cmp code old k
  pub none : (k : K) → partition_of old.count (code k) ≢ length new.parts → list k ≡ None
  pub others : (k : K) → partition_of old.count (code k) ≢ length new.parts → left cmp code new k ≡ left cmp code old k

-- Why the partition at a place is not listed: for want of memory, or at a flushed page of it, by the counts of failures of the
-- reader of that place before and after. The readers before it count no failure more, and those behind it are as they were.
pub record IsUnlistedAt {K V I P : Type 0} (keeps : Bool) (reads : P → ℕ) (parts : List (PartitionView K V I))
    (readers readers_now : List P) (place : ℕ) (why : Refused) : Type 0 where
  pub view : PartitionView K V I
  pub here : slice_get parts place ≡ Some view
  pub reader : P
  pub was : slice_get readers place ≡ Some reader
  pub reader_now : P
  pub now : slice_get readers_now place ≡ Some reader_now
  pub before : map reads (take place readers_now) ≡ map reads (take place readers)
  pub behind : drop (suc place) readers_now ≡ drop (suc place) readers
  pub refused : IsScanRefusal keeps (page_at view.records.log.bits view.records.log.begin)
      (length view.records.log.receipts) (reads reader) (reads reader_now) why

-- why the live keys of a store are not listed: one of its partitions is not
abbrev pub IsUnlisted : {K V I P : Type 0} → Bool → (P → ℕ) → List (PartitionView K V I) → List P → List P → Refused → Type 0
IsUnlisted keeps reads parts readers readers_now why = (place : ℕ) × IsUnlistedAt keeps reads parts readers readers_now place why
