-- Why a store is not closed.
use Rattle.std.specs.Prelude.{◌≡◌, ◌≢◌, ◌<◌, ◌≤◌, ◌^◌, ◌⊎◌, ℕ, Bool, List, length, slice_get, slice_index, slice_set, Some, ⊤}
use Rattle.fkv_functions.specs.declared.refusals.Refused.{Refused}
use Rattle.fkv_functions.specs.declared.refusals.Refused.TheVariants.{NoMemory, Worn, Mismatch}
use Rattle.fkv_device.specs.Standing.{Standing}
use Rattle.fkv_hybrid.specs.Scans.{IsScanRefusal, MayFail}
use Rattle.fkv_records.specs.Places.{page_at}
use Rattle.fkv_partition.specs.Views.{PartitionView}
use Rattle.fkv_histories.specs.declared.entries.Entry.{Entry}
use Rattle.fkv_closing.specs.Closing.{AreNumbered, AreMerged, IsUnmerged}

module _ {K V I : Type 0} where
  -- shares or books have no sum below 2^64; else the sums differ, or a partition does not stand in its place
  abbrev pub IsUneven : List (PartitionView K V I) → ℕ → ℕ → Refused → Type 0
  IsUneven views shared booked Worn = (2 ^ 64 ≤ shared) ⊎ (2 ^ 64 ≤ booked)
  IsUneven views shared booked Mismatch =
      (shared < 2 ^ 64) × (booked < 2 ^ 64) × ((shared ≢ booked) ⊎ ¬ AreNumbered views)
  IsUneven views shared booked other = ⊥

  -- the pages of a partition are not read: its reader refuses one, or there is no memory; no other reader counts a failure
  pub record IsUnread (keeps : Bool) (views : List (PartitionView K V I)) (old new : List ℕ) (why : Refused) : Type 0 where
    pub partition : ℕ
    pub view : PartitionView K V I
    pub here : slice_get views partition ≡ Some view
    pub failures : ℕ
    pub counts : new ≡ slice_set old partition failures
    pub scan : IsScanRefusal keeps (page_at view.records.log.bits view.records.log.begin)
        (length view.records.log.receipts) (slice_index old partition) failures why

  -- a read of some page of some partition may fail
  pub record MayFailIn {R : Type 0} (stands : R → Standing) (can_fail : R → ℕ → Type 0) (views : List (PartitionView K V I))
      : Type 0 where
    pub partition : ℕ
    pub view : PartitionView K V I
    pub here : slice_get views partition ≡ Some view
    pub page : ℕ
    pub fails : MayFail stands can_fail view.records.log.receipts view.records.log.bits page

module _ {K V I O : Type 0} where
  -- the shares add up to something else than the books, a partition does not stand in its place, or a history is no merge of
  -- the own lists
  abbrev pub IsMismatch : List (PartitionView K V I) → List (List (Entry K V I O)) → (ℕ → List (List (Entry K V I O)))
      → ℕ → ℕ → Type 0
  IsMismatch views histories lists shared booked =
      (shared ≢ booked) ⊎ ¬ AreNumbered views ⊎ IsUnmerged histories lists

  -- why a store does not end before its pages are read: shares or books have no sum below 2^64; a mismatch; or want of memory
  abbrev pub IsUnsettled : List (PartitionView K V I) → List (List (Entry K V I O)) → (ℕ → List (List (Entry K V I O)))
      → ℕ → ℕ → Refused → Type 0
  IsUnsettled views histories lists shared booked Worn = (2 ^ 64 ≤ shared) ⊎ (2 ^ 64 ≤ booked)
  IsUnsettled views histories lists shared booked Mismatch = IsMismatch views histories lists shared booked
  IsUnsettled views histories lists shared booked NoMemory = ⊤
  IsUnsettled views histories lists shared booked other = ⊥

  -- why a store is not closed: shares or books have no sum below 2^64; a mismatch; want of memory; or a page that is not
  -- read, and that only where every history is a merge. Where it is no page, no reader counts a failure
  abbrev pub IsUnclosed : Bool → List (PartitionView K V I) → List (List (Entry K V I O))
      → (ℕ → List (List (Entry K V I O))) → ℕ → ℕ → List ℕ → List ℕ → Refused → Type 0
  IsUnclosed keeps views histories lists shared booked old new Worn =
      ((2 ^ 64 ≤ shared) ⊎ (2 ^ 64 ≤ booked)) × (new ≡ old)
  IsUnclosed keeps views histories lists shared booked old new Mismatch =
      IsMismatch views histories lists shared booked × (new ≡ old)
  IsUnclosed keeps views histories lists shared booked old new NoMemory = new ≡ old
  IsUnclosed keeps views histories lists shared booked old new why =
      AreMerged histories lists × IsUnread keeps views old new why
