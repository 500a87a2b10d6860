-- What a relocation waits for, and what a compaction leaves of a log.
use Rattle.std.specs.Prelude.{◌≡◌, ◌<◌, ◌≤◌, ℕ, Bool, true, false, IsTrue, List, Option, Some, None, IfSome, slice_get, option_map}
use Rattle.fkv_records.specs.Places.{page_at, start_at}
use Rattle.fkv_device.specs.Standing.{Standing, Joined}
use Rattle.fkv_hybrid.specs.Loads.{IsHeldBy}
use Rattle.fkv_partition.specs.declared.contexts.Progress.{Progress}
use Rattle.fkv_partition.specs.declared.contexts.Progress.TheVariants.{Done, Next, NeedsBuild, NeedsLoad, Waits}
use Rattle.fkv_partition.specs.Going.{awaited}
use Rattle.fkv_partition.specs.Truncating.{IsDue}
use Rattle.fkv_partition.specs.Views.{PartitionView, relocation_at}
use Rattle.fkv_partition.specs.declared.relocations.Relocation.{Relocation}
use Rattle.fkv_local.specs.Storing.{StoreView}

-- the relocation in a context of the session waits for no page, or for the one that this stands for: that of the address that it
-- wants
pub data IsWanted {K V I : Type 0} (v : PartitionView K V I) (c : ℕ) : Option Standing → Type 0 where
  of_none : (x : Relocation K V) → relocation_at v 0 c ≡ Some x → awaited x ≡ None → IsWanted v c None
  of_page : (x : Relocation K V) (wanted : ℕ) (s : Standing)
      → relocation_at v 0 c ≡ Some x
      → awaited x ≡ Some (record { begin = v.records.log.begin; wanted = wanted })
      → IsHeldBy v.records.log.receipts (page_at v.records.log.bits wanted) s
      → IsWanted v c (Some s)

-- by what an event told, where the relocation is to go on
abbrev pub WantsThen : {K V I O R : Type 0} → (R → Standing) → PartitionView K V I → ℕ → Progress K V I O R → Type 0
WantsThen stands v c (Done a at) = Unit {0}
WantsThen stands v c Next = IsWanted v c None
WantsThen stands v c (NeedsBuild ask) = Unit {0}
WantsThen stands v c (NeedsLoad r a) = IsWanted v c (Some (stands r))
WantsThen stands v c (Waits why) = Unit {0}

-- of a page that is kept it is sure, or not, that its receipt is the one that the log has of it
abbrev pub IsKeptBy : {R : Type 0} → (R → Standing) → List (Option Standing) → Bool → Option (Joined R) → Type 0
IsKeptBy stands receipts sure kept = IsTrue sure → IfSome kept (λ p. IsHeldBy receipts (stands p.receipt).page (stands p.receipt))

-- whether the start of a log was cut: Begin has risen, or stays
abbrev pub WasCut : {K V I : Type 0} → PartitionView K V I → PartitionView K V I → Bool → Type 0
WasCut old new true = old.records.log.begin < new.records.log.begin
WasCut old new false = new.records.log.begin ≡ old.records.log.begin

-- no more of a log can be cut: no page starts above Begin whose records below are cleared and left memory
abbrev pub IsAllCut : {K V I : Type 0} → PartitionView K V I → Type 0
IsAllCut v = (page : ℕ) → ¬ IsDue v page

-- WHAT HAD LEFT MEMORY IS GIVEN BACK: Begin has come to the page where Head was, so each page below that is dropped
abbrev pub IsGivenBack : {K V I : Type 0} → PartitionView K V I → PartitionView K V I → Type 0
IsGivenBack old new =
    start_at old.records.log.bits (page_at old.records.log.bits old.records.log.regions.offsets.head)
    ≤ new.records.log.begin

-- of each log
abbrev pub IsAllGivenBack : {K V I W P : Type 0} → StoreView K V I W P → StoreView K V I W P → Type 0
IsAllGivenBack {K} {V} {I} old new = (place : ℕ) (v w : PartitionView K V I)
    → slice_get old.parts place ≡ Some v
    → slice_get new.parts place ≡ Some w
    → IsGivenBack v w

-- whether the start of any log was cut
abbrev pub begin_at : {K V I W P : Type 0} → StoreView K V I W P → ℕ → Option ℕ
begin_at s place = option_map (λ v. v.records.log.begin) (slice_get s.parts place)

pub record IsCutAt {K V I W P : Type 0} (old new : StoreView K V I W P) (place : ℕ) : Type 0 where
  pub begin : ℕ
  pub begin_now : ℕ
  pub was : begin_at old place ≡ Some begin
  pub is : begin_at new place ≡ Some begin_now
  pub risen : begin < begin_now

abbrev pub AnyIsCut : {K V I W P : Type 0} → StoreView K V I W P → StoreView K V I W P → Bool → Type 0
AnyIsCut old new true = (place : ℕ) × IsCutAt old new place
AnyIsCut old new false = (place : ℕ) → begin_at new place ≡ begin_at old place
