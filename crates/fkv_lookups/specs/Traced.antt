-- What the records of a partition always keep: each record leads to the one before it in its class, and the entry of a
-- class to the last; and the views of the sessions agree with the offsets of the log.
use Rattle.std.specs.Prelude.{◌≡◌, ◌^◌, ◌<◌, ◌≤◌, ℕ, Bool, None, length}
use Rattle.fkv_hybrid.specs.Loads.{HasReceipt}
use Rattle.fkv_hybrid.specs.Views.{text_begin, receipt_at}
use Rattle.fkv_records.specs.Places.{IsShape, page_at}
use Rattle.fkv_records.specs.Records.{IsPrevious}
use Rattle.fkv_texts.specs.Places.{IsLaidOut}
use Rattle.fkv_texts.specs.Text.{IsRising, IsFrom, IsBelow}
use Rattle.std.specs.declared.cmp.Ordering.{Ordering}
use Rattle.fkv_texts.specs.Deltas.{IsAssociative, resolved, AreValued}
use Rattle.fkv_texts.specs.Chains.{last_of_class, Leads, IsChained}
use Rattle.fkv_epoch.specs.Timely.{IsTimely}
use Rattle.fkv_regions.specs.RegionsView.{RegionsView}
use Rattle.fkv_regions.specs.Agree.{IsRegions, IsMark}
use Rattle.fkv_index.specs.Entries.{IsIndexMap}
use Rattle.fkv_operations.specs.declared.classes.Class.{Class}
use Rattle.fkv_operations.specs.Classes.{same_class}
use Rattle.fkv_lookups.specs.RecordsViews.{RecordsView, class_in, entry_of, leads_to}

-- regions of a log with this tail: what is frozen lies below the tail, and what begins the log is no higher than Head
pub record AreRegionsBelow (page_bits begin tail : ℕ) (regions : RegionsView) : Type 0 where
  pub agree : IsRegions regions
  pub timely : IsTimely regions.epochs
  pub bits : regions.bits ≡ page_bits
  pub headed : begin ≤ regions.offsets.head
  pub read_only : regions.offsets.read_only ≤ tail

pub record IsTraced {K V : Type 0} (keeps : Bool) (code : K → ℕ) (v : RecordsView K V) : Type 0 where
  pub partition_bits : v.partition_bits ≤ 6
  pub bucket_bits : v.bucket_bits ≤ 20
  pub shape : IsShape v.log.bits v.record_size
  pub first : 64 ≤ v.log.begin
  -- Begin is the first place, or starts a page
  pub marked : IsMark v.log.bits v.log.begin
  -- the text begins at Begin on a device that keeps, else no lower than where frames are closed
  pub begins : v.log.from ≡ text_begin keeps v.log.begin v.log.regions.offsets.closed
  pub laid_out : IsLaidOut v.log.bits v.record_size v.log.from v.log.tail v.text
  pub rising : IsRising v.text
  pub from : IsFrom v.log.from v.text
  pub below : IsBelow v.log.tail v.text
  pub regions : AreRegionsBelow v.log.bits v.log.begin v.log.tail v.log.regions
  -- each flushed page has its receipt, but for those below that of Begin, of which none is held
  pub flushed : v.log.regions.flushed ≡ length v.log.receipts
  pub gone : (page : ℕ) → page < page_at v.log.bits v.log.begin → receipt_at v.log.receipts page ≡ None
  pub held : (page : ℕ)
      → page_at v.log.bits v.log.begin ≤ page
      → page < length v.log.receipts
      → HasReceipt v.log.receipts page
  pub chained : IsChained (class_in code v) same_class v.log.from v.text
  -- the final entries are a map from class to address
  pub buckets : length v.words ≡ 2 ^ v.bucket_bits
  pub map : IsIndexMap v.words
  -- the entry of a class leads to the class's last record, and where it has none there is no entry, or it leads below
  -- where the text begins
  pub leads : (c : Class)
      → Leads v.log.from (last_of_class (class_in code v) same_class v.text c) (leads_to (entry_of v c))
  -- so it can be the previous address of the next record
  pub placed : (c : Class) → IsPrevious v.log.tail (leads_to (entry_of v c))

-- the text has the records, each with what its key has once it stands, in this order of keys and by this join; a delta has a
-- part, and parts may be joined first
pub record IsResolved {K V : Type 0} (cmp : K → K → Ordering) (join : V → V → V) (v : RecordsView K V) : Type 0 where
  pub is : v.text ≡ resolved cmp join v.log.text
  pub valued : AreValued v.log.text
  pub joins : IsAssociative join
