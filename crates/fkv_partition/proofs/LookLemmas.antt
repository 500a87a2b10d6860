-- Where a relocation reads the record of its place: in memory, or from the device.
use Rattle.std.proofs.Common.{◌≡◌, ◌==◌, ◌<◌, ◌≤◌, ℕ, Bool, IsSome, List, Some, arith}
use Rattle.std.proofs.lemmas.Bool.{eqb-true}
use Rattle.std.specs.declared.cmp.Ordering.{Ordering}
use Rattle.fkv_records.specs.Places.{page_at}
use Rattle.fkv_texts.specs.declared.entries.Entry.{Entry}
use Rattle.fkv_texts.specs.Text.{entry_at}
use Rattle.fkv_texts.proofs.LastWhere.{last_where-found}
use Rattle.fkv_lookups.proofs.TracedLemmas.{raw, traced-raw}
use Rattle.fkv_hybrid.specs.Loads.{HasReceipt}
use Rattle.fkv_partition.specs.KeySound.{IsSound}
use Rattle.fkv_partition.proofs.DecidedLemmas.{page_flushed}
use Rattle.fkv_partition.specs.declared.relocations.Relocation.{Relocation}
use Rattle.fkv_partition.specs.Views.{PartitionView, relocation_at}
use Rattle.fkv_partition.specs.Stages.{IsReading}
use Rattle.fkv_partition.specs.Sound.{IsCompacting}
use Rattle.fkv_partition.specs.Going.{low_at}
use Rattle.fkv_partition.proofs.MoveLemmas.{open-here, stands-here, low-here}
use Rattle.fkv_partition.proofs.CheckingLemmas.{low-open, low-begun, low-disk}
use Rattle.fkv_partition.proofs.HeldLemmas.{place-held}

pub address-at : {K V : Type 0} (text : List (Entry K V)) (a : ℕ) (e : Entry K V) → entry_at text a ≡ Some e → e.address ≡ a
address-at text a e h = eqb-true e.address a (last_where-found (λ x. x.address == a) text e h)

module _ {K V I : Type 0} {keeps : Bool} (cmp : K → K → Ordering) (join : V → V → V) (code : K → ℕ) (v : PartitionView K V I) (s : IsCompacting keeps cmp join code v) (p : IsSound keeps cmp join code v) (slot c : ℕ) (x : Relocation K V) (h : relocation_at v slot c ≡ Some x) (uncleared : x.target ≡ v.cleared) where
  pub begun-here : v.records.log.begin ≤ x.target
  begun-here = let le = s.begun in omega arith

  -- below what the session reads in memory it is on disk
  module _ (under : x.target < low_at v slot) where
    on-disk : x.target < v.records.log.regions.offsets.head
    on-disk = low-disk cmp join code v p slot (open-here v slot c x h).inside x.target under begun-here

    pub place-flushed : HasReceipt v.records.log.receipts (page_at v.records.log.bits x.target)
    place-flushed = page_flushed v.records x.target p.traced begun-here on-disk

    pub place-reading : IsReading v.records x.target v.records.log.begin
    place-reading = record { past = omega arith; begun = begun-here; on_disk = on-disk }

  -- and else it stands in a frame
  module _ (over : low_at v slot ≤ x.target) where
    pub place-there : IsSome (entry_at v.records.log.text x.target)
    place-there =
        let from = low-begun cmp join code v p slot (open-here v slot c x h).inside in
        place-held (raw v.records) (traced-raw p.traced p.resolved) x.target (stands-here v slot c x h s).place (omega arith) (low-here v slot c x h s p.traced)

    pub place-open : v.records.log.regions.offsets.closed ≤ x.target
    place-open = let closed = low-open cmp join code v p slot (open-here v slot c x h).inside in omega arith
