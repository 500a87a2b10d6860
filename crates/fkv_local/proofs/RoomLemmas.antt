-- Once pages have moved on, there is room for a record.
use Rattle.std.proofs.Common.{◌≡◌, ◌<◌, ◌≤◌, ◌+◌, ◌-◌, ◌*◌, ◌/◌, ◌^◌, inl, inr, Bool, true, false, ℕ, List, [], Result, length, refl, sym, ◌∙◌, ap, subst, arith}
use Rattle.std.proofs.Math.Nat.{le-div_iff_mul-le}
use Rattle.std.proofs.lemmas.Bool.{cases_lt}
use Rattle.std.proofs.lemmas.Nat.{pow_pos}
use Rattle.fkv_functions.specs.declared.refusals.Refused.{Refused}
use Rattle.fkv_records.specs.Places.{page_at, start_at}
use Rattle.fkv_epoch.specs.Due.{due}
use Rattle.fkv_epoch.specs.declared.actions.Action.TheVariants.{Safe, Closed}
use Rattle.fkv_epoch.specs.Moves.{renewed, bumped}
use Rattle.fkv_regions.specs.RegionsView.{RegionsView, refreshed, with_read_only, with_head}
use Rattle.fkv_regions.specs.Settled.{IsSettled}
use Rattle.fkv_regions.proofs.OffsetLemmas.{head-ran, read_only-ran}
use Rattle.fkv_regions.proofs.SettledLemmas.{refresh-settles, freeze-settles, evict-settles, flush-settles}
use Rattle.fkv_lookups.specs.RecordsViews.{RecordsView}
use Rattle.fkv_hybrid.specs.Views.{IsFull}
use Rattle.fkv_device.specs.Standing.{Standing}
use Rattle.fkv_partition.specs.KeyBeginning.{IsEntered}
use Rattle.fkv_partition.specs.Views.{PartitionView, MovesTo, at_moment}
use Rattle.fkv_partition.specs.Moves as looking
use Rattle.fkv_partition.specs.Flushing as flushing
use Rattle.fkv_partition.specs.Events.{Refreshes, Shifts, Evicts, Flushes}
use Rattle.fkv_local.specs.Moving.{IsSameLog, IsWritten, IsOnward, StaysSettled}
use Rattle.fkv_regions.specs.declared.offsets.Offsets.{Offsets}

module _ {K V I : Type 0} {keeps : Bool} where
  -- ---- the log stays
  pub log-same : {v : PartitionView K V I} → IsSameLog keeps v v
  log-same = record { page_bits = refl; tail = refl; frames = refl; partition_bits = refl; bucket_bits = refl; entries = λ k. refl }

  pub log-as : {v w : PartitionView K V I} → w ≡ v → IsSameLog keeps v w
  log-as {v} {w} same = subst (IsSameLog keeps v) (sym same) log-same

  pub log-then : {u v w : PartitionView K V I} → IsSameLog keeps u v → IsSameLog keeps v w → IsSameLog keeps u w
  log-then s t = record {
    page_bits = t.page_bits ∙ s.page_bits;
    tail = t.tail ∙ s.tail;
    frames = t.frames ∙ s.frames;
    partition_bits = t.partition_bits ∙ s.partition_bits;
    bucket_bits = t.bucket_bits ∙ s.bucket_bits;
    entries = λ k. t.entries k ∙ s.entries k;
  }

  log-moved : {regions : RegionsView} {v w : PartitionView K V I} {now : ℕ} → MovesTo keeps regions v w now → IsSameLog keeps v w
  log-moved m = record {
    page_bits = ap (λ (r : RecordsView K V). r.log.bits) m.moves.is;
    tail = ap (λ (r : RecordsView K V). r.log.tail) m.moves.is;
    frames = ap (λ (r : RecordsView K V). r.log.frames) m.moves.is;
    partition_bits = ap (λ (r : RecordsView K V). r.partition_bits) m.moves.is;
    bucket_bits = ap (λ (r : RecordsView K V). r.bucket_bits) m.moves.is;
    entries = m.moves.entries;
  }

  log-core : {v w : PartitionView K V I} → w ≡ v → IsSameLog keeps v w
  log-core same = record {
    page_bits = ap (λ (c : PartitionView K V I). c.records.log.bits) same;
    tail = ap (λ (c : PartitionView K V I). c.records.log.tail) same;
    frames = ap (λ (c : PartitionView K V I). c.records.log.frames) same;
    partition_bits = ap (λ (c : PartitionView K V I). c.records.partition_bits) same;
    bucket_bits = ap (λ (c : PartitionView K V I). c.records.bucket_bits) same;
    entries = λ k. ap (λ (c : PartitionView K V I). c.records.log.text) same;
  }

  -- the words of the index play no part in it
  pub log-words : {v w : PartitionView K V I} → w.records ≡ record v.records { words = w.records.words } → IsSameLog keeps v w
  log-words is = record {
    page_bits = ap (λ (r : RecordsView K V). r.log.bits) is;
    tail = ap (λ (r : RecordsView K V). r.log.tail) is;
    frames = ap (λ (r : RecordsView K V). r.log.frames) is;
    partition_bits = ap (λ (r : RecordsView K V). r.partition_bits) is;
    bucket_bits = ap (λ (r : RecordsView K V). r.bucket_bits) is;
    entries = λ k. ap (λ (r : RecordsView K V). r.log.text) is;
  }

module _ {K V I : Type 0} {keeps : Bool} where
  regions-to : {regions : RegionsView} {v w : PartitionView K V I} {now : ℕ} → MovesTo keeps regions v w now → w.records.log.regions ≡ regions
  regions-to m = ap (λ (r : RecordsView K V). r.log.regions) m.moves.is

  -- ---- the session is refreshed
  pub refresh-log : {v w : PartitionView K V I} {slot now : ℕ} {r : Result _ Refused} → Refreshes keeps v w slot now r → IsSameLog keeps v w
  refresh-log h = by h.does
    where
      by : {v w : PartitionView K V I} {slot now : ℕ} {r : Result _ Refused} → looking.Refreshes keeps v w slot now r → IsSameLog keeps v w
      by (looking.Refreshes.unknown a same t) = log-core same
      by (looking.Refreshes.refreshes a m t) = log-moved m

  pub refresh-regions : {v w : PartitionView K V I} {now : ℕ} {r : Result _ Refused} → IsEntered v 0 → Refreshes keeps v w 0 now r → w.records.log.regions ≡ refreshed v.records.log.regions 0
  refresh-regions entered h = by entered h.does
    where
      by : {v w : PartitionView K V I} {now : ℕ} {r : Result _ Refused} → IsEntered v 0 → looking.Refreshes keeps v w 0 now r → w.records.log.regions ≡ refreshed v.records.log.regions 0
      by entered (looking.Refreshes.unknown a same t) = let bad : false ≡ true = sym a ∙ entered in absurd (cc)
      by entered (looking.Refreshes.refreshes a m t) = regions-to m

  -- ---- ReadOnly moves, and the session is refreshed
  pub shift-log : {v w : PartitionView K V I} {page now : ℕ} {r : Result _ Refused} → Shifts keeps v w page now r → IsSameLog keeps v w
  shift-log h = by h.does
    where
      by : {v w : PartitionView K V I} {page now : ℕ} {r : Result _ Refused} → looking.Shifts keeps v w page now r → IsSameLog keeps v w
      by (looking.Shifts.not_due a same t) = log-core same
      by (looking.Shifts.full a b same t) = log-core same
      by (looking.Shifts.shifts a b m t) = log-moved m

  shift-settles : (s : RegionsView) {v w : PartitionView K V I} {page now : ℕ} {r : Result _ Refused} → v.records.log.regions ≡ s → 0 < length s.views → IsSettled s → looking.Shifts keeps v w page now r → IsSettled (refreshed w.records.log.regions 0)
  shift-settles s {v} {w} here long h (looking.Shifts.not_due a same t) = subst (λ x. IsSettled (refreshed x 0)) (sym (ap (λ (c : PartitionView K V I). c.records.log.regions) same ∙ here)) (refresh-settles s h long)
  shift-settles s {v} {w} here long h (looking.Shifts.full a b same t) = subst (λ x. IsSettled (refreshed x 0)) (sym (ap (λ (c : PartitionView K V I). c.records.log.regions) same ∙ here)) (refresh-settles s h long)
  shift-settles s {v} {w} {page} here long h (looking.Shifts.shifts a b m t) = subst (λ x. IsSettled (refreshed x 0)) (sym (regions-to m)) (subst (λ x. IsSettled (refreshed (with_read_only x (start_at v.records.log.regions.bits page)) 0)) (sym here) (freeze-settles s h long (start_at v.records.log.regions.bits page)))

  pub freeze-settled : {v u : PartitionView K V I} (w : PartitionView K V I) {page now : ℕ} {r : Result _ Refused} → 0 < length v.records.log.regions.views → Shifts keeps v u page now r → w.records.log.regions ≡ refreshed u.records.log.regions 0 → StaysSettled v w
  freeze-settled {v} w long h is settled = subst IsSettled (sym is) (shift-settles v.records.log.regions refl long settled h.does)

  shift-frozen : {v w : PartitionView K V I} {page now : ℕ} {r : Result _ Refused} → IsSettled v.records.log.regions → page ≤ page_at v.records.log.regions.bits v.records.log.tail → looking.Shifts keeps v w page now r → start_at v.records.log.regions.bits page ≤ w.records.log.regions.offsets.read_only
  shift-frozen {v} {w} {page} h low (looking.Shifts.not_due undue same t) = elim (cases_lt v.records.log.regions.offsets.read_only (start_at v.records.log.regions.bits page)) [
    | inl lt ↦ absurd (undue (record { higher = lt; begun = low }))
    | inr le ↦ (let is : w.records.log.regions.offsets.read_only ≡ v.records.log.regions.offsets.read_only = ap (λ (c : PartitionView K V I). c.records.log.regions.offsets.read_only) same in omega arith)
  ]
  shift-frozen {v} h low (looking.Shifts.full due_is many same t) = let none : length v.records.log.regions.epochs.waiting ≡ 0 = ap length h.none_waits in absurd (omega arith)
  shift-frozen {v} {w} {page} h low (looking.Shifts.shifts due_is b m t) =
      let is : w.records.log.regions.offsets.read_only ≡ (with_read_only v.records.log.regions (start_at v.records.log.regions.bits page)).offsets.read_only = ap (λ (s : RegionsView). s.offsets.read_only) (regions-to m) in
      let ran_is : (with_read_only v.records.log.regions (start_at v.records.log.regions.bits page)).offsets.read_only ≡ start_at v.records.log.regions.bits page =
      read_only-ran (record v.records.log.regions.offsets { read_only = start_at v.records.log.regions.bits page }) (due (bumped v.records.log.regions.epochs (Safe (start_at v.records.log.regions.bits page)))) in
      omega arith

  pub freeze-frozen : {v u : PartitionView K V I} (w : PartitionView K V I) {page now : ℕ} {r : Result _ Refused} → Shifts keeps v u page now r → w.records.log.regions ≡ refreshed u.records.log.regions 0 → IsSettled v.records.log.regions → page ≤ page_at v.records.log.regions.bits v.records.log.tail → start_at v.records.log.regions.bits page ≤ w.records.log.regions.offsets.read_only
  freeze-frozen {v} {u} w {page} h is settled low =
      let shifted : start_at v.records.log.regions.bits page ≤ u.records.log.regions.offsets.read_only = shift-frozen settled low h.does in
      let same : w.records.log.regions.offsets.read_only ≡ (refreshed u.records.log.regions 0).offsets.read_only = ap (λ (s : RegionsView). s.offsets.read_only) is in
      let ran_is : (refreshed u.records.log.regions 0).offsets.read_only ≡ u.records.log.regions.offsets.read_only = read_only-ran u.records.log.regions.offsets (due (renewed u.records.log.regions.epochs 0)) in
      omega arith

  -- ---- Head moves, and the session is refreshed
  pub evict-log : {v w : PartitionView K V I} {page now : ℕ} {r : Result _ Refused} → Evicts keeps v w page now r → IsSameLog keeps v w
  evict-log h = by h.does
    where
      by : {v w : PartitionView K V I} {page now : ℕ} {r : Result _ Refused} → looking.Evicts keeps v w page now r → IsSameLog keeps v w
      by (looking.Evicts.not_due a same t) = log-core same
      by (looking.Evicts.full a b same t) = log-core same
      by (looking.Evicts.evicts a b m t) = log-moved m

  move-settles : (s : RegionsView) {v w : PartitionView K V I} {page now : ℕ} {r : Result _ Refused} → v.records.log.regions ≡ s → 0 < length s.views → IsSettled s → looking.Evicts keeps v w page now r → IsSettled (refreshed w.records.log.regions 0)
  move-settles s {v} {w} here long h (looking.Evicts.not_due a same t) = subst (λ x. IsSettled (refreshed x 0)) (sym (ap (λ (c : PartitionView K V I). c.records.log.regions) same ∙ here)) (refresh-settles s h long)
  move-settles s {v} {w} here long h (looking.Evicts.full a b same t) = subst (λ x. IsSettled (refreshed x 0)) (sym (ap (λ (c : PartitionView K V I). c.records.log.regions) same ∙ here)) (refresh-settles s h long)
  move-settles s {v} {w} {page} here long h (looking.Evicts.evicts a b m t) = subst (λ x. IsSettled (refreshed x 0)) (sym (regions-to m)) (subst (λ x. IsSettled (refreshed (with_head x (start_at v.records.log.regions.bits page)) 0)) (sym here) (evict-settles s h long (start_at v.records.log.regions.bits page)))

  pub evict-settled : {v u : PartitionView K V I} (w : PartitionView K V I) {page now : ℕ} {r : Result _ Refused} → 0 < length v.records.log.regions.views → Evicts keeps v u page now r → w.records.log.regions ≡ refreshed u.records.log.regions 0 → StaysSettled v w
  evict-settled {v} w long h is settled = subst IsSettled (sym is) (move-settles v.records.log.regions refl long settled h.does)

  move-evicted : {v w : PartitionView K V I} {page now : ℕ} {r : Result _ Refused} → IsSettled v.records.log.regions → page ≤ v.records.log.regions.flushed → looking.Evicts keeps v w page now r → start_at v.records.log.regions.bits page ≤ w.records.log.regions.offsets.head
  move-evicted {v} {w} {page} h low (looking.Evicts.not_due undue same t) = elim (cases_lt v.records.log.regions.offsets.head (start_at v.records.log.regions.bits page)) [
    | inl lt ↦ absurd (undue (record { higher = lt; flushed = low }))
    | inr le ↦ (let is : w.records.log.regions.offsets.head ≡ v.records.log.regions.offsets.head = ap (λ (c : PartitionView K V I). c.records.log.regions.offsets.head) same in omega arith)
  ]
  move-evicted {v} h low (looking.Evicts.full due_is many same t) = let none : length v.records.log.regions.epochs.waiting ≡ 0 = ap length h.none_waits in absurd (omega arith)
  move-evicted {v} {w} {page} h low (looking.Evicts.evicts due_is b m t) =
      let is : w.records.log.regions.offsets.head ≡ (with_head v.records.log.regions (start_at v.records.log.regions.bits page)).offsets.head = ap (λ (s : RegionsView). s.offsets.head) (regions-to m) in
      let ran_is : (with_head v.records.log.regions (start_at v.records.log.regions.bits page)).offsets.head ≡ start_at v.records.log.regions.bits page =
      head-ran (record v.records.log.regions.offsets { head = start_at v.records.log.regions.bits page }) (due (bumped v.records.log.regions.epochs (Closed (start_at v.records.log.regions.bits page)))) in
      omega arith

  pub evict-evicted : {v u : PartitionView K V I} (w : PartitionView K V I) {page now : ℕ} {r : Result _ Refused} → Evicts keeps v u page now r → w.records.log.regions ≡ refreshed u.records.log.regions 0 → IsSettled v.records.log.regions → page ≤ v.records.log.regions.flushed → start_at v.records.log.regions.bits page ≤ w.records.log.regions.offsets.head
  evict-evicted {v} {u} w {page} h is settled low =
      let shifted : start_at v.records.log.regions.bits page ≤ u.records.log.regions.offsets.head = move-evicted settled low h.does in
      let same : w.records.log.regions.offsets.head ≡ (refreshed u.records.log.regions 0).offsets.head = ap (λ (s : RegionsView). s.offsets.head) is in
      let ran_is : (refreshed u.records.log.regions 0).offsets.head ≡ u.records.log.regions.offsets.head = head-ran u.records.log.regions.offsets (due (renewed u.records.log.regions.epochs 0)) in
      omega arith

-- ---- a page is written
module _ {K V I : Type 0} where
  record IsFlushed (v w : PartitionView K V I) : Type 0 where
    offsets : w.records.log.regions.offsets ≡ v.records.log.regions.offsets
    settled : IsSettled v.records.log.regions → IsSettled w.records.log.regions
    log : (keeps : Bool) → IsSameLog keeps v w

  flushed-same : {v : PartitionView K V I} → IsFlushed v v
  flushed-same = record { offsets = refl; settled = λ h. h; log = λ keeps. log-same }

  flushed-as : {v w : PartitionView K V I} → w ≡ v → IsFlushed v w
  flushed-as {v} same = subst (IsFlushed v) (sym same) flushed-same

  core-flushed : {v w : PartitionView K V I} {s : Standing} {bytes : List ℕ} {now : ℕ} {r : Result _ Refused} → flushing.Flushes v w s bytes now r → IsFlushed v w
  core-flushed (flushing.Flushes.refused why a same t) = flushed-as same
  core-flushed (flushing.Flushes.unkept a same t) = flushed-as same
  core-flushed {v} {w} (flushing.Flushes.keeps a is t) = subst (IsFlushed v) (sym is) (record {
    offsets = refl;
    settled = flush-settles v.records.log.regions (v.records.log.regions.flushed + 1);
    log = λ keeps. record { page_bits = refl; tail = refl; frames = refl; partition_bits = refl; bucket_bits = refl; entries = λ k. refl };
  })

  pub flush-log : {keeps : Bool} {v w : PartitionView K V I} {s : Standing} {bytes : List ℕ} {now : ℕ} {r : Result _ Refused} → Flushes v w s bytes now r → IsSameLog keeps v w
  flush-log {keeps} h = (core-flushed h.does).log keeps

  pub flush-offsets : {v w : PartitionView K V I} {s : Standing} {bytes : List ℕ} {now : ℕ} {r : Result _ Refused} → Flushes v w s bytes now r → w.records.log.regions.offsets ≡ v.records.log.regions.offsets
  flush-offsets h = (core-flushed h.does).offsets

  pub flush-settled : {v w : PartitionView K V I} {s : Standing} {bytes : List ℕ} {now : ℕ} {r : Result _ Refused} → Flushes v w s bytes now r → StaysSettled v w
  flush-settled h = (core-flushed h.does).settled

  pub take-log : {keeps : Bool} {v w : PartitionView K V I} {now : ℕ} → w ≡ at_moment v now → IsSameLog keeps v w
  take-log {keeps} {v} {w} {now} is = subst (IsSameLog keeps v) (sym is) (record { page_bits = refl; tail = refl; frames = refl; partition_bits = refl; bucket_bits = refl; entries = λ k. refl })

  pub take-offsets : (v w : PartitionView K V I) {now : ℕ} → w ≡ at_moment v now → w.records.log.regions.offsets ≡ v.records.log.regions.offsets
  take-offsets v w is = ap (λ (u : PartitionView K V I). u.records.log.regions.offsets) is

  pub take-settled : (v w : PartitionView K V I) {now : ℕ} → w ≡ at_moment v now → StaysSettled v w
  take-settled v w is = subst IsSettled (sym (ap (λ (u : PartitionView K V I). u.records.log.regions) is))

  pub settled-as : (v w : PartitionView K V I) → w ≡ v → StaysSettled v w
  settled-as v w same = subst IsSettled (sym (ap (λ (u : PartitionView K V I). u.records.log.regions) same))

  -- where none waits, each page below that of SafeReadOnly is written
  pub none-written : (v : PartitionView K V I) → v.records.log.regions.bits ≡ v.records.log.bits → v.records.log.regions.flushed ≡ length v.records.log.receipts
      → length v.records.log.waiting ≡ page_at v.records.log.bits v.records.log.regions.offsets.safe_read_only - length v.records.log.receipts → v.records.log.waiting ≡ [] → IsWritten v
  none-written v bits flushed waiting none =
      let zero_is : length v.records.log.waiting ≡ 0 = ap length none in
      rw bits (omega (arith, flushed))

-- ---- the frame of the page behind the tail's is free
frozen-low : (frames tail : ℕ) → tail - (frames - 2) ≤ tail - (frames - 3 - frames / 8)
frozen-low frames tail = omega arith

page-least : (bits page a : ℕ) → start_at bits page ≤ a → page ≤ page_at bits a
page-least bits page a h = (le-div_iff_mul-le {k = 2 ^ bits} {x = page} {y = a} (pow_pos bits)).1 h

-- what is kept in frames is written
pub kept-written : {K V I : Type 0} (u : PartitionView K V I) (frames tail : ℕ) → IsSettled u.records.log.regions → start_at u.records.log.regions.bits (tail - (frames - 3 - frames / 8)) ≤ u.records.log.regions.offsets.read_only → IsWritten u → tail - (frames - 2) ≤ u.records.log.regions.flushed
kept-written u frames tail settled frozen written =
    let low : tail - (frames - 2) ≤ tail - (frames - 3 - frames / 8) = frozen-low frames tail in
    let safe : start_at u.records.log.regions.bits (tail - (frames - 3 - frames / 8)) ≤ u.records.log.regions.offsets.safe_read_only = subst (λ n. start_at u.records.log.regions.bits (tail - (frames - 3 - frames / 8)) ≤ n) (sym settled.safe) frozen in
    let page : tail - (frames - 3 - frames / 8) ≤ page_at u.records.log.regions.bits u.records.log.regions.offsets.safe_read_only = page-least u.records.log.regions.bits (tail - (frames - 3 - frames / 8)) u.records.log.regions.offsets.safe_read_only safe in
    omega arith

pub roomy : {K V I : Type 0} (w : PartitionView K V I) (frames tail : ℕ) → 0 < frames → w.records.log.regions.bits ≡ w.records.log.bits → w.records.log.frames ≡ frames → page_at w.records.log.bits w.records.log.tail ≡ tail → IsSettled w.records.log.regions
    → start_at w.records.log.regions.bits (tail - (frames - 2)) ≤ w.records.log.regions.offsets.head → IsFull w.records.log → ⊥
roomy w frames tail some bits count at settled evicted full =
    let page : tail - (frames - 2) ≤ page_at w.records.log.regions.bits w.records.log.regions.offsets.head = page-least w.records.log.regions.bits (tail - (frames - 2)) w.records.log.regions.offsets.head evicted in
    let closed : page_at w.records.log.bits w.records.log.regions.offsets.closed ≡ page_at w.records.log.regions.bits w.records.log.regions.offsets.head = ap (λ b. page_at b w.records.log.regions.offsets.closed) (sym bits) ∙ ap (page_at w.records.log.regions.bits) settled.closed in
    let taken : page_at w.records.log.bits w.records.log.regions.offsets.closed + w.records.log.frames ≤ page_at w.records.log.bits w.records.log.tail = full.taken in
    omega (arith, count, at)

-- pages moved on: `v` before, `u` once ReadOnly moved, `t` once pages are written, and `w` at the end
pub tidy-roomy : {K V I : Type 0} {keeps : Bool} (v u t w : PartitionView K V I) (frames tail frozen_page kept : ℕ)
    → 0 < frames → frames ≡ v.records.log.frames → tail ≡ page_at v.records.log.bits v.records.log.tail
    → frozen_page ≡ tail - (frames - 3 - frames / 8) → kept ≡ tail - (frames - 2) → v.records.log.regions.bits ≡ v.records.log.bits
    → (IsSettled v.records.log.regions → frozen_page ≤ page_at v.records.log.regions.bits v.records.log.tail → start_at v.records.log.regions.bits frozen_page ≤ u.records.log.regions.offsets.read_only)
    → StaysSettled v u → IsSameLog keeps v u → IsOnward v u
    → IsWritten t → StaysSettled u t → IsSameLog keeps u t → IsOnward u t → t.records.log.regions.offsets ≡ u.records.log.regions.offsets
    → (IsSettled t.records.log.regions → kept ≤ t.records.log.regions.flushed → start_at t.records.log.regions.bits kept ≤ w.records.log.regions.offsets.head)
    → StaysSettled t w → IsSameLog keeps t w → IsOnward t w
    → IsSettled v.records.log.regions → IsFull w.records.log → ⊥
tidy-roomy v u t w frames tail frozen_page kept some count at is_frozen is_kept bits frozen settles log on written settles_t log_t on_t offsets evicted settles_w log_w on_w settled full =
    let settled_t = settles_t (settles settled) in
    let bits_t : t.records.log.regions.bits ≡ v.records.log.regions.bits = on_t.bits ∙ on.bits in
    let here : page_at v.records.log.regions.bits v.records.log.tail ≡ tail = ap (λ b. page_at b v.records.log.tail) bits ∙ sym at in
    let low : frozen_page ≤ page_at v.records.log.regions.bits v.records.log.tail = omega (arith, is_frozen, here) in
    let first : start_at v.records.log.regions.bits frozen_page ≤ u.records.log.regions.offsets.read_only = frozen settled low in
    let moved : start_at t.records.log.regions.bits frozen_page ≤ t.records.log.regions.offsets.read_only = rw (bits_t, ap (λ (o : Offsets). o.read_only) offsets) first in
    let enough : tail - (frames - 2) ≤ t.records.log.regions.flushed = kept-written t frames tail settled_t (subst (λ n. start_at t.records.log.regions.bits n ≤ t.records.log.regions.offsets.read_only) is_frozen moved) written in
    let kept_low : kept ≤ t.records.log.regions.flushed = subst (λ n. n ≤ t.records.log.regions.flushed) (sym is_kept) enough in
    let raised : start_at t.records.log.regions.bits kept ≤ w.records.log.regions.offsets.head = evicted settled_t kept_low in
    let all = log-then log (log-then log_t log_w) in
    let bits_w : w.records.log.regions.bits ≡ w.records.log.bits = on_w.bits ∙ bits_t ∙ bits ∙ sym all.page_bits in
    let head : start_at w.records.log.regions.bits (tail - (frames - 2)) ≤ w.records.log.regions.offsets.head = rw on_w.bits (subst (λ n. start_at t.records.log.regions.bits n ≤ w.records.log.regions.offsets.head) is_kept raised) in
    let place : page_at w.records.log.bits w.records.log.tail ≡ tail = ap (λ b. page_at b w.records.log.tail) all.page_bits ∙ ap (page_at v.records.log.bits) all.tail ∙ sym at in
    roomy w frames tail some bits_w (all.frames ∙ sym count) place (settles_w settled_t) head full
