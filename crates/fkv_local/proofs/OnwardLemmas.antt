-- Pages keep their size, and neither Head nor what is cleared falls; so what had left memory is given back.
use Rattle.std.proofs.Common.{◌≡◌, ◌<◌, ◌≤◌, ◌^◌, Bool, ℕ, List, Some, None, Result, Ok, Err, OnOk, OnErr, IfOk, IfErr, inl, inr, ◌⊎◌, min, refl, sym, ◌∙◌, ap, subst, arith}
use Rattle.std.proofs.Math.Nat.{le-div_iff_mul-le, le-min, min-le_left, min-le_right}
use Rattle.std.proofs.lemmas.Bool.{cases_lt}
use Rattle.std.proofs.lemmas.Nat.{pow_pos}
use Rattle.std.specs.declared.cmp.Ordering.{Ordering}
use Rattle.fkv_functions.specs.declared.refusals.Refused.{Refused}
use Rattle.fkv_records.specs.Places.{page_at, start_at}
use Rattle.fkv_device.specs.Standing.{Standing}
use Rattle.fkv_regions.specs.RegionsView.{RegionsView, refreshed, with_read_only, with_head, IsHeadDue}
use Rattle.fkv_epoch.specs.Due.{due}
use Rattle.fkv_epoch.specs.declared.actions.Action.TheVariants.{Safe, Closed}
use Rattle.fkv_epoch.specs.Moves.{renewed, bumped}
use Rattle.fkv_regions.proofs.OffsetLemmas.{head-ran, start-below, starts-rise}
use Rattle.fkv_lookups.specs.RecordsViews.{RecordsView}
use Rattle.fkv_partition.specs.Views.{PartitionView, MovesTo, at_moment, relocation_at}
use Rattle.fkv_partition.specs.Moves as looking
use Rattle.fkv_partition.specs.Flushing as flushing
use Rattle.fkv_partition.specs.Effect.{IsGiveUp, IsTruncation}
use Rattle.fkv_partition.specs.Beginning.{Drops}
use Rattle.fkv_partition.specs.Events.{Refreshes, Shifts, Evicts, Flushes, GivesUp, IsPassedOn}
use Rattle.fkv_partition.specs.Relocating.{IsRelocating}
use Rattle.fkv_partition.specs.Truncating.{IsDue, Truncates}
use Rattle.fkv_partition.specs.declared.relocations.Relocation.{Relocation}
use Rattle.fkv_local.specs.Clearing.{IsAllCut, IsGivenBack}
use Rattle.fkv_local.specs.Moving.{IsOnward}

-- ---- the regions of a log move on
record IsHigher (old new : RegionsView) : Type 0 where
  bits : new.bits ≡ old.bits
  head : old.offsets.head ≤ new.offsets.head

no-lower : (s : RegionsView) → IsHigher s s
no-lower s = record { bits = refl; head = omega arith }

by-head : (old new : RegionsView) → new.bits ≡ old.bits → new.offsets.head ≡ old.offsets.head → IsHigher old new
by-head old new bits head = record { bits = bits; head = omega arith }

refresh-higher : (s : RegionsView) (slot : ℕ) → IsHigher s (refreshed s slot)
refresh-higher s slot = by-head s (refreshed s slot) refl (head-ran s.offsets (due (renewed s.epochs slot)))

freeze-higher : (s : RegionsView) (a : ℕ) → IsHigher s (with_read_only s a)
freeze-higher s a = by-head s (with_read_only s a) refl (head-ran (record s.offsets { read_only = a }) (due (bumped s.epochs (Safe a))))

evict-higher : (s : RegionsView) (page : ℕ) → IsHeadDue s page → IsHigher s (with_head s (start_at s.bits page))
evict-higher s page due_is = record {
  bits = refl;
  head = (let is : (with_head s (start_at s.bits page)).offsets.head ≡ start_at s.bits page = head-ran (record s.offsets { head = start_at s.bits page }) (due (bumped s.epochs (Closed (start_at s.bits page)))) in
      let higher : s.offsets.head < start_at s.bits page = due_is.higher in
      omega arith);
}

module _ {K V I : Type 0} where
  same-higher : {v w : PartitionView K V I} → w ≡ v → IsHigher v.records.log.regions w.records.log.regions
  same-higher {v} {w} same = subst (λ (u : PartitionView K V I). IsHigher v.records.log.regions u.records.log.regions) (sym same) (no-lower v.records.log.regions)

module _ {K V I : Type 0} {keeps : Bool} where
  moves-higher : {regions : RegionsView} {v w : PartitionView K V I} {now : ℕ} → MovesTo keeps regions v w now → IsHigher v.records.log.regions regions → IsHigher v.records.log.regions w.records.log.regions
  moves-higher {regions} {v} {w} m h = subst (IsHigher v.records.log.regions) (sym (ap (λ (r : RecordsView K V). r.log.regions) m.moves.is)) h

  core-refreshes : {v w : PartitionView K V I} {slot now : ℕ} {r : Result _ Refused} → looking.Refreshes keeps v w slot now r → IsHigher v.records.log.regions w.records.log.regions
  core-refreshes (looking.Refreshes.unknown a same t) = same-higher same
  core-refreshes {v = v} {slot = slot} (looking.Refreshes.refreshes a m t) = moves-higher m (refresh-higher v.records.log.regions slot)

  core-shifts : {v w : PartitionView K V I} {page now : ℕ} {r : Result _ Refused} → looking.Shifts keeps v w page now r → IsHigher v.records.log.regions w.records.log.regions
  core-shifts (looking.Shifts.not_due a same t) = same-higher same
  core-shifts (looking.Shifts.full a b same t) = same-higher same
  core-shifts {v} {w} {page} (looking.Shifts.shifts a b m t) = moves-higher m (freeze-higher v.records.log.regions (start_at v.records.log.regions.bits page))

  core-evicts : {v w : PartitionView K V I} {page now : ℕ} {r : Result _ Refused} → looking.Evicts keeps v w page now r → IsHigher v.records.log.regions w.records.log.regions
  core-evicts (looking.Evicts.not_due a same t) = same-higher same
  core-evicts (looking.Evicts.full a b same t) = same-higher same
  core-evicts {v} {w} {page} (looking.Evicts.evicts a b m t) = moves-higher m (evict-higher v.records.log.regions page a)

module _ {K V I : Type 0} where
  core-flushes : {v w : PartitionView K V I} {s : Standing} {bytes : List ℕ} {now : ℕ} {r : Result _ Refused} → flushing.Flushes v w s bytes now r → IsHigher v.records.log.regions w.records.log.regions
  core-flushes (flushing.Flushes.refused why a same t) = same-higher same
  core-flushes (flushing.Flushes.unkept a same t) = same-higher same
  core-flushes {v} {w} (flushing.Flushes.keeps a is t) = by-head v.records.log.regions w.records.log.regions (ap (λ (u : PartitionView K V I). u.records.log.regions.bits) is) (ap (λ (u : PartitionView K V I). u.records.log.regions.offsets.head) is)

  -- ---- and so does a partition
  onward-by : {v w : PartitionView K V I} → IsHigher v.records.log.regions w.records.log.regions → v.cleared ≤ w.cleared → IsOnward v w
  onward-by h rises = record { bits = h.bits; head = h.head; cleared = rises }

  onward-passed : {v w : PartitionView K V I} → IsHigher v.records.log.regions w.records.log.regions → IsPassedOn v w → IsOnward v w
  onward-passed {v} {w} h rest = onward-by h (let same : w.cleared ≡ v.cleared = rest.cleared in omega arith)

  pub onward-same : {v : PartitionView K V I} → IsOnward v v
  onward-same {v} = onward-by (no-lower v.records.log.regions) (omega arith)

  pub onward-as : {v w : PartitionView K V I} → w ≡ v → IsOnward v w
  onward-as {v} {w} same = subst (IsOnward v) (sym same) onward-same

  pub onward-then : {u v w : PartitionView K V I} → IsOnward u v → IsOnward v w → IsOnward u w
  onward-then {u} {v} {w} s t = record {
    bits = t.bits ∙ s.bits;
    head = (let first : u.records.log.regions.offsets.head ≤ v.records.log.regions.offsets.head = s.head in
        let then : v.records.log.regions.offsets.head ≤ w.records.log.regions.offsets.head = t.head in
        omega arith);
    cleared = (let first : u.cleared ≤ v.cleared = s.cleared in let then : v.cleared ≤ w.cleared = t.cleared in omega arith);
  }

  -- by regions that are the same
  pub onward-still : {v w : PartitionView K V I} → w.records.log.regions ≡ v.records.log.regions → v.cleared ≤ w.cleared → IsOnward v w
  onward-still {v} {w} same rises = onward-by (subst (IsHigher v.records.log.regions) (sym same) (no-lower v.records.log.regions)) rises

  pub onward-cleared : {v w : PartitionView K V I} → w.records.log.regions ≡ v.records.log.regions → w.cleared ≡ v.cleared → IsOnward v w
  onward-cleared {v} {w} same cleared = onward-still same (omega arith)

module _ {K V I : Type 0} {keeps : Bool} where
  pub refresh-onward : {v w : PartitionView K V I} {slot now : ℕ} {r : Result _ Refused} → Refreshes keeps v w slot now r → IsOnward v w
  refresh-onward h = onward-passed (core-refreshes h.does) h.rest

  pub shift-onward : {v w : PartitionView K V I} {page now : ℕ} {r : Result _ Refused} → Shifts keeps v w page now r → IsOnward v w
  shift-onward h = onward-passed (core-shifts h.does) h.rest

  pub evict-onward : {v w : PartitionView K V I} {page now : ℕ} {r : Result _ Refused} → Evicts keeps v w page now r → IsOnward v w
  evict-onward h = onward-passed (core-evicts h.does) h.rest

-- the start of a page that is no higher than an address is no higher than the start of the address's page
start-most : (bits page a : ℕ) → start_at bits page ≤ a → start_at bits page ≤ start_at bits (page_at bits a)
start-most bits page a low = starts-rise bits page (page_at bits a) ((le-div_iff_mul-le {k = 2 ^ bits} {x = page} {y = a} (pow_pos bits)).1 low)

module _ {K V I : Type 0} where
  pub flush-onward : {v w : PartitionView K V I} {s : Standing} {bytes : List ℕ} {now : ℕ} {r : Result _ Refused} → Flushes v w s bytes now r → IsOnward v w
  flush-onward h = onward-passed (core-flushes h.does) h.rest

  pub take-onward : {v w : PartitionView K V I} {now : ℕ} → w ≡ at_moment v now → IsOnward v w
  take-onward {v} {w} {now} is = onward-cleared (ap (λ (u : PartitionView K V I). u.records.log.regions) is) (ap (λ (u : PartitionView K V I). u.cleared) is)

  -- ---- relocations
  pub relocating-onward : {keeps : Bool} {cmp : K → K → Ordering} {v w : PartitionView K V I} {slot c now : ℕ} → IsRelocating keeps cmp v w slot c now → IsOnward v w
  relocating-onward r = onward-still r.regions r.rises

  pub given-up_onward : {v w : PartitionView K V I} {slot c now : ℕ} → IsGiveUp v w slot c now → IsOnward v w
  given-up_onward h = onward-cleared h.frame.regions h.cleared

  pub go-onward : {A : Type 0} (keeps : Bool) (cmp : K → K → Ordering) {v w : PartitionView K V I} (c now : ℕ) (r : Result A Refused) → IfOk r (λ _. IsRelocating keeps cmp v w 0 c now) → OnErr r (w ≡ v) → IsOnward v w
  go-onward keeps cmp c now (Ok a) ok err = relocating-onward ok
  go-onward keeps cmp c now (Err e) ok err = onward-as err

  pub load-onward : {A : Type 0} (keeps : Bool) (cmp : K → K → Ordering) {v w : PartitionView K V I} (c now : ℕ) (r : Result A Refused) → IfOk r (λ _. IsRelocating keeps cmp v w 0 c now) → IfErr r (λ _. (w ≡ v) ⊎ IsGiveUp v w 0 c now) → IsOnward v w
  load-onward keeps cmp c now (Ok a) ok err = relocating-onward ok
  load-onward keeps cmp c now (Err e) ok (inl same) = onward-as same
  load-onward keeps cmp c now (Err e) ok (inr h) = given-up_onward h

  -- ---- it is given up
  pub drop-onward : (v w : PartitionView K V I) (c now : ℕ) (x : Relocation K V) (r : Result (Unit {0}) Refused) → relocation_at v 0 c ≡ Some x → GivesUp v w 0 c now r → OnOk r (IsGiveUp v w 0 c now) → IsOnward v w
  drop-onward v w c now x (Ok y) here g event = given-up_onward event
  drop-onward v w c now x (Err e) here (GivesUp.on_key none d p) event = let bad : None ≡ Some x = sym none ∙ here in absurd (cc)
  drop-onward v w c now x (Err e) here (GivesUp.relocation z h (Drops.unknown n s q)) event = let bad : None ≡ Some x = sym n ∙ here in absurd (cc)
  drop-onward v w c now x (Err e) here (GivesUp.relocation z h (Drops.drops y n s q)) event = absurd (cc)

  -- ---- the start of a log is cut
  pub cut-onward : {keeps : Bool} {cmp : K → K → Ordering} {v w : PartitionView K V I} {page now : ℕ} → IsTruncation keeps cmp v w page now → IsOnward v w
  cut-onward t = onward-cleared t.regions t.cleared

  -- where the log is cut at the page of what is cleared and left memory
  abbrev pub end-of : PartitionView K V I → ℕ
  end-of v = min v.cleared v.records.log.regions.offsets.head

  cleared-low : (v : PartitionView K V I) → end-of v ≤ v.cleared
  cleared-low v = min-le_left v.cleared v.records.log.regions.offsets.head

  head-low : (v : PartitionView K V I) → end-of v ≤ v.records.log.regions.offsets.head
  head-low v = min-le_right v.cleared v.records.log.regions.offsets.head

  least : (v : PartitionView K V I) (n : ℕ) → n ≤ v.cleared → n ≤ v.records.log.regions.offsets.head → n ≤ end-of v
  least v n p q = le-min p q

  due-there : (v : PartitionView K V I) (page : ℕ) → IsDue v page → IsDue v (page_at v.records.log.bits (end-of v))
  due-there v page d =
      let bits = v.records.log.bits in
      let low : start_at bits page ≤ end-of v = least v (start_at bits page) d.cleared d.due.headed in
      let at_cleared : end-of v ≤ v.cleared = cleared-low v in
      let at_head : end-of v ≤ v.records.log.regions.offsets.head = head-low v in
      let most : start_at bits page ≤ start_at bits (page_at bits (end-of v)) = start-most bits page (end-of v) low in
      let below : start_at bits (page_at bits (end-of v)) ≤ end-of v = start-below bits (page_at bits (end-of v)) (end-of v) (omega arith) in
      let higher : v.records.log.begin < start_at bits page = d.due.higher in
      record {
        due = record { higher = omega arith; headed = omega arith };
        cleared = omega arith;
      }

  pub all-cut_then : {keeps : Bool} {v w : PartitionView K V I} {now : ℕ} {r : Result _ Refused} → Truncates keeps v w (page_at v.records.log.bits (end-of v)) now r → IsAllCut w
  all-cut_then {keeps} {v} {w} (Truncates.not_due undue same t) = subst IsAllCut (sym same) (λ page d. undue (due-there v page d))
  all-cut_then {keeps} {v} {w} (Truncates.truncates due_is is t) = λ page d.
      let bits = v.records.log.bits in
      let same_bits : w.records.log.bits ≡ bits = ap (λ (u : PartitionView K V I). u.records.log.bits) is in
      let begin : w.records.log.begin ≡ start_at bits (page_at bits (end-of v)) = ap (λ (u : PartitionView K V I). u.records.log.begin) is in
      let head : w.records.log.regions.offsets.head ≡ v.records.log.regions.offsets.head = ap (λ (u : PartitionView K V I). u.records.log.regions.offsets.head) is in
      let cleared : w.cleared ≡ v.cleared = ap (λ (u : PartitionView K V I). u.cleared) is in
      let headed : start_at bits page ≤ w.records.log.regions.offsets.head = subst (λ b. start_at b page ≤ w.records.log.regions.offsets.head) same_bits d.due.headed in
      let below : start_at bits page ≤ w.cleared = subst (λ b. start_at b page ≤ w.cleared) same_bits d.cleared in
      let higher : w.records.log.begin < start_at bits page = subst (λ b. w.records.log.begin < start_at b page) same_bits d.due.higher in
      let low : start_at bits page ≤ end-of v = least v (start_at bits page) (subst (λ n. start_at bits page ≤ n) cleared below) (subst (λ n. start_at bits page ≤ n) head headed) in
      let most : start_at bits page ≤ start_at bits (page_at bits (end-of v)) = start-most bits page (end-of v) low in
      absurd (omega arith)

  -- what had left memory when a compaction began is dropped, where all below its end was cleared and cut
  pub given-back : (v u w : PartitionView K V I) (end come : ℕ) → v.records.log.regions.bits ≡ v.records.log.bits → w.records.log.regions.bits ≡ w.records.log.bits
      → IsOnward v u → end ≡ u.records.log.regions.offsets.head → IsOnward u w → end ≤ come → come ≤ w.cleared → IsAllCut w → IsGivenBack v w
  given-back v u w end come at_v at_w first is second cleared rises all =
      let bits = v.records.log.bits in
      let same : w.records.log.bits ≡ bits = sym at_w ∙ second.bits ∙ first.bits ∙ at_v in
      let start = start_at bits (page_at bits v.records.log.regions.offsets.head) in
      let below : start ≤ v.records.log.regions.offsets.head = start-below bits (page_at bits v.records.log.regions.offsets.head) v.records.log.regions.offsets.head (omega arith) in
      let up : v.records.log.regions.offsets.head ≤ u.records.log.regions.offsets.head = first.head in
      let more : u.records.log.regions.offsets.head ≤ w.records.log.regions.offsets.head = second.head in
      by start (page_at bits v.records.log.regions.offsets.head) same refl (omega arith) (omega arith)
    where
      by : (start page : ℕ) → w.records.log.bits ≡ v.records.log.bits → start ≡ start_at v.records.log.bits page → start ≤ w.records.log.regions.offsets.head → start ≤ w.cleared → start ≤ w.records.log.begin
      by start page same is headed low = elim (cases_lt w.records.log.begin start) [
        | inr le ↦ le
        | inl lt ↦ absurd (all page (record {
          due = record { higher = rw same (subst (λ n. w.records.log.begin < n) is lt); headed = rw same (subst (λ n. n ≤ w.records.log.regions.offsets.head) is headed) };
          cleared = rw same (subst (λ n. n ≤ w.cleared) is low);
        }))
      ]

  -- where it was cut at a page that is said otherwise
  pub all-cut_at : {keeps : Bool} {v w : PartitionView K V I} {now : ℕ} {r : Result _ Refused} (page end cleared head : ℕ) → page ≡ page_at v.records.log.bits end → end ≡ min cleared head → cleared ≡ v.cleared → head ≡ v.records.log.regions.offsets.head
      → Truncates keeps v w page now r → IsAllCut w
  all-cut_at {keeps} {v} {w} {now} {r} page end cleared head at least_is is_cleared is_head h =
      all-cut_then {keeps = keeps} {v = v} {w = w} {now = now} {r = r} (subst (λ p. Truncates keeps v w p now r) (at ∙ ap (page_at v.records.log.bits) (least_is ∙ ap (λ n. min n head) is_cleared ∙ ap (min v.cleared) is_head)) h)
