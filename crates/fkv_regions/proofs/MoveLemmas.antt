-- What each call makes of the regions.
use Rattle.std.proofs.Common.{◌≡◌, ◌+◌, ◌*◌, ◌/◌, ◌%◌, ◌^◌, ◌<◌, ◌≤◌, inl, inr, ℕ, zero, suc, true, Option, Some, None, refl, subst, arith, length}
use Rattle.std.specs.Prelude.{slice_get, IsTrue, is_some, Ok}
use Rattle.std.proofs.lemmas.Nat.{pow_pos, div-add-mod'}
use Rattle.std.proofs.lemmas.Option.{slice_get_within}
use Rattle.std.specs.Option.{ok_or, option_flatten}
use Rattle.std.proofs.Math.Nat.{le-div_iff_mul-le, div-mul-le_self}
use Rattle.fkv_records.specs.Places.{page_at, start_at, IsShape, IsRecordStart, first}
use Rattle.fkv_records.proofs.PlaceLemmas.{start_place}
use Rattle.fkv_epoch.specs.declared.actions.Action.TheVariants.{Safe, Closed}
use Rattle.fkv_epoch.specs.EpochState.{EpochState}
use Rattle.fkv_epoch.specs.Due.{due}
use Rattle.fkv_epoch.specs.Moves.{free_slot, is_entered, renewed, vacated, bumped}
use Rattle.fkv_epoch.specs.Timely.{IsOrdered}
use Rattle.fkv_epoch.proofs.TimelyLemmas.{free-is-none, ordered-renewed, ordered-vacated, ordered-bumped}
use Rattle.fkv_functions.specs.declared.refusals.Refused.TheVariants.{NoSlot}
use Rattle.fkv_regions.specs.RegionsView.{RegionsView, entered, refreshed, left, with_read_only, with_head, IsReadOnlyDue, IsHeadDue}
use Rattle.fkv_regions.specs.Agree.{IsMark, IsRegions, IsMoved}
use Rattle.fkv_regions.proofs.OffsetLemmas.{read_only-ran, start-below, start-mark}
use Rattle.fkv_regions.proofs.RegionLemmas.{regions-entered, regions-refreshed, regions-left, regions-read_only, regions-head}

-- the slot of a session is one of sixteen
pub free-fits : (s : EpochState) (slot : ℕ) → IsOrdered s → Ok slot ≡ ok_or (free_slot s) NoSlot → slot < 16
free-fits s slot o h =
    let fits = (free-is-none s slot (found (free_slot s) slot h)).0 in
    let sixteen : length s.slots ≡ 16 = o.slots in
    omega arith
  where
    found : (f : Option ℕ) (slot : ℕ) → Ok slot ≡ ok_or f NoSlot → f ≡ Some slot
    found None slot e = absurd (cc)
    found (Some x) slot e = cc

pub entered-at : (s : EpochState) (slot : ℕ) → IsTrue (is_entered s slot) → (e : ℕ) × (slice_get s.slots slot ≡ Some (Some e))
entered-at s slot h = by (slice_get s.slots slot) h
  where
    by : (o : Option (Option ℕ)) → is_some (option_flatten o) ≡ true → (e : ℕ) × (o ≡ Some (Some e))
    by None h = absurd (cc)
    by (Some None) h = absurd (cc)
    by (Some (Some e)) h = (e, refl)

pub entered-fits : (s : EpochState) (slot : ℕ) → IsOrdered s → IsTrue (is_entered s slot) → slot < 16
entered-fits s slot o h =
    let at = entered-at s slot h in
    let fits = slice_get_within s.slots slot (Some at.0) at.1 in
    let sixteen : length s.slots ≡ 16 = o.slots in
    omega arith

-- what each call does
pub moved-entered : (s : RegionsView) (slot : ℕ) → slot < 16 → IsRegions s → IsMoved s (entered s slot) s.offsets.read_only
moved-entered s slot fits h = record {
  bits = refl;
  flushed = refl;
  raised = record { closed = omega arith; head = omega arith; safe = omega arith; read_only = omega arith };
  most = omega arith;
  regions = regions-entered s slot fits h;
}

pub moved-refreshed : (s : RegionsView) (slot : ℕ) → slot < 16 → IsOrdered s.epochs → IsRegions s → IsMoved s (refreshed s slot) s.offsets.read_only
moved-refreshed s slot fits o h =
    let r = regions-refreshed s slot fits (ordered-renewed s.epochs slot o) h in
    record { bits = refl; flushed = refl; raised = r.1; most = omega (arith, read_only-ran s.offsets (due (renewed s.epochs slot))); regions = r.0 }

pub moved-left : (s : RegionsView) (slot : ℕ) → IsOrdered s.epochs → IsRegions s → IsMoved s (left s slot) s.offsets.read_only
moved-left s slot o h =
    let r = regions-left s slot (ordered-vacated s.epochs slot o) h in
    record { bits = refl; flushed = refl; raised = r.1; most = omega (arith, read_only-ran s.offsets (due (vacated s.epochs slot))); regions = r.0 }

pub moved-read_only : (s : RegionsView) (page tail : ℕ) → tail ≤ 2 ^ 48 → IsOrdered s.epochs → length s.epochs.waiting < 16 → IsReadOnlyDue s page tail → IsRegions s
    → IsMoved s (with_read_only s (start_at s.bits page)) tail
moved-read_only s page tail top o room d h =
    let low : start_at s.bits page ≤ tail = start-below s.bits page tail d.begun in
    let start = start_at s.bits page in
    let r = regions-read_only s (start_at s.bits page) o (ordered-bumped s.epochs (Safe (start_at s.bits page)) o room) d.higher (omega arith) (start-mark s.bits page) h in
    record {
      bits = refl;
      flushed = refl;
      raised = r.1;
      most = omega (arith, low, read_only-ran (record s.offsets { read_only = start_at s.bits page }) (due (bumped s.epochs (Safe (start_at s.bits page)))));
      regions = r.0;
    }

pub moved-head : (s : RegionsView) (page : ℕ) → IsOrdered s.epochs → length s.epochs.waiting < 16 → IsHeadDue s page → IsRegions s
    → IsMoved s (with_head s (start_at s.bits page)) s.offsets.read_only
moved-head s page o room d h =
    let r = regions-head s page o (ordered-bumped s.epochs (Closed (start_at s.bits page)) o room) d h in
    record {
      bits = refl;
      flushed = refl;
      raised = r.1;
      most = omega (arith, read_only-ran (record s.offsets { head = start_at s.bits page }) (due (bumped s.epochs (Closed (start_at s.bits page)))));
      regions = r.0;
    }

-- an offset of a log is a place, and what is closed is flushed
pub mark-place : (bits size a : ℕ) → IsShape bits size → IsMark bits a → 64 ≤ a → a < 2 ^ 48 → IsRecordStart bits size a
mark-place bits size a s (inl e) low below = rw e first
mark-place bits size a s (inr e) low below =
    let parts : a / 2 ^ bits * 2 ^ bits + a % 2 ^ bits ≡ a = div-add-mod' a (2 ^ bits) in
    let whole : a / 2 ^ bits * 2 ^ bits ≡ a = omega (arith, parts, e) in
    subst (λ (x : ℕ). IsRecordStart bits size x) whole (start_place bits size s (a / 2 ^ bits) (some (a / 2 ^ bits) whole) (rw whole below))
  where
    some : (n : ℕ) → n * 2 ^ bits ≡ a → 1 ≤ n
    some zero e = absurd (omega arith)
    some (suc n) e = omega arith

pub closed-flushed : (s : RegionsView) → IsRegions s → page_at s.bits s.offsets.closed ≤ s.flushed
closed-flushed s h =
    let o = h.in_order in
    let le : s.offsets.closed ≤ s.offsets.head = o.closed in
    let up : page_at s.bits s.offsets.closed ≤ page_at s.bits s.offsets.head =
    (le-div_iff_mul-le {k = 2 ^ s.bits} {x = page_at s.bits s.offsets.closed} {y = s.offsets.head} (pow_pos s.bits)).1
    (let down = div-mul-le_self s.offsets.closed (2 ^ s.bits) in omega arith) in
    let f : page_at s.bits s.offsets.head ≤ s.flushed = o.flushed_low in
    omega arith
