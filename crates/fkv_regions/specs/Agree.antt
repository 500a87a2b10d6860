-- What holds of the regions at any time.
use Rattle.std.specs.Prelude.{◌≡◌, ◌+◌, ◌^◌, ◌<◌, ◌≤◌, ◌⊎◌, ℕ, List, [], ◌∷◌, Option, Some, length, slice_get}
use Rattle.fkv_records.specs.Places.{page_at, offset_at, start_at}
use Rattle.fkv_epoch.specs.declared.actions.Action.{Action}
use Rattle.fkv_epoch.specs.declared.actions.Action.TheVariants.{Safe, Closed}
use Rattle.fkv_epoch.specs.declared.actions.Waiting.{Waiting}
use Rattle.fkv_epoch.specs.Seen.{Agrees}
use Rattle.fkv_regions.specs.declared.offsets.Offsets.{Offsets}
use Rattle.fkv_regions.specs.declared.offsets.View.{View}
use Rattle.fkv_regions.specs.declared.offsets.Region.TheVariants.{OnDisk, ReadOnly, Mutable}
use Rattle.fkv_regions.specs.Offsets.{ran, view_at, seen, region_of}
use Rattle.fkv_regions.specs.RegionsView.{RegionsView}

-- an offset is that of the first record, or starts a page
abbrev pub IsMark : ℕ → ℕ → Type 0
IsMark bits a = (a ≡ 64) ⊎ (offset_at bits a ≡ 0)

-- the offsets rise, and are marks; what is on disk is flushed, and what is flushed is frozen
pub record IsInOrder (bits flushed : ℕ) (o : Offsets) : Type 0 where
  pub first : 64 ≤ o.closed
  pub closed : o.closed ≤ o.head
  pub head : o.head ≤ o.safe_read_only
  pub safe : o.safe_read_only ≤ o.read_only
  pub most : o.read_only ≤ 2 ^ 48
  pub flushed_low : page_at bits o.head ≤ flushed
  pub flushed_high : start_at bits flushed ≤ o.safe_read_only
  pub closed_mark : IsMark bits o.closed
  pub head_mark : IsMark bits o.head
  pub safe_mark : IsMark bits o.safe_read_only
  pub read_only_mark : IsMark bits o.read_only

-- no view is ahead of what is safe, and what is safe is ahead of no view: SafeReadOnly waits for every ReadOnly view,
-- and `closed` for every Head view
pub record ViewAgrees (o : Offsets) (v : View) : Type 0 where
  pub mutable : o.safe_read_only ≤ v.read_only
  pub safe : v.safe_read_only ≤ o.safe_read_only
  pub closed : o.closed ≤ v.head
  pub head : v.head ≤ o.head

-- the view of every entered session agrees
pub record ViewsAgree (o : Offsets) (slots : List (Option ℕ)) (views : List View) : Type 0 where
  pub each : (slot e : ℕ) → slice_get slots slot ≡ Some (Some e) → ViewAgrees o (view_at views slot)

-- an action moves its offset up to a mark, and not past where it may go
abbrev pub IsAhead : ℕ → Offsets → Action → Type 0
IsAhead bits o (Safe a) = (o.safe_read_only ≤ a) × (a ≤ o.read_only) × IsMark bits a
IsAhead bits o (Closed a) = (o.closed ≤ a) × (a ≤ o.head) × IsMark bits a

-- so does each in turn
abbrev pub AreAhead : ℕ → Offsets → List Waiting → Type 0
AreAhead bits o [] = Unit {0}
AreAhead bits o (w ∷ ws) = IsAhead bits o w.action × AreAhead bits (ran o w.action) ws

-- all that holds at any time
pub record IsRegions (s : RegionsView) : Type 0 where
  pub in_order : IsInOrder s.bits s.flushed s.offsets
  pub ahead : AreAhead s.bits s.offsets s.epochs.waiting
  pub agree : ViewsAgree s.offsets s.epochs.slots s.views
  -- a session whose epoch is greater than that of a waiting action has it in its view
  pub waits : Agrees (seen s.views) s.epochs
  -- each bump moves an offset up, so there are few epochs
  pub few : s.epochs.epoch ≤ s.offsets.head + s.offsets.read_only
  pub sixteen : length s.views ≡ 16

-- no offset falls
pub record IsRaised (old new : Offsets) : Type 0 where
  pub closed : old.closed ≤ new.closed
  pub head : old.head ≤ new.head
  pub safe : old.safe_read_only ≤ new.safe_read_only
  pub read_only : old.read_only ≤ new.read_only

-- what any call of a session, and any shift, does, refused or not: no offset falls, none passes an end, and the flushed
-- pages are as they were
pub record IsMoved (old new : RegionsView) (end : ℕ) : Type 0 where
  pub bits : new.bits ≡ old.bits
  pub flushed : new.flushed ≡ old.flushed
  pub raised : IsRaised old.offsets new.offsets
  pub most : new.offsets.read_only ≤ end
  pub regions : IsRegions new

-- what a region by the view of an entered session says of the offsets of now, however old the view
pub record IsByRegion : Type 0 where
  -- what is mutable is not frozen
  pub mutable : (s : RegionsView) (slot e a : ℕ)
      → IsRegions s
      → slice_get s.epochs.slots slot ≡ Some (Some e)
      → region_of (view_at s.views slot) a ≡ Mutable
      → s.offsets.safe_read_only ≤ a
  -- what is read-only, or on disk, is frozen
  pub frozen : (s : RegionsView) (slot e a : ℕ)
      → IsRegions s
      → slice_get s.epochs.slots slot ≡ Some (Some e)
      → (region_of (view_at s.views slot) a ≡ ReadOnly) ⊎ (region_of (view_at s.views slot) a ≡ OnDisk)
      → a < s.offsets.safe_read_only
  -- what is not on disk is not closed
  pub open_page : (s : RegionsView) (slot e a : ℕ)
      → IsRegions s
      → slice_get s.epochs.slots slot ≡ Some (Some e)
      → (region_of (view_at s.views slot) a ≡ OnDisk → ⊥)
      → s.offsets.closed ≤ a
