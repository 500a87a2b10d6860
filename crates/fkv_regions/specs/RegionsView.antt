-- What a contract sees of the regions, and what each call makes of them.
use Rattle.std.specs.Prelude.{ℕ, ◌<◌, ◌≤◌, List, length, replicate, slice_set}
use Rattle.fkv_records.specs.Places.{page_at, start_at}
use Rattle.fkv_epoch.specs.declared.actions.Action.TheVariants.{Safe, Closed}
use Rattle.fkv_epoch.specs.EpochState.{EpochState}
use Rattle.fkv_epoch.specs.Due.{due, settled, actions_of}
use Rattle.fkv_epoch.specs.Moves.{fresh, renewed, vacated, bumped}
use Rattle.fkv_regions.specs.declared.offsets.Offsets.{Offsets}
use Rattle.fkv_regions.specs.declared.offsets.View.{View}
use Rattle.fkv_regions.specs.Offsets.{view_of, ran_all}

-- pages of 2 ^ bits bytes; the lowest page that is not flushed; the offsets; the epochs; and each slot's last view
pub record RegionsView : Type 0 where
  pub bits : ℕ
  pub flushed : ℕ
  pub offsets : Offsets
  pub epochs : EpochState
  pub views : List View

-- no session, and no record
abbrev pub fresh_regions : ℕ → RegionsView
fresh_regions bits = record {
  bits = bits;
  flushed = 0;
  offsets = record { closed = 64; head = 64; safe_read_only = 64; read_only = 64 };
  epochs = fresh;
  views = replicate 16 (record { head = 64; safe_read_only = 64; read_only = 64 });
}

-- the session at a slot has the view of now
abbrev pub with_view : RegionsView → ℕ → RegionsView
with_view s slot = record s { views = slice_set s.views slot (view_of s.offsets) }

-- what is due has come out, and is run
abbrev pub drained : RegionsView → RegionsView
drained s = record s { offsets = ran_all s.offsets (actions_of (due s.epochs)); epochs = settled s.epochs }

-- a session enters at a slot: nothing is run
abbrev pub entered : RegionsView → ℕ → RegionsView
entered s slot = with_view (record s { epochs = renewed s.epochs slot }) slot

-- the session at a slot gets the current epoch, what is due is run, and then it gets the view of now
abbrev pub refreshed : RegionsView → ℕ → RegionsView
refreshed s slot = with_view (drained (record s { epochs = renewed s.epochs slot })) slot

-- the session at a slot leaves, and what is due is run
abbrev pub left : RegionsView → ℕ → RegionsView
left s slot = drained (record s { epochs = vacated s.epochs slot })

-- ReadOnly moves up, and what is due is run: SafeReadOnly follows once the epoch of the move is safe
abbrev pub with_read_only : RegionsView → ℕ → RegionsView
with_read_only s a = drained (record s {
  offsets = record s.offsets { read_only = a };
  epochs = bumped s.epochs (Safe a);
})

-- Head moves up, and what is due is run: `closed` follows
abbrev pub with_head : RegionsView → ℕ → RegionsView
with_head s a = drained (record s {
  offsets = record s.offsets { head = a };
  epochs = bumped s.epochs (Closed a);
})

-- more pages are flushed
abbrev pub with_flushed : RegionsView → ℕ → RegionsView
with_flushed s page = record s { flushed = page }

-- when ReadOnly may move to a page's start in a log with this tail, and when Head may
pub record IsReadOnlyDue (s : RegionsView) (page tail : ℕ) : Type 0 where
  pub higher : s.offsets.read_only < start_at s.bits page
  pub begun : page ≤ page_at s.bits tail

pub record IsHeadDue (s : RegionsView) (page : ℕ) : Type 0 where
  pub higher : s.offsets.head < start_at s.bits page
  pub flushed : page ≤ s.flushed

-- when all pages below one may be flushed: they are frozen, and no fewer than were flushed before
pub record IsFlushDue (s : RegionsView) (page : ℕ) : Type 0 where
  pub higher : s.flushed ≤ page
  pub frozen : page ≤ page_at s.bits s.offsets.safe_read_only

-- one more action may wait
abbrev pub IsRoomy : RegionsView → Type 0
IsRoomy s = length s.epochs.waiting < 16
