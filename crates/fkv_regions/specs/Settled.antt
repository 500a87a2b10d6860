-- One session that has seen all.
use Rattle.std.specs.Prelude.{◌≡◌, ℕ, List, [], Some, slice_get}
use Rattle.fkv_regions.specs.Offsets.{view_of, view_at}
use Rattle.fkv_regions.specs.RegionsView.{RegionsView}

-- The session at slot 0 is the only one, and has seen all: no move of an offset waits, so what is read only is frozen and what is
-- below Head is closed; and its view is that of now.
pub record IsSettled (s : RegionsView) : Type 0 where
  pub alone : (slot e : ℕ) → slice_get s.epochs.slots slot ≡ Some (Some e) → slot ≡ 0
  pub none_waits : s.epochs.waiting ≡ []
  pub safe : s.offsets.safe_read_only ≡ s.offsets.read_only
  pub closed : s.offsets.closed ≡ s.offsets.head
  pub sees : view_at s.views 0 ≡ view_of s.offsets
