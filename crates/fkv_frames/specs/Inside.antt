-- What the frames keep.
use Rattle.std.specs.Prelude.{◌≡◌, ◌<◌, ◌≤◌, ◌%◌, ◌^◌, map, length, All}
use Rattle.fkv_frames.specs.Ring.{Ring}
use Rattle.fkv_frames.specs.declared.ring.Frames.TheInside.{Inside}

abbrev pub ring_of : Inside → Ring
ring_of f = record { bits = f.page_bits; slots = map (λ x. (x.page, x.bytes.items)) f.frames.items }

-- there are frames, each has a page's bytes, and a round begins where it says
pub record IsRing (f : Inside) : Type 0 where
  pub bits : f.page_bits ≤ 20
  pub some : 0 < length f.frames.items
  pub whole : f.round % length f.frames.items ≡ 0
  pub sizes : All (λ x. length x.bytes.items ≡ 2 ^ f.page_bits) f.frames.items
