-- What a handle owns.
use Rattle.std.specs.Prelude.{Option, Some, None}
use Rattle.std.specs.Box.Ownership.{box_owns}
use Rattle.std.specs.declared.alloc.Global.{Global}
use Rattle.std.specs.contracts.impls.GlobalAllocator.TheImpl.{ghosts}
use base.Fml.{Fml, feq}
use denote.RattleType.{RattleType}
use denote.RawPtr.{Ptr, null_ptr}

-- the C library's heap, of which there is one
abbrev pub heap : Global
heap = record { memory = record { seal = tt } }

-- a closed handle is null and owns nothing; an open one owns what a box does
abbrev pub owns_held : (R : RattleType) → Ptr → Option R.Denot → Fml
owns_held R at None = feq Ptr at null_ptr
owns_held R at (Some x) = box_owns (ghosts.dealloc_token heap) R at x
