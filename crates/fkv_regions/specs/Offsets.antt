-- Offsets, the views that sessions take of them, and the regions of a view.
use Rattle.std.specs.Prelude.{ℕ, Bool, cond, List, nat_lt, nat_le, slice_index_or}
use Rattle.std.specs.List.{fold}
use Rattle.fkv_epoch.specs.declared.actions.Action.{Action}
use Rattle.fkv_epoch.specs.declared.actions.Action.TheVariants.{Safe, Closed}
use Rattle.fkv_regions.specs.declared.offsets.Offsets.{Offsets}
use Rattle.fkv_regions.specs.declared.offsets.View.{View}
use Rattle.fkv_regions.specs.declared.offsets.Region.{Region}
use Rattle.fkv_regions.specs.declared.offsets.Region.TheVariants.{OnDisk, ReadOnly, Fuzzy, Mutable}

-- the view of now
abbrev pub view_of : Offsets → View
view_of o = record { head = o.head; safe_read_only = o.safe_read_only; read_only = o.read_only }

-- the region of an address by a view
abbrev pub region_of : View → ℕ → Region
region_of v a =
    cond (nat_lt a v.head) OnDisk
    (cond (nat_lt a v.safe_read_only) ReadOnly
    (cond (nat_lt a v.read_only) Fuzzy Mutable))

-- an action that comes out is run
abbrev pub ran : Offsets → Action → Offsets
ran o (Safe a) = record o { safe_read_only = a }
ran o (Closed a) = record o { closed = a }

-- all that come out, in order
abbrev pub ran_all : Offsets → List Action → Offsets
ran_all o actions = fold ran o actions

-- whether a view has an action's offset: who looked then changes no record below it or, where frames are closed, reads
-- none there
abbrev pub has_seen : View → Action → Bool
has_seen v (Safe a) = nat_le a v.read_only
has_seen v (Closed a) = nat_le a v.head

-- the view of the session at a slot
abbrev pub view_at : List View → ℕ → View
view_at views slot = slice_index_or views slot (record { head = 0; safe_read_only = 0; read_only = 0 })

-- whether the session at a slot has an action's offset in its view
abbrev pub seen : List View → ℕ → Action → Bool
seen views slot a = has_seen (view_at views slot) a
