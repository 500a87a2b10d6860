-- How many updates stood at the issue of an operation that is open: the mark of its context, which no event changes while it is.
use Rattle.std.specs.Prelude.{◌≡◌, ◌<◌, ℕ, Some, None, slice_index, slice_set}
use Rattle.fkv_partition.specs.Effect.{asked}
use Rattle.fkv_locked.specs.Kept.{place_of}
use Rattle.fkv_locked.specs.declared.open_operations.OpenOperation.{OpenOperation}
use Rattle.fkv_locked.specs.Locks.{LockedView}
use Rattle.fkv_locked.specs.Turns.{question_of}

module _ {K V I O : Type 0} where
  -- what any event does to the marks of issues: it leaves them all, or it issues an operation in a context that asked nothing,
  -- and marks that by how many updates stand
  pub data Marks (old new : LockedView K V I O) : Type 0 where
    still : new.lows ≡ old.lows → Marks old new
    issues : (slot c : ℕ) → c < 8
        → asked old.partition slot c ≡ None
        → new.lows ≡ slice_set old.lows (place_of slot c) old.count
        → Marks old new

  -- a caller's operation is open in its context
  abbrev pub IsOpen : OpenOperation K V I → LockedView K V I O → Type 0
  IsOpen operation l = asked l.partition operation.session.slot operation.context ≡ Some (question_of operation)

  -- the mark of its context
  abbrev pub mark_of : OpenOperation K V I → LockedView K V I O → ℕ
  mark_of operation l = slice_index l.lows (place_of operation.session.slot operation.context)

  -- events of whatever kind follow one another, before each of which a caller's operation was open
  pub data IsOpenFrom (operation : OpenOperation K V I) (start : LockedView K V I O) : LockedView K V I O → Type 0 where
    none : IsOpenFrom operation start start
    more : {before end : LockedView K V I O}
        → IsOpenFrom operation start before
        → IsOpen operation before
        → Marks before end
        → IsOpenFrom operation start end
