-- What the calls change, before anything is let out.
use Rattle.std.specs.Prelude.{◌+◌, ℕ, Bool, [], ◌∷◌, ◌++◌, Option, Some, None, replicate, slice_get, slice_set, is_some}
use Rattle.std.specs.Prelude.{is_none}
use Rattle.std.specs.List.{position}
use Rattle.std.specs.Option.{option_flatten}
use Rattle.fkv_epoch.specs.declared.actions.Action.{Action}
use Rattle.fkv_epoch.specs.EpochState.{EpochState}

-- at the start: epoch 1, sixteen free slots, and nothing waits
abbrev pub fresh : EpochState
fresh = record { epoch = 1; slots = replicate 16 None; waiting = [] }

-- the lowest free slot
abbrev pub free_slot : EpochState → Option ℕ
free_slot s = position is_none s.slots

-- whether a session is entered at this slot
abbrev pub is_entered : EpochState → ℕ → Bool
is_entered s slot = is_some (option_flatten (slice_get s.slots slot))

-- this slot has the current epoch
abbrev pub renewed : EpochState → ℕ → EpochState
renewed s slot = record s { slots = slice_set s.slots slot (Some s.epoch) }

-- this slot is free
abbrev pub vacated : EpochState → ℕ → EpochState
vacated s slot = record s { slots = slice_set s.slots slot None }

-- an action waits, last, for the current epoch, and the next epoch is current
abbrev pub bumped : EpochState → Action → EpochState
bumped s action = record s {
  epoch = s.epoch + 1;
  waiting = s.waiting ++ record { epoch = s.epoch; action = action } ∷ [];
}
