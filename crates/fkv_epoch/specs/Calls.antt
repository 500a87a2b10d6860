-- Each call as a step from state to state.
use Rattle.std.specs.Prelude.{Bool, true, false, List, [], ◌∷◌, Option, Some, None, length, nat_lt, if◌then◌else◌}
use Rattle.std.specs.Option.{option_map, option_map_or}
use Rattle.fkv_functions.specs.declared.refusals.Refused.{Refused}
use Rattle.fkv_functions.specs.declared.refusals.Refused.TheVariants.{NoSlot, Unknown, DrainFull}
use Rattle.fkv_epoch.specs.declared.actions.Waiting.{Waiting}
use Rattle.fkv_epoch.specs.declared.calls.Call.{Call}
use Rattle.fkv_epoch.specs.declared.calls.Call.TheVariants.{Enter, Refresh, Leave, Bump}
use Rattle.fkv_epoch.specs.EpochState.{EpochState}
use Rattle.fkv_epoch.specs.Due.{due, settled}
use Rattle.fkv_epoch.specs.Moves.{free_slot, is_entered, renewed, vacated, bumped}

-- whether the call lets actions out
abbrev pub lets_out : Call → Bool
lets_out Enter = false
lets_out (Refresh slot) = true
lets_out (Leave slot) = true
lets_out (Bump action) = true

-- what the call makes of the state before anything is let out; none where it is refused
abbrev pub moved : EpochState → Call → Option EpochState
moved s Enter = option_map (renewed s) (free_slot s)
moved s (Refresh slot) = if is_entered s slot then Some (renewed s slot) else None
moved s (Leave slot) = if is_entered s slot then Some (vacated s slot) else None
moved s (Bump action) = if nat_lt (length s.waiting) 16 then Some (bumped s action) else None

-- the state after the call: the same where it is refused
abbrev pub after : EpochState → Call → EpochState
after s call = option_map_or (λ m. if lets_out call then settled m else m) (moved s call) s

-- what the call lets out
abbrev pub let_out : EpochState → Call → List Waiting
let_out s call = option_map_or (λ m. if lets_out call then due m else []) (moved s call) []

-- what the call puts in: a bump its action, beside the current epoch
abbrev pub put_in : EpochState → Call → List Waiting
put_in s Enter = []
put_in s (Refresh slot) = []
put_in s (Leave slot) = []
put_in s (Bump action) = if nat_lt (length s.waiting) 16 then record { epoch = s.epoch; action = action } ∷ [] else []

-- the one way in which the call is refused
abbrev pub refusal_of : Call → Refused
refusal_of Enter = NoSlot
refusal_of (Refresh slot) = Unknown
refusal_of (Leave slot) = Unknown
refusal_of (Bump action) = DrainFull
