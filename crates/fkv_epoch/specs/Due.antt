-- What is due, and what waits on.
use Rattle.std.specs.Prelude.{List, map, not}
use Rattle.std.specs.List.{filter}
use Rattle.fkv_epoch.specs.declared.actions.Action.{Action}
use Rattle.fkv_epoch.specs.declared.actions.Waiting.{Waiting}
use Rattle.fkv_epoch.specs.EpochState.{EpochState}
use Rattle.fkv_epoch.specs.SafeEpoch.{is_safe_epoch}

-- what waits for a safe epoch, in list order
abbrev pub due : EpochState → List Waiting
due s = filter (λ w. is_safe_epoch s.slots w.epoch) s.waiting

-- the same state with only the rest waiting, in list order
abbrev pub settled : EpochState → EpochState
settled s = record s { waiting = filter (λ w. not (is_safe_epoch s.slots w.epoch)) s.waiting }

-- the actions, without their epochs
abbrev pub action_of : Waiting → Action
action_of w = w.action

abbrev pub actions_of : List Waiting → List Action
actions_of ws = map action_of ws
