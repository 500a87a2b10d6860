-- The table behind `EpochState`.
use Rattle.fkv_epoch.specs.EpochState.{EpochState}
use Rattle.fkv_epoch.specs.declared.table.Epochs.TheInside.{Inside}

abbrev pub state_of : Inside → EpochState
state_of e = record { epoch = e.epoch; slots = e.slots.items; waiting = e.waiting.items }
