-- What a caller learns of a turn.
use Rattle.std.proofs.Common.{ℕ, Bool, List}
use Rattle.fkv_locked.specs.Turns.{Noted, Turns, IsTurnOf}
use Rattle.fkv_locked.specs.declared.open_operations.OpenOperation.{OpenOperation}
use Rattle.fkv_locked.specs.declared.turns.Turn.{Turn}
use Rattle.fkv_locked.specs.declared.turns.Turn.TheVariants.{Done, Next, NeedsBuild, NeedsLoad, Waits}

pub turn_of : {K V I O R : Type 0} (keeps : Bool) (at : ℕ) (looks : List ℕ) (old new : Noted K V I O) (operation : OpenOperation K V I) (turn : Turn K V I O R)
    → Turns keeps at looks old new operation turn
    → IsTurnOf operation turn
turn_of keeps at looks old new operation (Done e) h = h.of
turn_of keeps at looks old new operation Next h = tt
turn_of keeps at looks old new operation (NeedsBuild ask) h = tt
turn_of keeps at looks old new operation (NeedsLoad r a) h = tt
turn_of keeps at looks old new operation (Waits why) h = tt
