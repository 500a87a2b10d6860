use Rattle.std.proofs.Common.{◌≡◌}
use Rattle.fkv_store.proofs.stores.Store.relocate.Given as goal

-- each event so far was counted
abbrev pub invariant-loop-event : goal.invariant-loop-event
invariant-loop-event g l = record { counted : l.events ≡ l._event }
