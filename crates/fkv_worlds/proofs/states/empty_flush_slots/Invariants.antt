use Rattle.std.proofs.Common.{◌≡◌, map, replicate, None}
use Rattle.fkv_worlds.specs.declared.flush_slots.FlushSlot.{FlushSlot}
use Rattle.fkv_worlds.proofs.states.empty_flush_slots.Given as goal

abbrev pub invariant-loop-number : goal.invariant-loop-number
invariant-loop-number l = map (λ (d : FlushSlot). d.job) l.flush_slots.items ≡ replicate l._number None
