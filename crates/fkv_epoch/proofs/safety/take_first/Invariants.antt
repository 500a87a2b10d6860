use Rattle.std.proofs.Common.{◌≡◌, ◌+◌, ◌++◌, map, length}
use Rattle.arrayvec.specs.Iter.{drain_items, DrainKeeps}
use Rattle.fkv_epoch.specs.Due.{action_of}
use Rattle.fkv_epoch.proofs.safety.take_first.Given as goal

abbrev pub invariant-loop-one : goal.invariant-loop-one
invariant-loop-one l = (goal.iterator-loop-one).can_next l.one-iterator
    × (goal.iterator-loop-one).is_finite l.one-iterator
    × DrainKeeps l.initial.one-iterator l.one-iterator
    × (l.due.items ++ map action_of (drain_items l.one-iterator) ≡ map action_of (drain_items l.initial.one-iterator))
    × (length l.due.items + length (drain_items l.one-iterator) ≡ l.fn.count)
