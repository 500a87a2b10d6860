use Rattle.std.proofs.Common.{◌≡◌, ◌≤◌, length, take}
use Rattle.std.specs.List.{filter}
use Rattle.fkv_histories.specs.Merges.{told, owned_by, owner_in}
use Rattle.fkv_histories.proofs.merging.is_part.Given as goal

abbrev pub invariant-loop-entry : goal.invariant-loop-entry
invariant-loop-entry g l =
    (told (filter (owned_by (owner_in l.who l.nobody) l.owner) (take l.entry-index l.history)) ≡ told (take l.next l.own))
    × (l.next ≤ length l.own)
