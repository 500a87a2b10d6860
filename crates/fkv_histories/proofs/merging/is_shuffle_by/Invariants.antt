use Rattle.std.proofs.Common.{◌≡◌, ◌<◌, ℕ, List, length, take, map, sum_by, slice_get, Some}
use Rattle.std.specs.List.{filter}
use Rattle.fkv_histories.specs.Merges.{told, owned_by, owner_in}
use Rattle.fkv_histories.proofs.merging.is_shuffle_by.Given as goal

abbrev pub invariant-loop-owner : goal.invariant-loop-owner
invariant-loop-owner g l =
    ((k : ℕ) (own : List _) → k < l.owner → slice_get (map (λ v. v.items) l.owns) k ≡ Some own
    → told own ≡ told (filter (owned_by (owner_in l.who l.nobody) k) l.history))
    × (l.total ≡ sum_by length (take l.owner (map (λ v. v.items) l.owns)))
