use Rattle.std.proofs.Common.{◌≡◌, ◌++◌}
use Rattle.fkv_partition.proofs.listing.pairs_of.Given as goal

-- the pairs so far, and those that are left, are all
abbrev pub invariant-loop-key : goal.invariant-loop-key
invariant-loop-key g l = l.pairs.items ++ l.key-iterator ≡ l.map.entries
