use Rattle.std.proofs.Common.{◌≡◌, ◌++◌, Ok, map}
use Rattle.std.specs.Vec.Iter.{into_iter_items}
use Rattle.fkv_workers.proofs.listing.runs_of.Given as goal

-- the results so far are these runs, and with those that are left they are all
abbrev pub invariant-loop-listed : goal.invariant-loop-listed
invariant-loop-listed g l = record {
  runs : map Ok l.runs.items ≡ l.yielded;
  whole : l.yielded ++ into_iter_items l.listed-iterator ≡ into_iter_items l.initial.listed-iterator;
}
