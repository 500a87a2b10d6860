use Rattle.std.proofs.Common.{◌≡◌, ◌++◌, None, map}
use Rattle.std.specs.List.{All}
use Rattle.std.specs.Vec.Iter.{into_iter_items}
use Rattle.fkv_workers.proofs.worker_jobs.passes_of.Given as goal

abbrev pub invariant-loop-one : goal.invariant-loop-one
invariant-loop-one g l = record {
  passes : l.passes.items ≡ map (λ w. w.pass) l.yielded;
  none : All (λ fault. fault ≡ None) (map (λ w. w.fault) l.yielded);
  whole : l.yielded ++ into_iter_items l.one-iterator ≡ into_iter_items l.initial.one-iterator;
}
