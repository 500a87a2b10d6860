use Rattle.std.proofs.Common.{◌≡◌, ◌%◌, ◌++◌, filter, nat_eq}
use Rattle.fkv_runs.proofs.runs.Run.of_home.Given as goal

-- the pairs so far that are at home, and those that are left and are, are all
abbrev pub invariant-loop-name : goal.invariant-loop-name
invariant-loop-name g l = l.run ++ filter (λ pair. nat_eq (g.F.Functions.code pair.0 % l.count) l.number) l.name-iterator
    ≡ filter (λ pair. nat_eq (g.F.Functions.code pair.0 % l.count) l.number) l.map.entries
