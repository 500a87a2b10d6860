use Rattle.std.proofs.Common.{◌≡◌, ◌%◌, ◌+◌, ◌++◌, List, filter, length, nat_eq, IsTrue}
use Rattle.fkv_functions.specs.declared.names.Name.{Name}
use Rattle.fkv_spills.specs.Spilling.{IsGathered}
use Rattle.fkv_spills.proofs.spilled.Spilled.of_home.Given as goal

-- the pairs that are gathered, and those that are left and are at home, are all; those that are not at home are not counted
abbrev pub invariant-loop-name : goal.invariant-loop-name
invariant-loop-name g l = record {
  gathered : IsTrue g.R.Receipt.keeps → (xs : List (Name × g.row.V.Denot))
      × IsGathered g.V.Fixed.codec g.R.Receipt.stands l.gathered xs
      × (xs ++ filter (λ pair. nat_eq (g.F.Functions.code pair.0 % l.count) l.number) l.name-iterator
      ≡ filter (λ pair. nat_eq (g.F.Functions.code pair.0 % l.count) l.number) l.map.entries);
  counted : l.len + length (filter (λ pair. nat_eq (g.F.Functions.code pair.0 % l.count) l.number) l.name-iterator)
      ≡ length (filter (λ pair. nat_eq (g.F.Functions.code pair.0 % l.count) l.number) l.map.entries) + length l.name-iterator;
  steady : g.W.PageWriter.failures l.writer ≡ g.W.PageWriter.failures l.initial.writer;
}
