use Rattle.std.proofs.Common.{subst}
use Rattle.fkv_spills.specs.Reading.{HasMerged}
use Rattle.fkv_spills.proofs.GroupedLemmas.{grouped-all}
use Rattle.fkv_spills.proofs.groups.ReadGroups.merge.Goals as goal

pub returns-clause-ok : goal.returns-clause-ok
returns-clause-ok g c lists h =
    let all = grouped-all g.P.ReadPairs.holds c.close.new.self lists c.in-Ok.ensures.none (c.in-Ok.ensures.ok lists h) in
    subst (λ xs. HasMerged (HasMerged g.P.ReadPairs.holds) c.new.result xs) all.2 (c.new.ensures all.0 all.1)
