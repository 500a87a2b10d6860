use Rattle.std.proofs.Common.{rules}
use Rattle.fkv_c.specs.Leading.{FirstIsLeast}
use Rattle.fkv_c.proofs.CountLemmas.{first_whole}
use Rattle.fkv_c.proofs.sets.next_held.Goals as goal

pub returns-in-Some-pop_first-clause-least : goal.returns-in-Some-pop_first-clause-least
returns-in-Some-pop_first-clause-least c =
    let least : FirstIsLeast c.in-CountPairs.pairs.entries = search rules in
    rw c.in-CountPairs.is (first_whole c.in-CountPairs.pairs.entries least)
