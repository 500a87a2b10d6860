use Rattle.fkv_spills.proofs.GroupedLemmas.{grouped-close}
use Rattle.fkv_spills.proofs.groups.ReadGroups.close.Goals as goal

pub returns-clause-ok : goal.returns-clause-ok
returns-clause-ok g c lists h =
    grouped-close g.P.ReadPairs.holds c.args.self.now _ lists c.new-2.result c.in-Ok.ensures.items (rw c.replace-rests.ensures.after c.new.ensures.items)
    (λ ls held. c.new-2.ensures ls (rw c.replace-rests.ensures.value held)) h
