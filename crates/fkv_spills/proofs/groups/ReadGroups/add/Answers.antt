use Rattle.std.proofs.Common.{refl}
use Rattle.fkv_spills.proofs.GroupedLemmas.{grouped-more}
use Rattle.fkv_spills.proofs.groups.ReadGroups.add.Goals as goal

pub returns-then-len-lt-SIDE_BY_SIDE-clause-ok : goal.returns-then-len-lt-SIDE_BY_SIDE-clause-ok
returns-then-len-lt-SIDE_BY_SIDE-clause-ok g c lists xs h has =
    grouped-more g.P.ReadPairs.holds c.args.self.now _ lists c.args.rest xs refl c.in-Ok.ensures.items h has

pub returns-clause-ok : goal.returns-clause-ok
returns-clause-ok g c lists xs h has =
    c.close.ensures.ok _ (grouped-more g.P.ReadPairs.holds c.args.self.now _ lists c.args.rest xs refl c.in-Ok.ensures.items h has)
