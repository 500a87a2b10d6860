use Rattle.fkv_functions.proofs.CallLemmas.{with_five}
use Rattle.fkv_worlds.proofs.ActsLemmas.{acts-untimely, first-none}
use Rattle.fkv_worlds.proofs.EventLemmas.{acts-of}
use Rattle.fkv_worlds.proofs.states.State.act.Goals as goal

pub returns-in-Err : goal.returns-in-Err
returns-in-Err g c = record { effect = acts-untimely _ _ g.F.Key.Ord.cmp g.F.Mergeable.parts.joined g.F.Functions.meaning g.F.Functions.code c.args.self.now c.args.step c.in-Err.refused (first-none c.args.self.now c.args.step c.in_default.not-Install c.in_default.not-Load c.in_default.not-Write) (rw c.partition.ensures at c.in-Err.ensures.refused) }

pub act_at-requires-whole : goal.act_at-requires-whole
act_at-requires-whole g c κs = with_five (rw c.partition.ensures at c.in-Ok.ensures.ok)

pub returns-in-Install : goal.returns-in-Install
returns-in-Install g c = record { effect = acts-of c.in-Install.is c.install.ensures.effect }

pub returns-in-Load : goal.returns-in-Load
returns-in-Load g c = record { effect = acts-of c.in-Load.is c.load.ensures.effect }

pub returns-in-Write : goal.returns-in-Write
returns-in-Write g c = record { effect = acts-of c.in-Write.is c.write.ensures.effect }
