use Rattle.std.proofs.Common.{refl}
use Rattle.fkv_partition.proofs.ApartLemmas.{no-later, has-come}
use Rattle.fkv_partition.proofs.OperationLemmas.{passed-event, passed-pends}
use Rattle.fkv_partition.proofs.partitions.Partition.flush_take.Goals as goal

pub returns-clause-event : goal.returns-clause-event
returns-clause-event g c = rw c.pass.ensures (passed-event g.R.Receipt.keeps c.args.self.now c.args.now)

pub returns-clause-pends : goal.returns-clause-pends
returns-clause-pends g c = rw c.pass.ensures (passed-pends g.F.Key.Ord.cmp c.args.self.now c.args.now)

pub returns-in-Err-clause-due : goal.returns-in-Err-clause-due
returns-in-Err-clause-due g c = rw (c.log.ensures, c.records.ensures) at c.in-Err.ensures.due

pub returns-in-Err-clause-only : goal.returns-in-Err-clause-only
returns-in-Err-clause-only g c = c.in-Err.ensures.only

pub returns-in-Err-clause-pends : goal.returns-in-Err-clause-pends
returns-in-Err-clause-pends g c = λ s d. refl

pub returns-in-Err-clause-moment : goal.returns-in-Err-clause-moment
returns-in-Err-clause-moment g c = no-later c.requires.later

pub returns-clause-page : goal.returns-clause-page
returns-clause-page g c = (rw (c.log.ensures, c.records.ensures) at c.in-Ok.ensures.page)

pub returns-clause-bytes : goal.returns-clause-bytes
returns-clause-bytes g c = (rw (c.log.ensures, c.records.ensures) at c.in-Ok.ensures.bytes)

pub returns-clause-due : goal.returns-clause-due
returns-clause-due g c = rw (c.log.ensures, c.records.ensures) at c.in-Ok.ensures.due

pub returns-clause-passes : goal.returns-clause-passes
returns-clause-passes g c = c.pass.ensures

pub returns-clause-moment : goal.returns-clause-moment
returns-clause-moment g c = has-come c.pass.ensures refl
