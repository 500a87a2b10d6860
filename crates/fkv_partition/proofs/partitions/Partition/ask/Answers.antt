use Rattle.std.proofs.Common.{Some, refl}
use Rattle.fkv_partition.specs.Checking.{asks}
use Rattle.fkv_partition.specs.Views.{at_stage}
use Rattle.fkv_partition.proofs.ApartLemmas.{err-ok, loads-done, no-later, has-come}
use Rattle.fkv_partition.proofs.MoveLemmas.{event-set, keyless-here}
use Rattle.fkv_partition.proofs.partitions.Partition.ask.Goals as goal

pub returns-clause-effect : goal.returns-clause-effect
returns-clause-effect g c =
    let held = rw (c.page_of-page.ensures, c.records.ensures, c.records-2.ensures) at c.in-Ok.ensures.stands in
    rw c.set_stage.ensures (asks c.in-Ok.receipt (held) refl refl)

pub returns-clause-event : goal.returns-clause-event
returns-clause-event g c = rw c.set_stage.ensures (event-set g.R.Receipt.keeps g.F.Key.Ord.cmp c.args.self.now c.args.slot c.args.context c.args.now c.requires.context (keyless-here c.args.self.now c.args.slot c.args.context c.args.relocation.now c.requires.here) (Some (at_stage c.args.relocation.now c.args.stage)))

pub returns-in-Err-clause-uncleared : goal.returns-in-Err-clause-uncleared
returns-in-Err-clause-uncleared g c = err-ok

pub returns-in-Err-clause-unchanged : goal.returns-in-Err-clause-unchanged
returns-in-Err-clause-unchanged g c = refl

pub returns-in-Err-clause-moment : goal.returns-in-Err-clause-moment
returns-in-Err-clause-moment g c = no-later c.requires.later

pub returns-clause-uncleared : goal.returns-clause-uncleared
returns-clause-uncleared g c = loads-done

pub returns-clause-moment : goal.returns-clause-moment
returns-clause-moment g c = has-come c.set_stage.ensures refl
