use Rattle.std.proofs.Common.{◌≡◌, Some}
use Rattle.fkv_partition.specs.Views.{relocation_at}
use Rattle.fkv_partition.proofs.MoveLemmas.{open-here, stands-here, keyless-here}
use Rattle.fkv_partition.proofs.partitions.Partition.set_stage.Goals as goal

pub set_relocation-requires-clause-entered : goal.set_relocation-requires-clause-entered
set_relocation-requires-clause-entered g c =
    let at : relocation_at c.args.self.now c.args.slot c.args.context ≡ Some c.args.relocation.now = c.requires.here in
    (open-here c.args.self.now c.args.slot c.args.context c.args.relocation.now at).inside

pub set_relocation-requires-clause-keyless : goal.set_relocation-requires-clause-keyless
set_relocation-requires-clause-keyless g c =
    let at : relocation_at c.args.self.now c.args.slot c.args.context ≡ Some c.args.relocation.now = c.requires.here in
    keyless-here c.args.self.now c.args.slot c.args.context c.args.relocation.now at

pub set_relocation-requires-clause-stands : goal.set_relocation-requires-clause-stands
set_relocation-requires-clause-stands g c =
    let v = c.args.self.now in
    let was = c.args.relocation.now in
    let resolved = stands-here v c.args.slot c.args.context was c.requires.here c.facts.ensures.compacting in
    rw c.in_stage-moved.ensures (record { place = resolved.place; frozen = resolved.frozen; issued = resolved.issued; stage = c.requires.stands })
