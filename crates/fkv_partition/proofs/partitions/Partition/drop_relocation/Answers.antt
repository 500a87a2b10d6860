use Rattle.std.proofs.Common.{None, refl, sym}
use Rattle.fkv_partition.specs.Beginning.{Drops}
use Rattle.fkv_partition.proofs.MoveLemmas.{event-set, keyless-here}
use Rattle.fkv_partition.proofs.partitions.Partition.drop_relocation.Goals as goal

pub returns-in_default-clause-effect : goal.returns-in_default-clause-effect
returns-in_default-clause-effect g c = Drops.unknown (sym c.in_default.ensures.value) refl refl

pub returns-clause-effect : goal.returns-clause-effect
returns-clause-effect g c = rw c.end.ensures (Drops.drops c.in-Some._relocation (sym c.in-Some.ensures.value) refl refl)

pub returns-clause-event : goal.returns-clause-event
returns-clause-event g c = rw c.end.ensures (event-set g.R.Receipt.keeps g.F.Key.Ord.cmp c.args.self.now c.args.slot c.args.context c.args.now c.in-Some.ensures.context (keyless-here c.args.self.now c.args.slot c.args.context c.in-Some._relocation (sym c.in-Some.ensures.value)) None)
