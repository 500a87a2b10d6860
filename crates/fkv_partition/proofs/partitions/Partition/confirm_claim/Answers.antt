use Rattle.fkv_partition.proofs.EventLemmas.{settles, confirm-by}
use Rattle.fkv_partition.proofs.partitions.Partition.confirm_claim.Goals as goal

pub confirm-is_final-requires-clause-phase : goal.confirm-is_final-requires-clause-phase
confirm-is_final-requires-clause-phase g c = confirm-by c.args.operation.now.phase c.args.place c.requires.phase

pub returns-clause-effect : goal.returns-clause-effect
returns-clause-effect g c =
    let x = c.args.operation.now in
    let made = c.confirm-is_final.ensures in
    (settles g.R.Receipt.stands g.F.Key.Ord.cmp g.F.Mergeable.parts.joined g.F.Functions.meaning g.F.Functions.code c.args.self.now _ c.args.slot c.args.context c.args.now x c.args.place c.requires.here (confirm-by x.phase c.args.place c.requires.phase) c.confirm-is_final.result made.alone made.final_now made.backed_off).0

pub returns-clause-event : goal.returns-clause-event
returns-clause-event g c =
    let x = c.args.operation.now in
    let made = c.confirm-is_final.ensures in
    (settles g.R.Receipt.stands g.F.Key.Ord.cmp g.F.Mergeable.parts.joined g.F.Functions.meaning g.F.Functions.code c.args.self.now _ c.args.slot c.args.context c.args.now x c.args.place c.requires.here (confirm-by x.phase c.args.place c.requires.phase) c.confirm-is_final.result made.alone made.final_now made.backed_off).1
