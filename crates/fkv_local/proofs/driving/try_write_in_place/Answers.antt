use Rattle.fkv_local.proofs.AtOnceLemmas.{at-once_runs}
use Rattle.fkv_local.proofs.driving.try_write_in_place.Goals as goal

pub returns-in-Some-clause-done : goal.returns-in-Some-clause-done
returns-in-Some-clause-done g c = at-once_runs g.D.Receipt.Receipt.stands g.F.Key.Ord.cmp g.F.Mergeable.parts.joined g.F.Functions.meaning g.F.Functions.code c.args.part.now.partition c.try_write_in_place.new.self c.args.op.now _ _ _ c.requires.idle c.in-Some.ensures.done
