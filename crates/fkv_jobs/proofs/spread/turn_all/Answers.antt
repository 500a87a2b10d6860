use Rattle.fkv_jobs.specs.Spread.{HasTurned}
use Rattle.fkv_jobs.proofs.SpreadLemmas.{zip_by_place}
use Rattle.fkv_jobs.proofs.spread.turn_all.Goals as goal

pub returns : goal.returns
returns g c =
    zip_by_place (HasTurned g.J.Job.gives) c.args.slots.now c.for_each_mut.new.s c.for_each_mut.auto.s
    (λ i d lt. let k = (c.for_each_mut.ensures i d lt).1 in rw (← k.argument_is, ← k.left) k.call)
