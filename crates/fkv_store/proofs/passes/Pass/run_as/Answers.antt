use Rattle.std.proofs.Common.{◌≡◌, refl, arith}
use Rattle.fkv_operations.specs.After.{key_of}
use Rattle.fkv_partition.specs.Views.{partition_of}
use Rattle.fkv_store.proofs.CountLemmas.{none-steady}
use Rattle.fkv_store.proofs.RunLemmas.{runs-itself}
use Rattle.fkv_store.proofs.passes.Pass.run_as.Goals as goal

pub returns-in-Some-clause-ok : goal.returns-in-Some-clause-ok
returns-in-Some-clause-ok g c = (c.args.op, runs-itself c.args.loads c.args.op c.args.op refl, c.in-Some.ensures.done.runs)

pub returns-in-Some-clause-merging : goal.returns-in-Some-clause-merging
returns-in-Some-clause-merging g c = c.in-Some.ensures.merging

pub returns-in-Some-clause-within : goal.returns-in-Some-clause-within
returns-in-Some-clause-within g c = omega (arith, c.in-Some.ensures.done.turned)

pub returns-in-Some-clause-steady : goal.returns-in-Some-clause-steady
returns-in-Some-clause-steady g c =
    let done = c.in-Some.ensures.done in
    rw done.reads (none-steady (partition_of c.args.store.now.count (g.F.Functions.code (key_of c.args.op))) _ _ done.missed)

pub returns-in-None-clause-ok : goal.returns-in-None-clause-ok
returns-in-None-clause-ok g c = rw (← c.in-None.ensures.none) c.run_by_events-in-None.ensures.ok

pub returns-in-None-clause-merging : goal.returns-in-None-clause-merging
returns-in-None-clause-merging g c = c.run_by_events-in-None.ensures.merging

pub returns-in-None-clause-foreign : goal.returns-in-None-clause-foreign
returns-in-None-clause-foreign g c = rw (← c.in-None.ensures.none) c.run_by_events-in-None.ensures.foreign

pub returns-in-None-clause-own : goal.returns-in-None-clause-own
returns-in-None-clause-own g c = rw (← c.in-None.ensures.none) c.run_by_events-in-None.ensures.own

pub returns-in-None-clause-worn : goal.returns-in-None-clause-worn
returns-in-None-clause-worn g c = rw (← c.in-None.ensures.none) c.run_by_events-in-None.ensures.worn

pub returns-in-None-clause-only : goal.returns-in-None-clause-only
returns-in-None-clause-only g c = rw (← c.in-None.ensures.none) c.run_by_events-in-None.ensures.only

pub returns-in-None-clause-stalled : goal.returns-in-None-clause-stalled
returns-in-None-clause-stalled g c = c.run_by_events-in-None.ensures.stalled

pub returns-in-None-clause-within : goal.returns-in-None-clause-within
returns-in-None-clause-within g c = c.run_by_events-in-None.ensures.within

pub returns-in-None-clause-unchanged : goal.returns-in-None-clause-unchanged
returns-in-None-clause-unchanged g c = rw (← c.in-None.ensures.none) c.run_by_events-in-None.ensures.unchanged

pub returns-in-None-clause-steady : goal.returns-in-None-clause-steady
returns-in-None-clause-steady g c = rw (← c.in-None.ensures.none) c.run_by_events-in-None.ensures.steady

pub returns-in-None-clause-counted : goal.returns-in-None-clause-counted
returns-in-None-clause-counted g c = rw (← c.in-None.ensures.none) c.run_by_events-in-None.ensures.counted
