use Rattle.fkv_partition.specs.Views.{partition_of}
use Rattle.fkv_store.proofs.PassLemmas.{ran_update}
use Rattle.fkv_store.proofs.passes.Pass.update_or_merge.Goals as goal

pub returns-in-Ok-clause-ok : goal.returns-in-Ok-clause-ok
returns-in-Ok-clause-ok g c =
    let ran = c.in-Ok.ensures.ok in
    ran_update g.H.Recorder.keeps c.args.self.now c.run_as.new.self
    (partition_of c.args.store.now.count (g.F.Functions.code c.args.key)) c.args.key c.args.input ran.0 ran.1 c.in-Ok._answer ran.2
