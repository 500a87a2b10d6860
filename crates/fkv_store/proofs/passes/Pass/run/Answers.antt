use Rattle.fkv_operations.specs.After.{key_of}
use Rattle.fkv_partition.specs.Views.{partition_of}
use Rattle.fkv_store.proofs.RunLemmas.{ran_itself}
use Rattle.fkv_store.proofs.passes.Pass.run.Goals as goal

pub returns-clause-ok : goal.returns-clause-ok
returns-clause-ok g c =
    ran_itself g.H.Recorder.keeps c.args.self.now c.run_as.new.self
    (partition_of c.args.store.now.count (g.F.Functions.code (key_of c.args.op))) c.args.op c.run_as.result c.run_as.ensures.ok
