use Rattle.std.proofs.Common.{◌≡◌, ◌∙◌, ap}
use Rattle.fkv_operations.specs.After.{key_of}
use Rattle.fkv_partition.specs.Views.{partition_of}
use Rattle.fkv_store.proofs.passes.Pass.try_at_once.Goals as goal

pub returns-clause-done : goal.returns-clause-done
returns-clause-done g c =
    let home : c.home-partition.result ≡ partition_of c.args.store.now.count (g.F.Functions.code (key_of c.args.op.now)) =
    c.home-partition.ensures.value
    ∙ ap (λ k. partition_of c.args.store.now.count (g.F.Functions.code k)) c.key.ensures in
    rw (← home, c.self-2.view_is, ← c.self.view_is) c.in-Some-make_in_one.ensures.done
