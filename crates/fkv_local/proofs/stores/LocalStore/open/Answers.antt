use Rattle.std.proofs.Common.{map, sym, subst, ◌∙◌, arith}
use Rattle.fkv_local.specs.Resting.{AreAtRest}
use Rattle.fkv_local.proofs.CauseLemmas.{numbered-later}
use Rattle.fkv_local.proofs.StoreLemmas.{new-empty, new-rests}
use Rattle.fkv_local.proofs.stores.LocalStore.open.Goals as goal

pub invariant_of-result : goal.invariant_of-result
invariant_of-result g c =
    let views = map (λ shard. shard.part.partition) c.in-Ok.shards.items in (
      subst (λ n. AreAtRest views n) (sym c.starting.ensures) (new-rests g.F.Key.Ord.cmp c.args.config.now views c.partitions-count.result c.partitions-count.ensures.count c.in-Ok.ensures.ok),
      numbered-later g.D.Writer.PageWriter.next (map (λ shard. shard.part.writer) c.in-Ok.shards.items) 0 c.starting.result c.in-Ok.ensures.unused (omega arith),
    )

pub returns-in-Ok-clause-empty : goal.returns-in-Ok-clause-empty
returns-in-Ok-clause-empty g c = new-empty g.F.Key.Ord.cmp g.F.Functions.code c.args.config.now (map (λ shard. shard.part.partition) c.in-Ok.shards.items) c.partitions-count.result c.in-Ok.ensures.ok

pub returns-in-Ok-clause-sized : goal.returns-in-Ok-clause-sized
returns-in-Ok-clause-sized g c = c.in-Ok.ensures.ok.sized ∙ c.partitions-count.ensures.count

pub returns-in-Ok-clause-made : goal.returns-in-Ok-clause-made
returns-in-Ok-clause-made g c = λ p v here. (c.in-Ok.ensures.ok.each p v here).made
