use Rattle.fkv_functions.proofs.CallLemmas.{with_three}
use Rattle.fkv_worlds.proofs.EmptyLemmas.{few, state-told, state-begun}
use Rattle.fkv_worlds.proofs.states.State.empty.Goals as goal

pub invariant_of-result : goal.invariant_of-result
invariant_of-result g c = state-begun _ g.F.Key.Ord.cmp g.F.Functions.meaning g.F.Functions.code g.F.Mergeable.MERGES c.args.config.now _ c.requires c.partitions-count.result c.partitions-count.ensures.count c.in-Ok-empty_partitions.ensures.ok c.in-Ok.ensures.ok c.in-Ok-empty_flush_slots.ensures.ok c.new-2.ensures.items

pub returns-clause-ok : goal.returns-clause-ok
returns-clause-ok g c = state-told _ g.F.Key.Ord.cmp g.F.Functions.meaning g.F.Functions.code g.F.Mergeable.MERGES c.args.config.now _ c.requires c.partitions-count.result c.partitions-count.ensures.count c.in-Ok-empty_partitions.ensures.ok c.in-Ok.ensures.ok c.in-Ok-empty_flush_slots.ensures.ok c.new-2.ensures.items

pub new-requires-whole : goal.new-requires-whole
new-requires-whole g c κs = with_three (few c.args.config.now.partition_bits c.partitions-count.ensures.count c.requires.partition_bits)
