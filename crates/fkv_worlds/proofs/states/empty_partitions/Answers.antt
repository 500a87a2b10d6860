use Rattle.std.proofs.Common.{◌≡◌, ap, ◌∙◌, arith}
use Rattle.fkv_records.specs.Records.{size_of}
use Rattle.fkv_worlds.specs.States.{empty_partitions}
use Rattle.fkv_worlds.proofs.EmptyLemmas.{partitions-more}
use Rattle.fkv_worlds.proofs.states.empty_partitions.Goals as goal

pub loop-number-init : goal.loop-number-init
loop-number-init g c = c.new-partitions.ensures.items

pub loop-number-preserved : goal.loop-number-preserved
loop-number-preserved g c = partitions-more g.F.Mergeable.MERGES c.args.config.now _ c.loop-number.number _ _ c.loop-number.invariant c.in-Ok.ensures.ok

pub returns-clause-ok : goal.returns-clause-ok
returns-clause-ok g c =
    let end : c.loop-number.number ≡ c.args.count = (let past = c.loop-number-test.false in let auto = c.loop-number.auto in omega arith) in
    c.loop-number.invariant ∙ ap (empty_partitions g.F.Mergeable.MERGES c.args.config.now (size_of g.F.Key.Fixed.SIZE g.F.Value.Fixed.SIZE)) end

pub returns-clause-only : goal.returns-clause-only
returns-clause-only g c = tt
