use Rattle.std.proofs.Common.{rules}
use Rattle.std.specs.Prelude.{FitsSigned}
use Rattle.std.specs.Int.{w64}
use Rattle.std.proofs.lemmas.Int.{to_z-of_z}
use Rattle.fkv_workers.proofs.SplitLemmas.{lists_more}
use Rattle.fkv_workers.proofs.waiting.put.Goals as goal

pub returns-in-Ok-clause-ok : goal.returns-in-Ok-clause-ok
returns-in-Ok-clause-ok c =
    let fits : FitsSigned w64 c.args.amount = search rules in
    lists_more (λ rows. rows.items) c.args.waiting.now.items c.args.partition c.push.new.self c.index_mut-rows.result.now (c.args.key.now, c.args.amount)
    (search rules) c.index_mut-rows.ensures.value (rw (to_z-of_z w64 c.args.amount fits) at c.in-Ok.ensures.items)
