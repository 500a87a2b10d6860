use Rattle.std.proofs.Common.{rules}
use Rattle.fkv_summaries.specs.Laws.{same_numbers}
use Rattle.fkv_summaries.proofs.summaries.Summary.with_later.Goals as goal

pub returns : goal.returns
returns c =
    let s = c.known.ensures in
    let t = c.known-2.ensures in
    same_numbers _ _ (search rules) (search rules) (search rules) (search rules)
