use Rattle.std.proofs.Common.{sym, ◌∙◌}
use Rattle.fkv_hybrid.proofs.DifferenceLemmas.{none_differs}
use Rattle.fkv_hybrid.proofs.differences.differing.Goals as goal

pub returns-else-at-came : goal.returns-else-at-came
returns-else-at-came c = sym (c.loop-at.invariant ∙ none_differs c.args.held.now c.args.came.now c.loop-at.at c.if-at-came.false)
