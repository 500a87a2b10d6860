use Rattle.std.proofs.Common.{◌++◌, ◌∷◌, [], None, replicate, ap, ◌∙◌, le_antisymm}
use Rattle.std.proofs.lemmas.List.{replicate_more}
use Rattle.fkv_worlds.proofs.tables.fill_empty.Goals as goal

pub loop-preserved : goal.loop-preserved
loop-preserved g c = c.in-Ok.ensures.items ∙ ap (λ xs. xs ++ None ∷ []) c.loop.invariant ∙ replicate_more c.loop.counter None

pub returns-clause-ok : goal.returns-clause-ok
returns-clause-ok g c = c.loop.invariant ∙ ap (λ n. replicate n None) (le_antisymm c.loop.auto.counter-end c.loop-test.false)
