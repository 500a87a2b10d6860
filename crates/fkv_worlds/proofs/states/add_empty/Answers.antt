use Rattle.std.proofs.Common.{◌++◌, ◌∷◌, [], ap, ◌∙◌}
use Rattle.std.proofs.lemmas.Result.{on_ok_weaker}
use Rattle.fkv_worlds.proofs.states.add_empty.Goals as goal

pub returns-in-Ok-clause-ok : goal.returns-in-Ok-clause-ok
returns-in-Ok-clause-ok g c = on_ok_weaker c.keep.result (λ h. h ∙ ap (λ v. c.args.partitions.now.items ++ v ∷ []) c.in-Ok.ensures.ok) c.keep.ensures.ok
