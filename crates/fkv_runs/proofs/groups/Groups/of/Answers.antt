use Rattle.std.proofs.Common.{[], ◌∷◌, ◌++◌, sym, ap, ◌∙◌}
use Rattle.std.proofs.lemmas.List.{map-id}
use Rattle.fkv_functions.specs.Names.{name_cmp, name_total}
use Rattle.fkv_runs.specs.Merging.{merged}
use Rattle.fkv_runs.proofs.GroupLemmas.{merged-group, merged-split}
use Rattle.fkv_runs.proofs.groups.Groups.of.Goals as goal

pub loop-rest-preserved : goal.loop-rest-preserved
loop-rest-preserved g c =
    rw c.in-Ok-push.ensures.items
    (merged-split name_cmp name_total c.loop-rest.groups.items c.split_at.result.0.now c.split_at.result.1.now c.in-Ok.group c.in-Ok.ensures.ok
    ∙ (ap (λ runs. merged name_cmp (c.loop-rest.groups.items ++ runs)) (sym c.split_at.ensures.by_index.0) ∙ c.loop-rest.invariant))

pub returns-in-Ok-push-2-clause-ok : goal.returns-in-Ok-push-2-clause-ok
returns-in-Ok-push-2-clause-ok g c =
    c.new.ensures
    ∙ (ap (merged name_cmp)
    (map-id c.push-2.new.self.items ∙ (c.in-Ok-push-2.ensures.items ∙ ap (λ run. c.loop-rest.groups.items ++ run ∷ []) c.in-Ok-of.ensures.ok))
    ∙ (merged-group name_cmp name_total c.loop-rest.groups.items c.loop-rest.rest.now ∙ c.loop-rest.invariant))
