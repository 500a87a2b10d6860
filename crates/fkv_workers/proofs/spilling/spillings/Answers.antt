use Rattle.std.proofs.Common.{[], ◌∷◌, ◌++◌, sym, ap, ◌∙◌}
use Rattle.std.proofs.lemmas.List.{map_push, map-id}
use Rattle.std.proofs.lemmas.Iterator.Adapters.{YieldsList-from_vec}
use Rattle.std.proofs.lemmas.Iterator.Consumers.{YieldsList-end}
use Rattle.fkv_workers.proofs.spilling.spillings.Goals as goal

pub loop-part-preserved : goal.loop-part-preserved
loop-part-preserved g c =
    rw c.in-Ok.ensures.items (map_push (λ spilling. spilling.part) c.loop-part.spillings.items _ ∙ ap (λ parts. parts ++ c.in-Some.part ∷ []) c.loop-part.invariant)

pub returns-clause-ok : goal.returns-clause-ok
returns-clause-ok g c =
    let gives = c.into_iter-part-iterator.ensures.into_iter_gives in
    let road = YieldsList-from_vec c.args.parts.items gives.0 (gives.1 ∙ c.args.parts.ok.0) in
    let end = YieldsList-end road c.loop-part.yielded c.loop-part.part-iterator c.loop-part.yielded_by c.next.result c.next.new.self c.in-None.is c.next.ensures.steps in
    c.loop-part.invariant ∙ (sym (map-id c.loop-part.yielded) ∙ end.0)
