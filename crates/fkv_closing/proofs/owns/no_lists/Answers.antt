use Rattle.std.proofs.Common.{map, ap, ◌∙◌}
use Rattle.fkv_closing.proofs.ListsLemmas.{none_more}
use Rattle.fkv_closing.proofs.owns.no_lists.Goals as goal

pub loop-preserved : goal.loop-preserved
loop-preserved g c =
    ap (map (λ of. map (λ own. own.items) of.items)) c.in-Ok.ensures.items
    ∙ none_more (λ of. map (λ own. own.items) of.items) c.loop.all.items c.loop.counter c.new.result c.loop.invariant (ap (map (λ own. own.items)) c.new.ensures.items)
