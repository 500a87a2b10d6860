use Rattle.std.proofs.Common.{length, map, vec_len, sym, ap, ◌∙◌}
use Rattle.std.proofs.lemmas.List.{length-map, map_push}
use Rattle.std.proofs.lemmas.Iterator.Adapters.{YieldsList-from_vec}
use Rattle.std.proofs.lemmas.Iterator.Consumers.{YieldsList-turn}
use Rattle.fkv_closing.proofs.ListsLemmas.{by_more}
use Rattle.fkv_closing.proofs.owns.by_partition.Goals as goal

pub loop-own-preserved : goal.loop-own-preserved
loop-own-preserved g c =
    let gives = c.into_iter-own-iterator.ensures.into_iter_gives in
    let road = YieldsList-from_vec c.args.owns.items gives.0 (gives.1 ∙ c.args.owns.ok.0) in
    let turn = YieldsList-turn road c.loop-own.yielded c.loop-own.own-iterator c.loop-own.yielded_by c.next.result c.next.new.self c.in-Some.own c.in-Some.is c.next.ensures.steps in
    let long = length-map c.in-Some.own.items g.H.Recorder.entries ∙ (sym c.in-Some.own.ok.0 ∙ (ap vec_len turn.1 ∙ c.requires (length c.loop-own.yielded) c.in-Some.own turn.0)) in
    rw (map_push (λ own. map g.H.Recorder.entries own.items) c.loop-own.yielded c.in-Some.own)
    (by_more c.args.count (map (λ of. map (λ own. own.items) of.items) c.loop-own.all.items) (map (λ of. map (λ own. own.items) of.items) c.add_lists.new.all.items)
    (map (λ own. map g.H.Recorder.entries own.items) c.loop-own.yielded) (map g.H.Recorder.entries c.in-Some.own.items) long c.loop-own.invariant c.in-Ok-add_lists.ensures.ok)
