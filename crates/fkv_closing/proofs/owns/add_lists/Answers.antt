use Rattle.std.proofs.Common.{◌<◌, ◌++◌, [], ◌∷◌, length, map, get_or, sym, ap, ◌∙◌, arith}
use Rattle.std.specs.Iterator.Adapters.{enumerate_source}
use Rattle.std.specs.Vec.Iter.{into_iter_items, into_iter_len}
use Rattle.std.proofs.lemmas.List.{length-map, length_push, map_push, get_or-map}
use Rattle.std.proofs.lemmas.Iterator.Adapters.{YieldsList-from_vec}
use Rattle.std.proofs.lemmas.Iterator.Consumers.{YieldsList-from_enumerate, YieldsList-turn}
use Rattle.fkv_closing.proofs.ListsLemmas.{item_at, put_more}
use Rattle.fkv_closing.proofs.owns.add_lists.Goals as goal

pub loop-partition-preserved : goal.loop-partition-preserved
loop-partition-preserved g c =
    let source = ap enumerate_source c.into_iter-partition-iterator.ensures.into_iter_gives ∙ c.enumerate-partition-items.ensures.source in
    let items = ap into_iter_items source ∙ c.into_iter.ensures.rest in
    let len = ap into_iter_len source ∙ (c.into_iter.ensures.len ∙ c.args.own.ok.0) in
    let road = YieldsList-from_enumerate (YieldsList-from_vec c.args.own.items items len) (ap (λ e. e.count) c.into_iter-partition-iterator.ensures.into_iter_gives ∙ c.enumerate-partition-items.ensures.count) in
    let turn = YieldsList-turn road c.loop-partition.yielded c.loop-partition.partition-iterator c.loop-partition.yielded_by c.next.result c.next.new.self (c.in-Some.partition, c.in-Some.recorder) c.in-Some.is c.next.ensures.steps in
    let at = item_at c.args.own.items (length c.loop-partition.yielded) c.in-Some.partition c.in-Some.recorder turn in
    let grown = ap (map (λ own. own.items)) c.in-Ok.ensures.items ∙ map_push (λ own. own.items) c.index_mut.result.now.items c.lists.result in
    let list = c.lists.ensures ∙ (ap g.H.Recorder.entries at.2 ∙ sym (get_or-map g.H.Recorder.entries c.args.own.items (length c.loop-partition.yielded) c.in-Some.recorder [] at.0)) in
    let low : c.in-Some.partition < length c.loop-partition.all.items =
    omega (arith, at.0, at.1, c.requires, c.args.own.ok.0, c.args.all.now.ok.0, c.loop-partition.invariant.sized, length-map c.loop-partition.all.items (λ of. map (λ own. own.items) of.items), length-map c.args.all.now.items (λ of. map (λ own. own.items) of.items)) in
    put_more (λ of. map (λ own. own.items) of.items) (map (λ of. map (λ own. own.items) of.items) c.args.all.now.items) c.loop-partition.all.items (map g.H.Recorder.entries c.args.own.items)
    (length c.loop-partition.yielded) c.in-Some.partition (length (c.loop-partition.yielded ++ (c.in-Some.partition, c.in-Some.recorder) ∷ [])) c.index_mut.result.now c.push.new.self c.lists.result.items
    low c.index_mut.ensures.value grown (list ∙ ap (λ n. get_or (map g.H.Recorder.entries c.args.own.items) n []) (sym at.1)) at.1 (length_push c.loop-partition.yielded (c.in-Some.partition, c.in-Some.recorder)) c.loop-partition.invariant
