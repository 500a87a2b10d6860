use Rattle.std.proofs.Common.{None, length, get_or, sym, ap, ◌∙◌}
use Rattle.std.proofs.lemmas.List.{get_or-map, length-map, map-id}
use Rattle.std.proofs.lemmas.Iterator.Adapters.{YieldsList-from_vec}
use Rattle.std.proofs.lemmas.Iterator.Consumers.{YieldsList-end, YieldsList-turn}
use Rattle.fkv_blocks.proofs.feeds.Feeds.open.Goals as goal

pub begin-requires-clause-bytes : goal.begin-requires-clause-bytes
begin-requires-clause-bytes g c =
    let sources = c.args.sources.items in
    let gives = c.into_iter-source-iterator.ensures.into_iter_gives in
    let road = YieldsList-from_vec sources gives.0 (gives.1 ∙ c.args.sources.ok.0) in
    let turn = YieldsList-turn road c.loop-source.yielded c.loop-source.source-iterator c.loop-source.yielded_by c.next.result c.next.new.self c.in-Some.source c.in-Some.is c.next.ensures.steps in
    let at = length c.loop-source.yielded in
    ap g.S.Source.remaining turn.1
    ∙ (sym (get_or-map g.S.Source.remaining sources at c.in-Some.source None turn.0)
    ∙ (ap (λ l. get_or l at None) c.requires.bytes ∙ ap (λ n. get_or g.B.Origin.feeds n None) (sym c.loop-source.invariant.0)))

pub begin-requires-clause-counted : goal.begin-requires-clause-counted
begin-requires-clause-counted g c =
    let sources = c.args.sources.items in
    let gives = c.into_iter-source-iterator.ensures.into_iter_gives in
    let road = YieldsList-from_vec sources gives.0 (gives.1 ∙ c.args.sources.ok.0) in
    let turn = YieldsList-turn road c.loop-source.yielded c.loop-source.source-iterator c.loop-source.yielded_by c.next.result c.next.new.self c.in-Some.source c.in-Some.is c.next.ensures.steps in
    let at = length c.loop-source.yielded in
    ap g.S.Source.failures turn.1
    ∙ (sym (get_or-map g.S.Source.failures sources at c.in-Some.source 0 turn.0)
    ∙ (ap (λ l. get_or l at 0) c.requires.counted ∙ ap (λ n. get_or g.B.Origin.counts n 0) (sym c.loop-source.invariant.0)))

pub invariant_of-result : goal.invariant_of-result
invariant_of-result g c =
    let sources = c.args.sources.items in
    let gives = c.into_iter-source-iterator.ensures.into_iter_gives in
    let road = YieldsList-from_vec sources gives.0 (gives.1 ∙ c.args.sources.ok.0) in
    let end = YieldsList-end road c.loop-source.yielded c.loop-source.source-iterator c.loop-source.yielded_by c.next.result c.next.new.self c.in-None.is c.next.ensures.steps in
    c.loop-source.invariant.1
    ∙ (ap length (sym (map-id c.loop-source.yielded) ∙ end.0)
    ∙ (sym (length-map sources g.S.Source.remaining) ∙ ap length c.requires.bytes))
