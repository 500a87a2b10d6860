use Rattle.std.proofs.Common.{map, ap, sym, ◌∙◌}
use Rattle.std.proofs.lemmas.List.{map-id}
use Rattle.std.proofs.lemmas.Iterator.Adapters.{YieldsList-from_vec}
use Rattle.std.proofs.lemmas.Iterator.Consumers.{YieldsList-end}
use Rattle.fkv_blocks.proofs.whole.ReadFeeds.into_sources.Goals as goal

pub returns-clause-ok : goal.returns-clause-ok
returns-clause-ok g c =
    let gives = c.into_iter-feed-iterator.ensures.into_iter_gives in
    let road = YieldsList-from_vec c.self.inside.feeds.items gives.0 (gives.1 ∙ c.self.inside.feeds.ok.0) in
    let end = YieldsList-end road c.loop-feed.yielded c.loop-feed.feed-iterator c.loop-feed.yielded_by c.next.result c.next.new.self c.in-None.is c.next.ensures.steps in
    c.loop-feed.invariant ∙ (ap (map (λ feed. feed.failures)) (sym (map-id c.loop-feed.yielded) ∙ end.0) ∙ c.self.view_is)
