use Rattle.std.proofs.Common.{⊎_elim, inl, inr, length, Some, ◌++◌, [], map, refl, sym, ap, subst, ◌∙◌, append_assoc}
use Rattle.std.proofs.lemmas.Option.{slice_get-get_or}
use Rattle.std.proofs.lemmas.List.{append-nil, map_push, map-id}
use Rattle.std.proofs.lemmas.Iterator.Adapters.{YieldsList-from_vec}
use Rattle.std.proofs.lemmas.Iterator.Consumers.{YieldsList-end, YieldsList-turn}
use Rattle.fkv_feeds.specs.Tables.{AreFeeds, most_rows}
use Rattle.fkv_workers.proofs.FeedLemmas.{feeds_more}
use Rattle.fkv_workers.proofs.sharing.read_all.Goals as goal

pub loop-feed-init : goal.loop-feed-init
loop-feed-init g c before h = ([], refl, rw (append-nil before) h)

pub read_feed-requires : goal.read_feed-requires
read_feed-requires g c = (let so_far = c.loop-feed.invariant c.requires.0 c.requires.1 in (c.requires.0 ++ so_far.0, so_far.2))

pub loop-feed-preserved : goal.loop-feed-preserved
loop-feed-preserved g c before h =
    let so_far = c.loop-feed.invariant before h in
    let one = c.in-Ok.ensures.ok (before ++ so_far.0) so_far.2 in
    (so_far.0 ++ one.0, rw (map_push (λ feed. g.S.Source.remaining feed.1) c.loop-feed.yielded c.in-Some.feed) (feeds_more most_rows (map (λ feed. g.S.Source.remaining feed.1) c.loop-feed.yielded) so_far.0 (g.S.Source.remaining c.in-Some.feed.1) one.0 so_far.1 one.1), rw (← append_assoc before so_far.0 one.0) one.2)

pub returns-clause-ok : goal.returns-clause-ok
returns-clause-ok g c before h =
    let so_far = c.loop-feed.invariant before h in
    let gives = c.into_iter-feed-iterator.ensures.into_iter_gives in
    let road = YieldsList-from_vec c.args.feeds.items gives.0 (gives.1 ∙ c.args.feeds.ok.0) in
    let end = YieldsList-end road c.loop-feed.yielded c.loop-feed.feed-iterator c.loop-feed.yielded_by c.next.result c.next.new.self c.in-None.is c.next.ensures.steps in (
      so_far.0,
      subst (λ xs. AreFeeds most_rows (map (λ feed. g.S.Source.remaining feed.1) xs) so_far.0) (sym (map-id c.loop-feed.yielded) ∙ end.0) so_far.1,
      so_far.2,
    )

pub returns-in-Err-clause-told : goal.returns-in-Err-clause-told
returns-in-Err-clause-told g c =
    let gives = c.into_iter-feed-iterator.ensures.into_iter_gives in
    let road = YieldsList-from_vec c.args.feeds.items gives.0 (gives.1 ∙ c.args.feeds.ok.0) in
    let turn = YieldsList-turn road c.loop-feed.yielded c.loop-feed.feed-iterator c.loop-feed.yielded_by c.next.result c.next.new.self c.in-Some.feed c.in-Some.is c.next.ensures.steps in
    ⊎_elim (λ fault. inl fault.0)
    (λ tells.
    inr (record {
      place = length c.loop-feed.yielded;
      feed = c.in-Some.feed;
      here = slice_get-get_or c.args.feeds.items (length c.loop-feed.yielded) c.in-Some.feed turn.0 ∙ ap Some (sym turn.1);
      left = c.read_feed.new.source;
      after = g.S.Source.failures c.read_feed.new.source;
      counts = refl;
      tells = rw c.saturating_add-number.ensures at tells;
    }))
    c.in-Err.ensures.told
