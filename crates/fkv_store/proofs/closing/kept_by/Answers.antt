use Rattle.std.proofs.Common.{◌≡◌, ◌++◌, [], ◌∷◌, length, map, vec_len, sym, ap, ◌∙◌}
use Rattle.std.proofs.lemmas.List.Elements.{All-push}
use Rattle.std.proofs.lemmas.List.{map_push, map-id}
use Rattle.std.proofs.lemmas.Iterator.Adapters.{YieldsList-from_vec}
use Rattle.std.proofs.lemmas.Iterator.Consumers.{YieldsList-end, YieldsList-turn}
use Rattle.fkv_store.proofs.closing.kept_by.Goals as goal

pub loop-pass-preserved : goal.loop-pass-preserved
loop-pass-preserved g c = record {
  sized =
      let gives = c.into_iter-pass-iterator.ensures.into_iter_gives in
      let road = YieldsList-from_vec c.args.passes.items gives.0 (gives.1 ∙ c.args.passes.ok.0) in
      let turn = YieldsList-turn road c.loop-pass.yielded c.loop-pass.pass-iterator c.loop-pass.yielded_by c.next.result c.next.new.self c.in-Some.pass c.in-Some.is c.next.ensures.steps in
      rw c.in-Ok.ensures.items
      (All-push (λ own. vec_len own ≡ c.args.count) c.loop-pass.owns.items c.end-own.result.0 c.loop-pass.invariant.sized
      (c.end-own.result.0.ok.0
      ∙ (ap length c.end-own.ensures.lists
      ∙ (sym c.pass.invariant.0 ∙ (ap (λ p. length p.told) c.pass.view_is ∙ (ap (λ p. length p.told) turn.1 ∙ c.requires (length c.loop-pass.yielded) c.in-Some.pass turn.0))))));
  owns =
      rw (← c.pass.view_is)
      (ap (map (λ own. map g.H.Recorder.entries own.items)) c.in-Ok.ensures.items
      ∙ (map_push (λ own. map g.H.Recorder.entries own.items) c.loop-pass.owns.items c.end-own.result.0
      ∙ (ap (λ owns. owns ++ map g.H.Recorder.entries c.end-own.result.0.items ∷ []) c.loop-pass.invariant.owns
      ∙ (ap (λ lists. map (λ pass. pass.own) c.loop-pass.yielded ++ map g.H.Recorder.entries lists ∷ []) c.end-own.ensures.lists
      ∙ sym (map_push (λ pass. pass.own) c.loop-pass.yielded _)))));
  shares =
      rw (← c.pass.view_is)
      (c.in-Ok-push.ensures.items
      ∙ (ap (λ shares. shares ++ c.end-own.result.1 ∷ []) c.loop-pass.invariant.shares
      ∙ (ap (λ share. map (λ pass. pass.share) c.loop-pass.yielded ++ share ∷ []) c.end-own.ensures.share
      ∙ sym (map_push (λ pass. pass.share) c.loop-pass.yielded _))));
}

pub returns-clause-owns : goal.returns-clause-owns
returns-clause-owns g c =
    let gives = c.into_iter-pass-iterator.ensures.into_iter_gives in
    let road = YieldsList-from_vec c.args.passes.items gives.0 (gives.1 ∙ c.args.passes.ok.0) in
    let end = YieldsList-end road c.loop-pass.yielded c.loop-pass.pass-iterator c.loop-pass.yielded_by c.next.result c.next.new.self c.in-None.is c.next.ensures.steps in
    c.loop-pass.invariant.owns ∙ ap (map (λ pass. pass.own)) (sym (map-id c.loop-pass.yielded) ∙ end.0)

pub returns-clause-shares : goal.returns-clause-shares
returns-clause-shares g c =
    let gives = c.into_iter-pass-iterator.ensures.into_iter_gives in
    let road = YieldsList-from_vec c.args.passes.items gives.0 (gives.1 ∙ c.args.passes.ok.0) in
    let end = YieldsList-end road c.loop-pass.yielded c.loop-pass.pass-iterator c.loop-pass.yielded_by c.next.result c.next.new.self c.in-None.is c.next.ensures.steps in
    c.loop-pass.invariant.shares ∙ ap (map (λ pass. pass.share)) (sym (map-id c.loop-pass.yielded) ∙ end.0)
