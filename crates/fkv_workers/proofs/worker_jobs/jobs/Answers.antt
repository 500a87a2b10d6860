use Rattle.std.proofs.Common.{◌≡◌, ◌++◌, [], ◌∷◌, length, map, replicate, refl, sym, ap, ◌∙◌}
use Rattle.std.proofs.lemmas.List.{map_push, map-id, length-replicate}
use Rattle.std.proofs.lemmas.List.Elements.{All-push}
use Rattle.std.proofs.lemmas.Iterator.Adapters.{YieldsList-from_vec}
use Rattle.std.proofs.lemmas.Iterator.Consumers.{YieldsList-end}
use Rattle.fkv_workers.specs.Works.{StandsFor}
use Rattle.fkv_workers.proofs.StandLemmas.{stands_fresh}
use Rattle.fkv_workers.proofs.worker_jobs.jobs.Goals as goal

pub loop-share-preserved : goal.loop-share-preserved
loop-share-preserved g c =
    let old = c.loop-share.invariant in
    record {
      shares =
          rw c.in-Ok-push.ensures.items
          (map_push (λ job. job.share) c.loop-share.jobs.items _ ∙ ap (λ l. l ++ c.in-Some.share ∷ []) old.shares);
      ready =
          rw c.in-Ok-push.ensures.items
          (All-push (λ job. StandsFor g.H.Recorder.keeps g.F.Functions.code job.mode job.pass [] × (length job.pass.told ≡ job.store.now.count) × (map (λ rows. rows.items) job.waiting.items ≡ replicate job.store.now.count [])) c.loop-share.jobs.items _ old.ready (
            stands_fresh g.H.Recorder.keeps g.F.Functions.code c.args.mode c.args.store.now c.in-Ok.pass c.requires c.in-Ok.ensures.ok,
            ap (λ p. length p.told) c.in-Ok.ensures.ok ∙ length-replicate c.args.store.now.count 0,
            c.in-Ok-none_wait.ensures.ok ∙ ap (λ n. replicate n []) c.partitions.ensures,
          ));
      modes =
          rw c.in-Ok-push.ensures.items (All-push (λ job. job.mode ≡ c.args.mode) c.loop-share.jobs.items _ old.modes refl);
    }

pub returns-clause-shares : goal.returns-clause-shares
returns-clause-shares g c =
    let gives = c.into_iter-share-iterator.ensures.into_iter_gives in
    let road = YieldsList-from_vec c.args.shares.items gives.0 (gives.1 ∙ c.args.shares.ok.0) in
    let end = YieldsList-end road c.loop-share.yielded c.loop-share.share-iterator c.loop-share.yielded_by c.next.result c.next.new.self c.in-None.is c.next.ensures.steps in
    c.loop-share.invariant.shares ∙ (sym (map-id c.loop-share.yielded) ∙ end.0)
