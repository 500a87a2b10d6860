use Rattle.std.proofs.Common.{rules, ◌≡◌, ◌∙◌, [], ◌∷◌, length, vec_len, map, ap, subst, IfErr}
use Rattle.std.proofs.lemmas.List.Elements.{All-rest}
use Rattle.std.specs.List.{AllZip}
use Rattle.std.specs.Vec.Iter.{into_iter_items}
use Rattle.fkv_jobs.proofs.HandleLemmas.{moved, kept_each, none_left}
use Rattle.fkv_jobs.proofs.jobs.fn.run_jobs.scope.Goals as goal

pub loop-job-preserved : goal.loop-job-preserved
loop-job-preserved g c =
    let rest = into_iter_items c.loop-job.job-iterator in
    let rest' = into_iter_items c.next.new.self in
    let turn : rest ≡ c.in-Some.job ∷ rest' = search rules in
    let asked = ap (λ a. a.0.value) c.in-Ok-spawn_with-2.ensures.ok ∙ c.of.ensures in (
      rw c.in-Ok-push.ensures.items (moved (λ h. h.promise.0.value) c.loop-job.handles.items c.in-Ok-spawn_with-2.child c.in-Some.job rest rest' (into_iter_items c.into_iter-job-iterator.result) c.loop-job.invariant.0 turn asked),
      All-rest g.J.Job.ready c.in-Some.job rest' rest turn c.loop-job.invariant.1,
    )

pub returns : goal.returns
returns g c =
    let hs = c.loop-job.handles.items in
    let rs = c.in-Ok-results.results.items in
    let rest = into_iter_items c.loop-job.job-iterator in
    let many : length hs ≡ vec_len c.loop-job.handles = search rules in
    let same : length rs ≡ vec_len c.loop-job.handles = search rules in
    let none : length rest ≡ 0 = search rules in
    let over : rest ≡ [] = none_left rest none in
    let all : map (λ h. h.promise.0.value) hs ≡ c.captures.jobs.items = search rules in
    let results : AllZip g.J.Job.gives c.captures.jobs.items rs = subst (λ xs. AllZip g.J.Job.gives xs rs) all (kept_each (λ q. q.0.value) g.J.Job.gives (λ q r k. k) (vec_len c.loop-job.handles) hs rs many same c.in-Ok-results.ensures.each) in
    let kept : IfErr c.join-kept.result (g.K.Keeper.fault c.captures.keeper.now) =
    subst (λ k. IfErr c.join-kept.result (g.K.Keeper.fault k)) (ap (λ q. q.0.value) c.in-Ok-spawn_with.ensures.ok ∙ c.by.ensures) c.join-kept.ensures in
    record { ok = record { results = results; kept = kept }; only = tt }
