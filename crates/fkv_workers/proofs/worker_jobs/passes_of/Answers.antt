use Rattle.std.proofs.Common.{◌≡◌, ◌++◌, [], ◌∷◌, None, map, sym, ap, subst, ◌∙◌, inr, append_assoc}
use Rattle.std.specs.Vec.Iter.{into_iter_items}
use Rattle.std.specs.List.{All}
use Rattle.std.proofs.lemmas.List.{map-id, map_push, map-append}
use Rattle.std.proofs.lemmas.List.Elements.{All-push}
use Rattle.std.proofs.lemmas.Iterator.Adapters.{YieldsList-from_vec}
use Rattle.std.proofs.lemmas.Iterator.Consumers.{YieldsList-end}
use Rattle.fkv_workers.proofs.worker_jobs.passes_of.Goals as goal

pub loop-one-preserved : goal.loop-one-preserved
loop-one-preserved g c =
    let old = c.loop-one.invariant in
    let turn : into_iter_items c.loop-one.one-iterator ≡ c.in-Some.one ∷ into_iter_items c.next.new.self = c.in-Some.ensures.steps.0 in
    record {
      passes =
          c.in-Ok.ensures.items
          ∙ (ap (λ l. l ++ c.in-Some.one.pass ∷ []) old.passes ∙ sym (map_push (λ w. w.pass) c.loop-one.yielded c.in-Some.one));
      none =
          rw (map_push (λ w. w.fault) c.loop-one.yielded c.in-Some.one)
          (All-push (λ fault. fault ≡ None) (map (λ w. w.fault) c.loop-one.yielded) c.in-Some.one.fault old.none c.in-None-fault.is);
      whole =
          append_assoc c.loop-one.yielded (c.in-Some.one ∷ []) (into_iter_items c.next.new.self)
          ∙ (ap (λ l. c.loop-one.yielded ++ l) (sym turn) ∙ old.whole);
    }

pub returns-in-Some-fault-clause-refused : goal.returns-in-Some-fault-clause-refused
returns-in-Some-fault-clause-refused g c =
    let old = c.loop-one.invariant in
    let turn : into_iter_items c.loop-one.one-iterator ≡ c.in-Some.one ∷ into_iter_items c.next.new.self = c.in-Some.ensures.steps.0 in
    let all : into_iter_items c.into_iter-one-iterator.result ≡ c.args.results.items = c.into_iter-one-iterator.ensures.into_iter_gives.0 in
    let rest = map (λ w. w.fault) (into_iter_items c.next.new.self) in
    let is = ap (map (λ w. w.fault)) (sym all ∙ (sym old.whole ∙ ap (λ l. c.loop-one.yielded ++ l) turn)) in
    inr (record {
      before = map (λ w. w.fault) c.loop-one.yielded;
      after = rest;
      is = is ∙ (map-append (λ w. w.fault) c.loop-one.yielded (c.in-Some.one ∷ into_iter_items c.next.new.self) ∙ ap (λ f. map (λ w. w.fault) c.loop-one.yielded ++ f ∷ rest) c.in-Some-fault.is);
      none = old.none;
    })

pub returns-clause-ok : goal.returns-clause-ok
returns-clause-ok g c =
    let gives = c.into_iter-one-iterator.ensures.into_iter_gives in
    let road = YieldsList-from_vec c.args.results.items gives.0 (gives.1 ∙ c.args.results.ok.0) in
    let end = YieldsList-end road c.loop-one.yielded c.loop-one.one-iterator c.loop-one.yielded_by c.next.result c.next.new.self c.in-None.is c.next.ensures.steps in
    c.loop-one.invariant.passes ∙ ap (map (λ w. w.pass)) (sym (map-id c.loop-one.yielded) ∙ end.0)

pub returns-clause-none : goal.returns-clause-none
returns-clause-none g c =
    let gives = c.into_iter-one-iterator.ensures.into_iter_gives in
    let road = YieldsList-from_vec c.args.results.items gives.0 (gives.1 ∙ c.args.results.ok.0) in
    let end = YieldsList-end road c.loop-one.yielded c.loop-one.one-iterator c.loop-one.yielded_by c.next.result c.next.new.self c.in-None.is c.next.ensures.steps in
    subst (λ ws. All (λ fault. fault ≡ None) (map (λ w. w.fault) ws)) (sym (map-id c.loop-one.yielded) ∙ end.0) c.loop-one.invariant.none
