use Rattle.std.proofs.Common.{[], ◌∷◌, length, sym, ap, ◌∙◌, arith, length-append}
use Rattle.std.proofs.lemmas.List.{map-id}
use Rattle.std.proofs.lemmas.List.Elements.{All-push}
use Rattle.std.proofs.lemmas.Iterator.Adapters.{YieldsList-from_vec}
use Rattle.std.proofs.lemmas.Iterator.Consumers.{YieldsList-end}
use Rattle.fkv_locked.specs.Kept.{seen, IsEnded}
use Rattle.fkv_store.proofs.closing.parts_of.Goals as goal

pub loop-lock-preserved : goal.loop-lock-preserved
loop-lock-preserved g c = record {
  ended = λ k held.
      rw c.in-Ok.ensures.items
      (All-push (λ part. IsEnded g.F.Key.Ord.cmp g.F.Functions.meaning (seen g.F.Key.Ord.cmp part.partition) part.history.items part.book)
      c.loop-lock.parts.items c.end.result (c.loop-lock.invariant.ended k held) (c.end.ensures.kept k held));
  len =
      rw c.in-Ok.ensures.items
      (omega (arith, c.loop-lock.invariant.len, length-append c.loop-lock.parts.items (c.end.result ∷ []), length-append c.loop-lock.yielded (c.in-Some.lock ∷ [])));
}

pub returns-clause-len : goal.returns-clause-len
returns-clause-len g c =
    let gives = c.into_iter-lock-iterator.ensures.into_iter_gives in
    let road = YieldsList-from_vec c.args.locks.items gives.0 (gives.1 ∙ c.args.locks.ok.0) in
    let end = YieldsList-end road c.loop-lock.yielded c.loop-lock.lock-iterator c.loop-lock.yielded_by c.next.result c.next.new.self c.in-None.is c.next.ensures.steps in
    c.loop-lock.invariant.len ∙ (ap length (sym (map-id c.loop-lock.yielded) ∙ end.0) ∙ sym c.args.locks.ok.0)
