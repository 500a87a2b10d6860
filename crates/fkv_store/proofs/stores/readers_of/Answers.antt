use Rattle.std.proofs.Common.{◌∷◌, [], inl, inr, sym, ap, ◌∙◌, length-append, arith}
use Rattle.fkv_functions.proofs.ListLemmas.{get-append_cases}
use Rattle.fkv_store.proofs.stores.readers_of.Goals as goal

pub loop-number-preserved : goal.loop-number-preserved
loop-number-preserved g c = record {
  len = rw c.in-Ok-push.ensures.items (omega (arith, length-append c.loop-number.readers.items (c.in-Ok.reader ∷ []), c.loop-number.invariant.len));
  places = λ p r at. elim (get-append_cases c.loop-number.readers.items c.in-Ok.reader p r (rw c.in-Ok-push.ensures.items at at)) [
    | inl a ↦ c.loop-number.invariant.places p r a
    | inr b ↦ ap g.D.Reader.PageReader.part (sym b.1) ∙ (c.in-Ok.ensures.place ∙ (sym c.loop-number.invariant.len ∙ sym b.0))
  ];
}
