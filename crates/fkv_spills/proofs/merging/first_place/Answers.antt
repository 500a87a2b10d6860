use Rattle.std.proofs.Common.{◌-◌, length, refl, sym, ◌∙◌, ap, subst, arith}
use Rattle.fkv_functions.specs.Names.{name_cmp}
use Rattle.fkv_runs.specs.Merging.{chosen}
use Rattle.fkv_spills.proofs.HeldLemmas.{first-end, first-step}
use Rattle.fkv_spills.proofs.merging.first_place.Goals as goal

pub loop-place-init : goal.loop-place-init
loop-place-init g c = record {
  low = omega arith;
  is = λ lists h. first-end g.P.ReadPairs.holds c.args.rests.now lists (length c.args.rests.now) refl h;
}

pub loop-place-preserved : goal.loop-place-preserved
loop-place-preserved g c =
    let place = c.loop-place.place in
    let some = c.loop-place-test.true in
    let most = c.loop-place.invariant.low in
    record {
      low = omega arith;
      is = λ lists h.
          c.sooner-first.ensures
          ∙ ap (chosen name_cmp (place - 1) c.next_name.result) (c.loop-place.invariant.is lists h)
          ∙ sym (first-step g.P.ReadPairs.holds c.args.rests.now lists (place - 1) place c.index-rests-place.result c.next_name.result (omega arith) (omega arith) h
          (λ xs one. c.next_name.ensures xs (subst (λ a. g.P.ReadPairs.holds a xs) (sym c.index-rests-place.is) one)));
    }
