use Rattle.std.proofs.Common.{◌<◌, [], length, map, sym, ap, ◌∙◌, arith}
use Rattle.std.proofs.lemmas.List.{get_or-map}
use Rattle.fkv_histories.specs.Merges.{IsMerge, IsShuffle}
use Rattle.fkv_closing.specs.Lists.{lists_at}
use Rattle.fkv_closing.proofs.PlaceLemmas.{here, each_more, each_all}
use Rattle.fkv_closing.proofs.merges.are_merged.Goals as goal

pub returns-then-not-merged-clause-unmerged : goal.returns-then-not-merged-clause-unmerged
returns-then-not-merged-clause-unmerged g c fails =
    let place = c.loop-place.place in
    let low : place < length c.args.all.now = omega (arith, c.loop-place-test.true, c.requires) in
    let lists = get_or-map (λ of. map (λ own. own.items) of.items) c.args.all.now place c.index-all-place.result [] low ∙ ap (λ of. map (λ own. own.items) of.items) (sym c.index-all-place.is) in
    record {
      partition = place;
      history = c.index-parts-place.result.history.items;
      here = here (λ part. part.history.items) c.args.parts.now place c.index-parts-place.result c.loop-place-test.true c.index-parts-place.is;
      unlike = λ s.
          let t = c.in-Ok.ensures.exactly.1 (rw (c.as_slice.ensures.value, c.as_slice-in-loop-place.ensures.value, ← lists) s) in
          absurd (cc);
    }

pub loop-place-preserved : goal.loop-place-preserved
loop-place-preserved g c =
    let place = c.loop-place.place in
    let low : place < length c.args.all.now = omega (arith, c.loop-place-test.true, c.requires) in
    let lists = get_or-map (λ of. map (λ own. own.items) of.items) c.args.all.now place c.index-all-place.result [] low ∙ ap (λ of. map (λ own. own.items) of.items) (sym c.index-all-place.is) in
    each_more (λ part. part.history.items) c.args.parts.now place c.index-parts-place.result c.loop-place-test.true c.index-parts-place.is
    (λ p history. IsMerge history (lists_at (map (λ of. map (λ own. own.items) of.items) c.args.all.now) p) × IsShuffle history (lists_at (map (λ of. map (λ own. own.items) of.items) c.args.all.now) p))
    c.loop-place.invariant (
      rw (lists, ← c.as_slice.ensures.value, ← c.as_slice-in-loop-place.ensures.value) (c.in-Ok.ensures.merge c.if-not-merged.false),
      rw (lists, ← c.as_slice.ensures.value, ← c.as_slice-in-loop-place.ensures.value) (c.in-Ok.ensures.exactly.0 c.if-not-merged.false),
    )

pub returns-clause-merged : goal.returns-clause-merged
returns-clause-merged g c holds =
    each_all (λ part. part.history.items) c.args.parts.now c.loop-place.place
    (λ p history. IsMerge history (lists_at (map (λ of. map (λ own. own.items) of.items) c.args.all.now) p) × IsShuffle history (lists_at (map (λ of. map (λ own. own.items) of.items) c.args.all.now) p))
    c.loop-place-test.false c.loop-place.invariant
