use Rattle.std.proofs.Common.{◌≡◌, ◌∙◌, length, map, refl, sym}
use Rattle.std.proofs.lemmas.List.{length-map}
use Rattle.fkv_closing.proofs.PlaceLemmas.{here, each_more, each_all}
use Rattle.fkv_closing.proofs.merges.are_numbered.Goals as goal

pub returns-then-number-place : goal.returns-then-number-place
returns-then-number-place g c = (
  λ f. absurd (cc),
  λ all.
      let there = here (λ part. part.partition) c.args.parts.now c.loop-place.place c.index-parts-place.result c.loop-place-test.true c.index-parts-place.is in
      absurd (c.if-number-place.true (c.number.ensures ∙ all.numbered c.loop-place.place c.index-parts-place.result.partition there)),
)

pub returns-then-count-parts : goal.returns-then-count-parts
returns-then-count-parts g c = (
  λ f. absurd (cc),
  λ all.
      let there = here (λ part. part.partition) c.args.parts.now c.loop-place.place c.index-parts-place.result c.loop-place-test.true c.index-parts-place.is in
      absurd (c.if-count-parts.true (c.count.ensures ∙ (all.counted c.loop-place.place c.index-parts-place.result.partition there ∙ length-map c.args.parts.now (λ part. part.partition)))),
)

pub loop-place-preserved : goal.loop-place-preserved
loop-place-preserved g c =
    each_more (λ part. part.partition) c.args.parts.now c.loop-place.place c.index-parts-place.result c.loop-place-test.true c.index-parts-place.is
    (λ p v. (v.number ≡ p) × (v.count ≡ length (map (λ part. part.partition) c.args.parts.now)))
    c.loop-place.invariant
    (sym c.number.ensures ∙ c.if-number-place.false, sym c.count.ensures ∙ (c.if-count-parts.false ∙ sym (length-map c.args.parts.now (λ part. part.partition))))

pub returns : goal.returns
returns g c =
    let all = each_all (λ part. part.partition) c.args.parts.now c.loop-place.place
    (λ p v. (v.number ≡ p) × (v.count ≡ length (map (λ part. part.partition) c.args.parts.now)))
    c.loop-place-test.false c.loop-place.invariant in (
      λ t. record { numbered = λ p v at. (all p v at).0; counted = λ p v at. (all p v at).1 },
      λ n. refl,
    )
