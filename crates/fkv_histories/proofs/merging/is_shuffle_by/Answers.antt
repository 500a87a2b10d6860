use Rattle.std.proofs.Common.{arith, ◌≡◌, ◌∙◌, refl, sym, ap, length, map, sum_by}
use Rattle.std.specs.List.{filter}
use Rattle.std.proofs.lemmas.Bool.{eq-eqb, eqb-true}
use Rattle.std.proofs.lemmas.List.{take_all, length-map}
use Rattle.std.proofs.lemmas.Option.{slice_get_within}
use Rattle.fkv_histories.specs.Merges.{told, owned_by, owner_in}
use Rattle.fkv_histories.proofs.MergeLemmas.{parts_more, total_more}
use Rattle.fkv_histories.proofs.merging.is_shuffle_by.Goals as goal

pub loop-owner-preserved : goal.loop-owner-preserved
loop-owner-preserved g c =
    let list = c.index-owns-owner.result in
    let total = total_more (λ v. v.items) c.args.owns.now c.loop-owner.owner list c.loop-owner-test.true c.index-owns-owner.is in
    let value = c.as_slice-list.ensures.value in
    let more = c.in-Some.ensures in
    let was = c.loop-owner.invariant.1 in (
      parts_more (λ v. v.items) c.args.owns.now c.loop-owner.owner list c.loop-owner-test.true c.index-owns-owner.is
          (λ k own. told own ≡ told (filter (owned_by (owner_in c.args.who.now c.args.nobody) k) c.args.history.now)) c.loop-owner.invariant.0
          (sym (ap told value) ∙ c.if-not-is_part.ensures.0 refl),
      omega (arith, total, ap length value, more, was),
    )

pub returns : goal.returns
returns g c =
    let len : length (map (λ v. v.items) c.args.owns.now) ≡ length c.args.owns.now = length-map c.args.owns.now (λ v. v.items) in
    let all = take_all c.loop-owner.owner (map (λ v. v.items) c.args.owns.now) (rw len c.loop-owner-test.false) in
    let total : c.loop-owner.total ≡ sum_by length (map (λ v. v.items) c.args.owns.now) = c.loop-owner.invariant.1 ∙ ap (sum_by length) all in (
      λ is. record {
        parts = λ i own at. (let low = slice_get_within (map (λ v. v.items) c.args.owns.now) i own at in c.loop-owner.invariant.0 i own (omega (arith, len, low, c.loop-owner-test.false)) at);
        total = sym total ∙ eqb-true c.loop-owner.total (length c.args.history.now) is;
      },
      λ s. eq-eqb c.loop-owner.total (length c.args.history.now) (total ∙ s.total),
    )
