use Rattle.std.proofs.Common.{arith, ◌≡◌, ◌≤◌, ◌∙◌, ap, length, map, replicate}
use Rattle.std.specs.List.{All}
use Rattle.std.proofs.lemmas.List.{length-map, length-replicate}
use Rattle.fkv_histories.proofs.MergeLemmas.{owners_none, owners_more, own_here, own_all}
use Rattle.fkv_histories.proofs.merging.owners.Goals as goal

pub loop-owner-init : goal.loop-owner-init
loop-owner-init g c =
    let items : c.in-Ok.who.items ≡ replicate c.in-Some.size (length c.args.owns.now) = c.in-Ok.ensures.items_if_clones_equal (λ y h. h) in (
      ap length items ∙ length-replicate c.in-Some.size (length c.args.owns.now),
      rw (items, ← length-map c.args.owns.now (λ own. own.items)) (owners_none (map (λ own. own.items) c.args.owns.now) c.in-Some.size),
    )

pub claim-requires : goal.claim-requires
claim-requires g c =
    let sized = c.in-Some.ensures.1 in
    rw c.as_slice.ensures.value (λ k d lt.
    let top = own_all (λ own. own.items) c.args.owns.now c.loop-owner.owner c.index-owns-owner.result c.loop-owner-test.true c.index-owns-owner.is
    (λ own. All (λ e. e.session ≤ c.top_session.result) own) c.top_session.ensures k d lt in
    omega (arith, top, c.loop-owner.invariant.0, sized))

pub loop-owner-preserved : goal.loop-owner-preserved
loop-owner-preserved g c = (
  c.claim.ensures.len ∙ c.loop-owner.invariant.0,
  owners_more c.loop-owner.who.items c.claim.new.who.items (map (λ own. own.items) c.args.owns.now) c.loop-owner.owner c.index-owns-owner.result.items
      (own_here (λ own. own.items) c.args.owns.now c.loop-owner.owner c.index-owns-owner.result c.loop-owner-test.true c.index-owns-owner.is)
      c.loop-owner.invariant.1 (rw (← c.as_slice.ensures.value) c.claim.ensures.claimed),
)
