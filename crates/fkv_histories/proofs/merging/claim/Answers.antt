use Rattle.std.proofs.Common.{arith, ◌∙◌, ap}
use Rattle.std.proofs.lemmas.List.{take_all, length-set}
use Rattle.fkv_histories.proofs.MergeLemmas.{claimed_more}
use Rattle.fkv_histories.proofs.merging.claim.Goals as goal

pub index_mut-requires : goal.index_mut-requires
index_mut-requires g c =
    let is = ap (λ e. e.session) c.entry-item.is in
    let low = c.requires c.loop-entry.entry-index c.entry-item.result c.loop-entry-test.true in
    let len = c.loop-entry.invariant.0 in
    omega arith

pub loop-entry-preserved : goal.loop-entry-preserved
loop-entry-preserved g c =
    let is = ap (λ e. e.session) c.entry-item.is in
    let low = c.requires c.loop-entry.entry-index c.entry-item.result c.loop-entry-test.true in
    let len = c.loop-entry.invariant.0 in (
      length-set c.loop-entry.who.items c.entry-item.result.session c.args.owner ∙ len,
      claimed_more c.args.who.now.items c.loop-entry.who.items c.args.list.now c.loop-entry.entry-index c.args.owner c.entry-item.result c.loop-entry-test.true c.entry-item.is (omega (arith, is, low, len)) c.loop-entry.invariant.1,
    )

pub returns-clause-claimed : goal.returns-clause-claimed
returns-clause-claimed g c = rw (← take_all c.loop-entry.entry-index c.args.list.now c.loop-entry-test.false) c.loop-entry.invariant.1
