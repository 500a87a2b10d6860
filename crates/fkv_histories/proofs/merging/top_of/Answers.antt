use Rattle.std.proofs.Common.{arith, ◌≤◌, take}
use Rattle.std.proofs.lemmas.List.{take_all}
use Rattle.std.proofs.lemmas.List.Elements.{All-more, All-weaker}
use Rattle.fkv_histories.proofs.merging.top_of.Goals as goal

pub loop-entry-preserved : goal.loop-entry-preserved
loop-entry-preserved g c =
    let h = c.max-top.ensures in
    let was = c.loop-entry.invariant.0 in (
      omega arith,
      All-more (λ e. e.session ≤ c.max-top.result) c.args.list.now c.loop-entry.entry-index c.entry-item.result c.loop-entry-test.true
          (All-weaker (λ e. e.session ≤ c.loop-entry.top) (λ e. e.session ≤ c.max-top.result) (λ x p. omega (arith, h, p)) (take c.loop-entry.entry-index c.args.list.now) c.loop-entry.invariant.1)
          (rw (← c.entry-item.is) (omega (arith, h))),
    )

pub returns-clause-all : goal.returns-clause-all
returns-clause-all g c = rw (← take_all c.loop-entry.entry-index c.args.list.now c.loop-entry-test.false) c.loop-entry.invariant.1
