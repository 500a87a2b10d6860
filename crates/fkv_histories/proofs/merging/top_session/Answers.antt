use Rattle.std.proofs.Common.{arith, ◌≤◌, take}
use Rattle.std.specs.List.{All}
use Rattle.std.proofs.lemmas.List.{take_all}
use Rattle.std.proofs.lemmas.List.Elements.{All-more, All-weaker}
use Rattle.fkv_histories.proofs.merging.top_session.Goals as goal

pub loop-own-preserved : goal.loop-own-preserved
loop-own-preserved g c =
    let least = c.top_of-top.ensures.least in
    All-more (λ own. All (λ e. e.session ≤ c.top_of-top.result) own.items) c.args.owns.now c.loop-own.own-index c.own-item.result c.loop-own-test.true
    (All-weaker (λ own. All (λ e. e.session ≤ c.loop-own.top) own.items) (λ own. All (λ e. e.session ≤ c.top_of-top.result) own.items)
    (λ own all. All-weaker (λ e. e.session ≤ c.loop-own.top) (λ e. e.session ≤ c.top_of-top.result) (λ x p. omega (arith, least, p)) own.items all)
    (take c.loop-own.own-index c.args.owns.now) c.loop-own.invariant)
    (rw (← c.own-item.is, ← c.as_slice.ensures.value) c.top_of-top.ensures.all)

pub returns : goal.returns
returns g c = rw (← take_all c.loop-own.own-index c.args.owns.now c.loop-own-test.false) c.loop-own.invariant
