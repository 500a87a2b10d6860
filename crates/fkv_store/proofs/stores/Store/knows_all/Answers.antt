use Rattle.std.proofs.Common.{refl, sym, subst}
use Rattle.std.specs.List.{All}
use Rattle.std.proofs.lemmas.List.{take_all}
use Rattle.std.proofs.lemmas.List.Elements.{All-more, All-get_or}
use Rattle.fkv_store.specs.Passes.{IsPassOf}
use Rattle.fkv_store.proofs.StrangeLemmas.{apart}
use Rattle.fkv_store.proofs.stores.Store.knows_all.Goals as goal

pub loop-pass-preserved : goal.loop-pass-preserved
loop-pass-preserved g c =
    All-more (IsPassOf c.args.self.now) c.args.passes.now c.loop-pass.pass-index c.pass-item.result c.loop-pass-test.true c.loop-pass.invariant
    (subst (IsPassOf c.args.self.now) c.pass-item.is c.in-Ok.ensures.ok)

pub returns : goal.returns
returns g c = (
  λ t.
      subst (All (IsPassOf c.args.self.now))
      (take_all c.loop-pass.pass-index c.args.passes.now c.loop-pass-test.false) c.loop-pass.invariant,
  λ all. refl,
)

pub returns-in-Err : goal.returns-in-Err
returns-in-Err g c = (
  λ t. absurd (cc),
  λ all.
      absurd
      (apart c.args.self.now c.pass-item.result c.in-Err._foreign c.in-Err.ensures.refused
      (subst (IsPassOf c.args.self.now) (sym c.pass-item.is)
      (All-get_or (IsPassOf c.args.self.now) c.args.passes.now c.loop-pass.pass-index c.pass-item.result c.loop-pass-test.true all))),
)
