use Rattle.std.proofs.Common.{◌≡◌, sym, ◌∙◌, subst, arith}
use Rattle.std.proofs.lemmas.Bool.{leb-true, le-leb}
use Rattle.fkv_partition.specs.Views.{LacksValue}
use Rattle.fkv_partition.proofs.partitions.Partition.may_need_page.Goals as goal

pub returns-in-Found : goal.returns-in-Found
returns-in-Found g c = (
  (λ d. record { entered = sym c.is_session.ensures.value ∙ c.if-not-is_session.false; lacks = subst (LacksValue c.args.self.now.records.log.begin) c.in-Found.ensures d }),
  (λ m. subst (LacksValue c.args.self.now.records.log.begin) (sym c.in-Found.ensures) m.lacks),
)

pub returns-in-Below : goal.returns-in-Below
returns-in-Below g c =
    let begin : c.begin.result ≡ c.args.self.now.records.log.begin = rw (← c.self.view_is) c.begin.ensures in (
      (λ h. let le = leb-true c.begin.result c.in-Below.address h in record { entered = sym c.is_session.ensures.value ∙ c.if-not-is_session.false; lacks = subst (LacksValue c.args.self.now.records.log.begin) c.in-Below.ensures (omega (arith, begin, le)) }),
      (λ m. let low = subst (LacksValue c.args.self.now.records.log.begin) (sym c.in-Below.ensures) m.lacks in le-leb c.begin.result c.in-Below.address (omega (arith, begin, low))),
    )
