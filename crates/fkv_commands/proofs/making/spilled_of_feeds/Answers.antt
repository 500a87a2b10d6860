use Rattle.std.proofs.Common.{rules, ◌≤◌, arith, refl}
use Rattle.fkv_commands.proofs.MakingLemmas.{many-plan, one-plan}
use Rattle.fkv_commands.proofs.SpillingLemmas.{agree-spilled}
use Rattle.fkv_commands.proofs.making.spilled_of_feeds.Goals as goal

pub returns-then-workers-gt1-clause-ok : goal.returns-then-workers-gt1-clause-ok
returns-then-workers-gt1-clause-ok g c = λ keeps one. (let many = c.if-workers-gt1.true in absurd (omega (arith, one, many)))

pub returns-then-workers-gt1-clause-ran : goal.returns-then-workers-gt1-clause-ran
returns-then-workers-gt1-clause-ran g c =
    many-plan (λ run. run.plan) c.args.table.now c.args.table.now.workers c.spilled_by.result refl c.spilled_by.ensures.some c.spilled_by.ensures.ran

pub returns-clause-ok : goal.returns-clause-ok
returns-clause-ok g c =
    λ keeps asked. agree-spilled g.F.Value.Fixed.codec g.D.Receipt.Receipt.keeps g.D.Receipt.Receipt.stands g.F.Functions.meaning _ _ c.spill_one_by.result (rw c.as_slice.ensures.value at c.in-Ok.ensures.ok) ((rw c.as_mut_slice.ensures.value at c.spill_one_by.ensures.ok) keeps)

pub returns-clause-ran : goal.returns-clause-ran
returns-clause-ran g c =
    let few : c.args.table.now.workers ≤ 1 = search rules in
    one-plan (λ run. run.plan) c.args.table.now _ c.spill_one_by.result c.mode_of-mode.ensures few c.spill_one_by.ensures.ran
