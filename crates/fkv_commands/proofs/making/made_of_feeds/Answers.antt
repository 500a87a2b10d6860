use Rattle.std.proofs.Common.{rules, ◌≤◌, refl}
use Rattle.fkv_commands.proofs.MakingLemmas.{many-plan, one-plan}
use Rattle.fkv_commands.proofs.OpeningLemmas.{agree-run}
use Rattle.fkv_commands.proofs.making.made_of_feeds.Goals as goal

pub returns-then-table-clause-ok : goal.returns-then-table-clause-ok
returns-then-table-clause-ok g c =
    λ keeps asked. agree-run g.F.Functions.meaning (λ run. run.table) _ _ c.shared.result (rw c.as_slice.ensures.value at c.in-Ok.ensures.ok) (c.shared.ensures.ok refl keeps)

pub returns-then-table-clause-ran : goal.returns-then-table-clause-ran
returns-then-table-clause-ran g c = many-plan (λ run. run.plan) c.args.table.now c.args.table.now.workers c.shared.result refl c.shared.ensures.some c.shared.ensures.ran

pub returns-then-workers-gt1-clause-ran : goal.returns-then-workers-gt1-clause-ran
returns-then-workers-gt1-clause-ran g c =
    many-plan (λ run. run.plan) c.args.table.now c.args.table.now.workers c.shared-then-workers-gt1.result refl c.shared-then-workers-gt1.ensures.some c.shared-then-workers-gt1.ensures.ran

pub returns-clause-ok : goal.returns-clause-ok
returns-clause-ok g c =
    λ keeps asked. agree-run g.F.Functions.meaning (λ run. run.table) _ _ c.run_one_by.result (rw c.as_slice.ensures.value at c.in-Ok.ensures.ok) ((rw c.as_mut_slice.ensures.value at c.run_one_by.ensures.ok) keeps)

pub returns-clause-ran : goal.returns-clause-ran
returns-clause-ran g c =
    let few : c.args.table.now.workers ≤ 1 = search rules in
    one-plan (λ run. run.plan) c.args.table.now _ c.run_one_by.result c.mode_of-mode.ensures few c.run_one_by.ensures.ran
