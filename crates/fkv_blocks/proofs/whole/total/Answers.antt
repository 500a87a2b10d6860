use Rattle.std.proofs.Common.{◌+◌, arith}
use Rattle.fkv_blocks.specs.declared.orders.Taken.{Taken}
use Rattle.fkv_blocks.proofs.WholeLemmas.{records_more, records_rise}
use Rattle.fkv_blocks.proofs.whole.total.Goals as goal

abbrev blank : Taken
blank = record { worker = 0; span = record { low = 0; high = 0; records = 0 } }

pub returns-in_err-total-clause-none : goal.returns-in_err-total-clause-none
returns-in_err-total-clause-none c =
    let order = c.args.order.now in
    let i = c.loop-taken.taken-index in
    let more = records_more order i blank c.loop-taken-test.true in
    let rise = records_rise order (i + 1) in
    rw c.from_residual.ensures (omega (arith, more, rise, c.loop-taken.invariant, c.in_err-total.ensures))

pub loop-taken-preserved : goal.loop-taken-preserved
loop-taken-preserved c =
    let more = records_more c.args.order.now c.loop-taken.taken-index blank c.loop-taken-test.true in
    omega (arith, more, c.loop-taken.invariant, c.in_ok-total.ensures)
