use Rattle.std.specs.Prelude.{FitsSigned}
use Rattle.std.specs.Int.{w64}
use Rattle.std.proofs.lemmas.Int.{to_z-of_z}
use Rattle.fkv_feed_rows.proofs.AmountLemmas.{amount_read, utf8_amount}
use Rattle.fkv_feed_rows.proofs.rows.long_amount.Goals as goal

pub returns-in_default : goal.returns-in_default
returns-in_default c = utf8_amount c.args.field.now c.in_default.ensures.none

pub returns-in-Ok : goal.returns-in-Ok
returns-in-Ok c =
    let h = amount_read c.in-Some.text.now c.parse.result c.parse.ensures.value.0 in
    let fits : FitsSigned w64 c.in-Ok.amount = rw c.in-Ok.ensures.value.0.1 c.in-Ok.ensures.value.0.0.1 in
    rw (to_z-of_z w64 c.in-Ok.amount fits, ← c.in-Some.ensures.text) (rw c.in-Ok.is at h)

pub returns-in-Err : goal.returns-in-Err
returns-in-Err c =
    let h = amount_read c.in-Some.text.now c.parse.result c.parse.ensures.value.0 in
    rw (← c.in-Some.ensures.text) (rw c.in-Err.is at h)
