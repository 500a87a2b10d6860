use Rattle.std.proofs.Common.{subst, sym}
use Rattle.std.specs.Prelude.{FitsSigned, neg_ℤ, pos}
use Rattle.std.specs.Int.{w64}
use Rattle.std.proofs.lemmas.Int.{to_z-of_z}
use Rattle.fkv_feed_rows.proofs.DigitLemmas.{amount_with, no_amount, as_signed, negated, negative_fits, positive_fits, number_short}
use Rattle.fkv_feed_rows.proofs.rows.amount.Goals as goal

pub returns-in_default : goal.returns-in_default
returns-in_default c = no_amount _ _ c.behind_sign-is_negative.ensures.rest c.in_default.ensures

pub overflow_cast-number : goal.overflow_cast-number
overflow_cast-number c = positive_fits _ (number_short _ _ c.if-digits-gt-FEW.false c.in-Some.ensures)

pub overflow_sub-result : goal.overflow_sub-result
overflow_sub-result c =
    let n = c.in-Some.number in
    let small = number_short _ n c.if-digits-gt-FEW.false c.in-Some.ensures in
    subst (FitsSigned w64) (sym (negated n small)) (negative_fits n small)

pub returns-then-is_negative : goal.returns-then-is_negative
returns-then-is_negative c =
    let n = c.in-Some.number in
    let small = number_short _ n c.if-digits-gt-FEW.false c.in-Some.ensures in
    let found = amount_with c.args.field.now c.behind_sign-is_negative.result.1.now c.behind_sign-is_negative.result.0 n c.behind_sign-is_negative.ensures.minus c.behind_sign-is_negative.ensures.rest c.if-digits-gt-FEW.false c.in-Some.ensures in
    rw (negated n small, to_z-of_z w64 (neg_ℤ (pos n)) (negative_fits n small)) (rw c.if-is_negative.true at found)

pub returns-else-is_negative : goal.returns-else-is_negative
returns-else-is_negative c =
    let n = c.in-Some.number in
    let small = number_short _ n c.if-digits-gt-FEW.false c.in-Some.ensures in
    let found = amount_with c.args.field.now c.behind_sign-is_negative.result.1.now c.behind_sign-is_negative.result.0 n c.behind_sign-is_negative.ensures.minus c.behind_sign-is_negative.ensures.rest c.if-digits-gt-FEW.false c.in-Some.ensures in
    rw (as_signed n small) (rw c.if-is_negative.false at found)
