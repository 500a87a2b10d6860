use Rattle.std.proofs.Common.{arith, inl, inr}
use Rattle.std.proofs.lemmas.Bool.Decides.{nat_tests}
use Rattle.fkv_feed_rows.proofs.DigitLemmas.{one_more, few_before, no_number, number_at_end}
use Rattle.fkv_feed_rows.proofs.rows.short_number.Goals as goal

pub returns-then-not-is_ascii_digit : goal.returns-then-not-is_ascii_digit
returns-then-not-is_ascii_digit c =
    no_number c.args.digits.now c.loop-byte.byte-index c.loop-byte-test.true (λ r. elim c.if-not-is_ascii_digit.ensures.cases [
      | inl low ↦ omega (arith, low, r.0)
      | inr high ↦ omega (arith, high, r.1)
    ])

pub overflow_mul-number : goal.overflow_mul-number
overflow_mul-number c =
    let i = c.loop-byte.invariant in
    omega (arith, few_before c.args.digits.now c.loop-byte.byte-index c.loop-byte.number c.loop-byte-test.true c.requires.few i.0 i.1)

pub overflow_add-number : goal.overflow_add-number
overflow_add-number c =
    let i = c.loop-byte.invariant in
    omega (arith, c.from.ensures, c.type_inv.digits c.loop-byte.byte-index, few_before c.args.digits.now c.loop-byte.byte-index c.loop-byte.number c.loop-byte-test.true c.requires.few i.0 i.1)

pub loop-byte-preserved : goal.loop-byte-preserved
loop-byte-preserved c =
    let i = c.loop-byte.invariant in
    let more = one_more c.args.digits.now c.loop-byte.byte-index c.loop-byte.number c.loop-byte-test.true i.0 i.1 c.if-not-is_ascii_digit.ensures.cases in
    (more.0, rw c.from.ensures more.1)

pub returns : goal.returns
returns c =
    let i = c.loop-byte.invariant in
    number_at_end c.args.digits.now c.loop-byte.byte-index c.loop-byte.number c.loop-byte-test.false (grind (arith, nat_tests, c.if-is_empty.ensures)) i.0 i.1
