use Rattle.std.proofs.Common.{◌≡◌, length, ◌+◌, ◌-◌, take, drop, arith}
use Rattle.std.proofs.lemmas.Bool.Decides.{nat_tests}
use Rattle.fkv_functions.proofs.ZeroLemmas.{zero-word, word-zero, part-zero, more-zero, all-zero}
use Rattle.fkv_functions.proofs.names.is_zeros.Goals as goal

pub returns-then-word_of-ne0 : goal.returns-then-word_of-ne0
returns-then-word_of-ne0 c =
    let xs = c.args.bytes.now in
    let at = c.loop-at.at in (
      λ t. absurd (cc),
      λ e. absurd (c.if-word_of-ne0.true (zero-word c.word_of.result (take (at + 8 - at) (drop at xs)) c.word_of.type_inv c.word_of.ensures (part-zero xs at (at + 8) (omega arith) (omega arith) e))),
    )

pub loop-at-preserved : goal.loop-at-preserved
loop-at-preserved c =
    let xs = c.args.bytes.now in
    let at = c.loop-at.at in
    (omega arith, more-zero xs at c.loop-at.invariant.1 (word-zero c.word_of.result (take (at + 8 - at) (drop at xs)) c.word_of.ensures c.if-word_of-ne0.false))

pub returns : goal.returns
returns c =
    let xs = c.args.bytes.now in
    let low = length c.args.bytes.now - 8 in
    let last = take (length c.args.bytes.now - low) (drop low xs) in (
      λ t. let none : c.word_of-2.result ≡ 0 = grind (arith, nat_tests) in all-zero xs low c.loop-at.at (omega arith) c.loop-at.invariant.0 (omega arith) c.loop-at.invariant.1 (word-zero c.word_of-2.result last c.word_of-2.ensures none),
      λ e. let none : c.word_of-2.result ≡ 0 = zero-word c.word_of-2.result last c.word_of-2.type_inv c.word_of-2.ensures (part-zero xs low (length c.args.bytes.now) (omega arith) (omega arith) e) in grind (arith, nat_tests),
    )
