use Rattle.std.proofs.Common.{arith}
use Rattle.fkv_streams.proofs.StreamLemmas.{one-end, one-byte, all-taken, none-left}
use Rattle.fkv_streams.proofs.reading.front.Goals as goal
use Rattle.fkv_streams.proofs.reading.front.Goals.{then-byte-eq10, else-byte-eq10}

pub returns-then-left-eq0-clause-taken : goal.returns-then-left-eq0-clause-taken
returns-then-left-eq0-clause-taken c = (none-left c.args.count c.loop-at.left c.loop-at.at c.args.bytes.now c.if-left-eq0.true c.loop-at.invariant.taken c.loop-at.invariant.more).0

pub returns-then-left-eq0-clause-left : goal.returns-then-left-eq0-clause-left
returns-then-left-eq0-clause-left c = (none-left c.args.count c.loop-at.left c.loop-at.at c.args.bytes.now c.if-left-eq0.true c.loop-at.invariant.taken c.loop-at.invariant.more).1

pub loop-at-preserved : goal.loop-at-preserved
loop-at-preserved c =
    elim c.if-byte-eq10.branch [
      | then-byte-eq10 w ↦ let k = one-end c.args.count c.loop-at.left c.loop-at.at c.args.bytes.now c.loop-at-test.true c.if-left-eq0.false w.if-byte-eq10.true c.loop-at.invariant.taken c.loop-at.invariant.more in rw w.left-is (record { taken = k.0; more = k.1; fresh = λ e. absurd (omega arith) })
      | else-byte-eq10 w ↦ let k = one-byte c.args.count c.loop-at.left c.loop-at.at c.args.bytes.now c.loop-at-test.true c.if-left-eq0.false w.if-byte-eq10.false c.loop-at.invariant.taken c.loop-at.invariant.more in rw w.left-is (record { taken = k.0; more = k.1; fresh = λ e. absurd (omega arith) })
    ]

pub returns-clause-taken : goal.returns-clause-taken
returns-clause-taken c = (all-taken c.args.count c.loop-at.left c.loop-at.at c.args.bytes.now c.loop-at-test.false c.loop-at.invariant.taken c.loop-at.invariant.more).0

pub returns-clause-left : goal.returns-clause-left
returns-clause-left c = (all-taken c.args.count c.loop-at.left c.loop-at.at c.args.bytes.now c.loop-at-test.false c.loop-at.invariant.taken c.loop-at.invariant.more).1
