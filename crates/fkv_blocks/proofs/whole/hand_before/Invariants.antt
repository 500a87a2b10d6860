use Rattle.fkv_blocks.specs.Shares.{WereRead}
use Rattle.fkv_blocks.proofs.whole.hand_before.Given as goal

abbrev pub invariant-loop-ticket : goal.invariant-loop-ticket
invariant-loop-ticket g l = WereRead g.B.Origin.feeds l.kept.items
