use Rattle.std.proofs.Common.{map}
use Rattle.std.specs.List.{All}
use Rattle.fkv_blocks.specs.Shares.{WereRead}
use Rattle.fkv_blocks.proofs.whole.hands_before.Given as goal

abbrev pub invariant-loop-hand : goal.invariant-loop-hand
invariant-loop-hand g l = All (WereRead g.B.Origin.feeds) (map (λ hand. hand.items) l.kept.items)
