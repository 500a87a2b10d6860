use Rattle.std.proofs.Common.{◌≡◌, take}
use Rattle.fkv_blocks.specs.Pieces.{records_of}
use Rattle.fkv_blocks.proofs.whole.total.Given as goal

-- those of the blocks so far
abbrev pub invariant-loop-taken : goal.invariant-loop-taken
invariant-loop-taken l = l.total ≡ records_of (take l.taken-index l.order)
