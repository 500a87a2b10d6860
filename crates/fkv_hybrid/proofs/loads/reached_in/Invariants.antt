use Rattle.std.proofs.Common.{Result}
use Rattle.fkv_functions.specs.declared.refusals.Refused.{Refused}
use Rattle.fkv_texts.specs.declared.entries.ChainPosition.{ChainPosition}
use Rattle.fkv_hybrid.specs.Spelled.{IsEntryIn}
use Rattle.fkv_hybrid.specs.Loads.{IsReached}
use Rattle.fkv_hybrid.proofs.loads.reached_in.Given as goal

-- what is reached from here is reached from the first address
abbrev pub invariant-loop-address : goal.invariant-loop-address
invariant-loop-address g l =
    (r : Result (ChainPosition g.row.K.Denot g.row.V.Denot) Refused)
    → IsReached (IsEntryIn g.K.Fixed.codec g.V.Fixed.codec l.shape.page_bits l.page) g.K.Ord.cmp l.key l.shape.page_bits l.low l.address r
    → IsReached (IsEntryIn g.K.Fixed.codec g.V.Fixed.codec l.shape.page_bits l.page) g.K.Ord.cmp l.key l.shape.page_bits l.low l.from r

abbrev pub decreases-loop-address : goal.decreases-loop-address
decreases-loop-address g l = l.address
