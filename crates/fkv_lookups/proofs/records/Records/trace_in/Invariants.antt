use Rattle.std.proofs.Common.{◌≤◌}
use Rattle.std.specs.Prelude.{IsTrue}
use Rattle.fkv_hybrid.specs.Spelled.{IsEntryIn}
use Rattle.fkv_lookups.specs.Lookups.{IsOfClass, at_of}
use Rattle.fkv_lookups.proofs.WayLemmas.{IsKeptOn, IsReadOn}
use Rattle.fkv_lookups.proofs.records.Records.trace_in.Given as goal

-- what the bytes spell from here, with the parts so far, they spell from the first address; and on a device that keeps, what
-- is told of the key from here is told from there
abbrev pub invariant-loop-last : goal.invariant-loop-last
invariant-loop-last g l =
    let cmp = g.F.Key.Ord.cmp in
    let join = g.F.Mergeable.parts.joined in
    let code = g.F.Functions.code in
    let entry = IsEntryIn g.F.Key.Fixed.codec g.F.Value.Fixed.codec l.self.log.bits l.loaded.bytes in
    record {
      read : IsReadOn join entry cmp l.key l.self.log.bits l.low l.from l.fn.parts l.parts l.position;
      kept : IsTrue g.R.Receipt.keeps → l.self.log.begin ≤ l.from → IsOfClass code l.self l.key l.from → IsKeptOn cmp join code l.self l.key l.low l.from l.fn.parts l.parts l.position;
    }

abbrev pub decreases-loop-last : goal.decreases-loop-last
decreases-loop-last g l = at_of l.position
