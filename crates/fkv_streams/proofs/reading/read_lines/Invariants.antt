use Rattle.std.proofs.Common.{◌≡◌, ◌-◌, ◌^◌}
use Rattle.fkv_streams.proofs.StreamLemmas.{SoFar}
use Rattle.fkv_streams.proofs.reading.read_lines.Given as goal

abbrev pub invariant-loop-left : goal.invariant-loop-left
invariant-loop-left g l = record {
  read : SoFar l.fn.count (g.R.Source.remaining l.initial.reader) (g.R.Source.remaining l.reader) l.left l.text.items;
  counted : g.R.Source.failures l.reader ≡ g.R.Source.failures l.initial.reader;
}

-- each turn reads a byte at least, and a list has a greatest length
abbrev pub decreases-loop-left : goal.decreases-loop-left
decreases-loop-left g l = 2 ^ 64 - l.text.len
