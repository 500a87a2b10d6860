use Rattle.std.proofs.Common.{◌≡◌, ◌++◌, take, drop}
use Rattle.fkv_streams.specs.Streams.{first_lines, lines_left}
use Rattle.fkv_streams.proofs.reading.front.Given as goal

abbrev pub invariant-loop-at : goal.invariant-loop-at
invariant-loop-at l = record {
  taken : first_lines l.count l.bytes ≡ take l.at l.bytes ++ first_lines l.left (drop l.at l.bytes);
  more : lines_left l.count l.bytes ≡ lines_left l.left (drop l.at l.bytes);
  fresh : l.at ≡ 0 → l.left ≡ l.count;
}
