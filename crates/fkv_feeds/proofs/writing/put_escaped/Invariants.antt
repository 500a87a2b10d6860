use Rattle.std.proofs.Common.{◌≡◌, ◌++◌, take}
use Rattle.csv.specs.Writing.{default_writer, escaped}
use Rattle.fkv_streams.specs.Streams.{PassesOn}
use Rattle.fkv_feeds.proofs.writing.put_escaped.Given as goal

-- the bytes so far are put
abbrev pub invariant-loop-byte : goal.invariant-loop-byte
invariant-loop-byte g l = record {
  put : PassesOn (g.W.Sink.contents l.initial.sink) (g.W.Sink.contents l.sink) l.buffer (l.initial.buffer ++ escaped default_writer (take l.byte-index l.field));
  counted : g.W.Sink.failures l.sink ≡ g.W.Sink.failures l.initial.sink;
}
