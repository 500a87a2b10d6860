use Rattle.std.proofs.Common.{◌≡◌, ◌++◌}
use Rattle.csv.specs.Writing.{default_writer, fields_text}
use Rattle.fkv_streams.specs.Streams.{PassesOn}
use Rattle.fkv_feeds.specs.Writing.{fields_of}
use Rattle.fkv_feeds.proofs.writing.put_value.Given as goal

-- the fields so far are put
abbrev pub invariant-loop-place : goal.invariant-loop-place
invariant-loop-place g l = record {
  put : PassesOn (g.W.Sink.contents l.initial.sink) (g.W.Sink.contents l.sink) l.buffer (l.initial.buffer ++ fields_text default_writer (fields_of l.place g.V.RowFields.field_at l.value));
  counted : g.W.Sink.failures l.sink ≡ g.W.Sink.failures l.initial.sink;
}
