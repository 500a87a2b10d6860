use Rattle.std.proofs.Common.{◌≡◌, ◌++◌, ℕ, List, length}
use Rattle.fkv_streams.specs.Streams.{PassesOn}
use Rattle.fkv_feeds.specs.Writing.{fields_of, table_text}
use Rattle.fkv_feeds.proofs.writing.write_table.Given as goal

-- the rows so far are put, and with those of the pairs that are left they are the table's text
abbrev pub invariant-loop-pair : goal.invariant-loop-pair
invariant-loop-pair g l = record {
  put : (done : List ℕ) × PassesOn (g.W.Sink.contents l.initial.writer) (g.W.Sink.contents l.writer) l.buffer done × (done ++ table_text (fields_of g.V.RowFields.FIELDS g.V.RowFields.field_at) l.pairs ≡ table_text (fields_of g.V.RowFields.FIELDS g.V.RowFields.field_at) l.table);
  counted : g.W.Sink.failures l.writer ≡ g.W.Sink.failures l.initial.writer;
}

abbrev pub decreases-loop-pair : goal.decreases-loop-pair
decreases-loop-pair g l = length l.pairs
