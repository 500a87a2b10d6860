use Rattle.std.proofs.Common.{◌≡◌, [], List, false}
use Rattle.fkv_functions.specs.declared.names.Name.{Name}
use Rattle.fkv_streams.specs.Streams.{PassesOn}
use Rattle.fkv_feeds.specs.Writing.{fields_of, table_text}
use Rattle.fkv_feeds.proofs.WritingLemmas.{Written}
use Rattle.fkv_feeds.proofs.writing.write_pairs.Given as goal

-- of what was to come the rows so far are put, and the others are still to come: none, where there is no more
abbrev pub invariant-rows : goal.invariant-rows
invariant-rows g l = record {
  put : (xs : List (Name × g.row.V.Denot)) → g.P.ReadPairs.holds l.initial.pairs xs → (left : List (Name × g.row.V.Denot))
      × g.P.ReadPairs.holds l.pairs left
      × Written (fields_of g.V.RowFields.FIELDS g.V.RowFields.field_at) (g.W.Sink.contents l.initial.writer) (g.W.Sink.contents l.writer) l.buffer left xs
      × (l.more ≡ false → left ≡ []);
  rows : (done : List (Name × g.row.V.Denot)) × PassesOn (g.W.Sink.contents l.initial.writer) (g.W.Sink.contents l.writer) l.buffer
      (table_text (fields_of g.V.RowFields.FIELDS g.V.RowFields.field_at) done);
  counted : g.W.Sink.failures l.writer ≡ g.W.Sink.failures l.initial.writer;
}

abbrev pub decreases-rows : goal.decreases-rows
decreases-rows g l = l.room
