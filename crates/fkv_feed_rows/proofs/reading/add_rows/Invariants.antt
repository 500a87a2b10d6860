use Rattle.std.proofs.Common.{◌≡◌, ◌++◌, ℕ, ℤ, List, length}
use Rattle.csv.specs.Reading.{Ready, default_config, reader_trim, reader_config, source_of}
use Rattle.csv.specs.declared.reader.Trim.TheVariants as trim
use Rattle.fkv_functions.specs.declared.names.Name.{Name}
use Rattle.fkv_feed_rows.specs.Rows.{AreRows}
use Rattle.fkv_feed_rows.proofs.RecordLemmas.{HasRead}
use Rattle.fkv_feed_rows.proofs.reading.add_rows.Given as goal

abbrev pub invariant-loop-count : goal.invariant-loop-count
invariant-loop-count g l = record {
  plain : reader_trim l.reader ≡ trim.None;
  ready : Ready l.reader;
  config : reader_config l.reader ≡ default_config;
  kept : g.K.RowSink.kept l.sink ≡ g.K.RowSink.kept l.initial.sink;
  so_far : (records : List (List (List ℕ)))
      × (rows : List (Name × ℤ))
      × HasRead g.R.Read.remaining (source_of g.R.Read.remaining l.initial.reader) l.reader records
      × AreRows records rows
      × (l.count ≡ length records)
      × ((before : List (Name × ℤ)) → g.K.RowSink.stands l.initial.sink before → g.K.RowSink.stands l.sink (before ++ rows));
}
