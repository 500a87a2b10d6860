use Rattle.std.proofs.Common.{◌≡◌, false}
use Rattle.std.specs.Io.KnownBytes.{Keeps}
use Rattle.fkv_streams.proofs.sinks.CountedWriterSink.write.Given as goal

abbrev pub invariant-loop-try : goal.invariant-loop-try
invariant-loop-try g l = record {
  kept : Keeps (g.W.Write.contents l.initial.self.writer) (g.W.Write.contents l.self.writer);
  held : l.self.is_out ≡ false;
  counted : l.self.failures ≡ l.initial.self.failures;
}
