use Rattle.std.proofs.Common.{◌≡◌}
use Rattle.std.specs.Io.KnownBytes.{Keeps, prepend_known}
use Rattle.fkv_blocks.proofs.filling.next_cut.Given as goal

abbrev pub invariant-loop-doubling : goal.invariant-loop-doubling
invariant-loop-doubling g l = record {
  keeps : Keeps (prepend_known l.initial.held.items (g.S.Source.remaining l.initial.source)) (prepend_known l.held.items (g.S.Source.remaining l.source));
  counted : g.S.Source.failures l.source ≡ g.S.Source.failures l.initial.source;
}
