use Rattle.std.proofs.Common.{◌≡◌, ◌^◌, ◌-◌}
use Rattle.std.specs.Io.KnownBytes.{Keeps, prepend_known}
use Rattle.fkv_blocks.proofs.filling.fill.Given as goal

abbrev pub invariant-loop-buffer : goal.invariant-loop-buffer
invariant-loop-buffer g l = record {
  keeps : Keeps (prepend_known l.initial.held.items (g.S.Source.remaining l.initial.source)) (prepend_known l.held.items (g.S.Source.remaining l.source));
  counted : g.S.Source.failures l.source ≡ g.S.Source.failures l.initial.source;
}

abbrev pub decreases-loop-buffer : goal.decreases-loop-buffer
decreases-loop-buffer g l = 2 ^ 64 - l.held.len
