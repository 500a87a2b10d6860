use Rattle.std.proofs.Common.{◌↔◌, drop}
use Rattle.fkv_blocks.specs.Spans.{Chains}
use Rattle.fkv_blocks.proofs.spans.chains.Given as goal

abbrev pub invariant-loop-span : goal.invariant-loop-span
invariant-loop-span l = Chains 0 l.spans l.high ↔ Chains l.at (drop l.span-index l.spans) l.high
