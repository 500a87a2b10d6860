use Rattle.std.proofs.Common.{arith, ◌∙◌, ◌-◌, length, drop}
use Rattle.std.proofs.lemmas.List.{length-take, length-drop}
use Rattle.fkv_streams.proofs.StreamLemmas.{grows}
use Rattle.fkv_streams.proofs.writing.write_all.Goals as goal

pub loop-done-preserved : goal.loop-done-preserved
loop-done-preserved g c = record {
  within = let k = c.in-Ok.ensures.bound in omega (arith, length-take (length c.args.bytes.now - c.loop-done.done) (drop c.loop-done.done c.args.bytes.now), length-drop c.loop-done.done c.args.bytes.now, c.loop-done.invariant.within);
  written = grows _ _ _ c.args.bytes.now c.loop-done.done c.in-Ok.count c.loop-done.invariant.written c.in-Ok.ensures.bytes;
  counted = c.in-Ok.ensures.counted.steady (λ e. cc) ∙ c.loop-done.invariant.counted;
}
