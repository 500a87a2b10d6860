use Rattle.std.proofs.Common.{◌<◌, arith, ◌∙◌, length, take}
use Rattle.fkv_streams.proofs.StreamLemmas.{so-far-more, so-far-end}
use Rattle.fkv_streams.proofs.reading.read_lines.Goals as goal

pub returns-in-Ok-eq0-clause-ok : goal.returns-in-Ok-eq0-clause-ok
returns-in-Ok-eq0-clause-ok g c =
    let h = rw c.in-Ok-eq0.field-0-test at c.in-Ok-eq0.ensures.bytes.0 in
    let room : 0 < length c.read.new.buf = omega arith in
    so-far-end c.args.count c.loop-left.left _ _ _ c.loop-left.text.items c.read.new.buf c.loop-left.invariant.read h (c.in-Ok-eq0.ensures.bytes.1 c.in-Ok-eq0.field-0-test room)

pub loop-left-preserved : goal.loop-left-preserved
loop-left-preserved g c =
    let bytes = take c.in-Ok.read c.read.new.buf in
    let read = so-far-more c.args.count c.loop-left.left _ _ _ c.loop-left.text.items bytes c.loop-left.invariant.read c.in-Ok.ensures.bytes.0 in
    record {
      read = rw (c.in-Ok-extend_from_slice.ensures.items, c.front-taken.ensures.left, c.front-taken.ensures.taken) read;
      counted = c.in-Ok.ensures.counted.steady (λ e. cc) ∙ c.loop-left.invariant.counted;
    }
