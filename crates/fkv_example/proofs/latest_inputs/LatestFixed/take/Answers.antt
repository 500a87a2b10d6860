-- Each number is the one whose bytes stand at its place. So where the bytes are those of a value, the numbers are its.
use Rattle.std.proofs.Common.{sym, ◌∙◌}
use Rattle.fkv_example.specs.Laws.{parts_of}
use Rattle.fkv_example.proofs.latest_inputs.LatestFixed.take.Goals as goal

pub returns-clause-only : goal.returns-clause-only
returns-clause-only c = λ v k e.
    let parts = parts_of v c.args.bytes.now e in
    c.joined.ensures.only v k (record {
      count = c.take.ensures.only v.count k.count (parts.count ∙ sym c.split_at.ensures.front);
      last = c.take-2.ensures.only v.last k.last (parts.last ∙ sym c.split_at.ensures.back);
    })
