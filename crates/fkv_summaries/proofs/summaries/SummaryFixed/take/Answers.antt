-- Each number is the one whose bytes stand at its place. So where the bytes are those of a summary, the numbers are its.
use Rattle.std.proofs.Common.{◌≡◌, ap, sym, ◌∙◌, take, drop}
use Rattle.fkv_summaries.specs.Laws.{parts_of}
use Rattle.fkv_summaries.proofs.summaries.SummaryFixed.take.Goals as goal

pub returns-clause-only : goal.returns-clause-only
returns-clause-only c = λ v k e.
    let bytes = c.args.bytes.now in
    let parts = parts_of v bytes e in
    let second : c.split_at-2.result.1.now ≡ drop 16 (drop 8 bytes) =
    c.split_at-2.ensures.back ∙ ap (drop 16) c.split_at.ensures.back in
    let sum = c.split_at-2.ensures.front ∙ ap (take 16) c.split_at.ensures.back in
    let least = c.split_at-3.ensures.front ∙ ap (take 8) second in
    let greatest = c.split_at-3.ensures.back ∙ ap (drop 8) second in
    c.joined.ensures.only v k (record {
      count = c.take.ensures.only v.count k.count (parts.count ∙ sym c.split_at.ensures.front);
      sum = c.take-2.ensures.only v.sum k.sum (parts.sum ∙ sym sum);
      least = c.take-3.ensures.only v.least k.least (parts.least ∙ sym least);
      greatest = c.take-4.ensures.only v.greatest k.greatest (parts.greatest ∙ sym greatest);
    })
