use Rattle.std.proofs.Common.{length, ap, ◌∙◌, ◌+◌, arith}
use Rattle.std.proofs.lemmas.List.{length_push}
use Rattle.fkv_blocks.specs.Left.{EndsAt, text_at}
use Rattle.fkv_blocks.proofs.OrderLemmas.{each_more}
use Rattle.fkv_blocks.proofs.whole.ReadFeeds.ends.Goals as goal

pub loop-place-preserved : goal.loop-place-preserved
loop-place-preserved g c =
    let ends = c.loop-place.ends.items in
    let end = c.in-Some-end_of.end in
    let old = c.loop-place.invariant in
    let more = each_more (λ f e. EndsAt (text_at g.B.Origin.feeds f) e) 0 ends end c.loop-place.place old.count old.each c.in-Some-end_of.ensures in
    record {
      within = omega (arith, c.loop-place-test.true);
      count = ap length c.in-Ok.ensures.items ∙ (length_push ends end ∙ ap (λ n. n + 1) old.count);
      each = λ f lt. rw c.in-Ok.ensures.items (more f lt);
    }
