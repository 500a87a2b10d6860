use Rattle.fkv_workers.proofs.HandLemmas.{blanks_more}
use Rattle.fkv_workers.proofs.feed_shares.shares.Goals as goal

pub loop-preserved : goal.loop-preserved
loop-preserved g c = rw c.in-Ok.ensures.ok (blanks_more (λ share. share.items) c.loop.shares.items c.new.result c.loop.counter c.loop.invariant c.new.ensures.items)
