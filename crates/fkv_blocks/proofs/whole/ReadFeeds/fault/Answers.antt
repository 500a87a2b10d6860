use Rattle.std.proofs.Common.{◌≡◌, true}
use Rattle.fkv_blocks.proofs.WholeLemmas.{told_first}
use Rattle.fkv_blocks.proofs.whole.ReadFeeds.fault.Goals.{else-has_failed-via-then-has_failed+else-not-has_failed, else-has_failed-via-else-has_failed}
use Rattle.fkv_blocks.proofs.whole.ReadFeeds.fault.Goals as goal

pub returns-in-Ok : goal.returns-in-Ok
returns-in-Ok g c =
    told_first g.B.Origin.feeds g.B.Origin.counts c.args.self.now c.args.limit c.in-Ok.before c.args.stop c.told_behind.result c.requires.stop
    (λ has. elim c.else-has_failed.branch [
      | else-has_failed-via-then-has_failed+else-not-has_failed w ↦ (let sure : w.has_failed.result ≡ true = cc in w.has_failed.ensures sure)
      | else-has_failed-via-else-has_failed w ↦ absurd (cc)
    ])
    c.in-Ok.ensures.ok c.told_behind.ensures.row c.told_behind.ensures.long c.told_behind.ensures.other
