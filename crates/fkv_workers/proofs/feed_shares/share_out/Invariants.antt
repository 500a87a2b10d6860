use Rattle.std.proofs.Common.{◌≡◌, map, take, drop}
use Rattle.std.specs.Vec.Iter.{into_iter_items}
use Rattle.fkv_workers.specs.Shares.{AreDealt}
use Rattle.fkv_workers.proofs.feed_shares.share_out.Given as goal

-- those before this place are dealt out
abbrev pub invariant-loop-item : goal.invariant-loop-item
invariant-loop-item g l =
    (into_iter_items l.item-iterator ≡ drop l.place (into_iter_items l.initial.item-iterator))
    × AreDealt l.workers (take l.place (into_iter_items l.initial.item-iterator)) (map (λ share. share.items) l.shares.items)
