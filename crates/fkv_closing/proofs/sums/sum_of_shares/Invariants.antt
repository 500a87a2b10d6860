use Rattle.std.proofs.Common.{◌≡◌, sum, take}
use Rattle.fkv_closing.proofs.sums.sum_of_shares.Given as goal

abbrev pub invariant-loop-share : goal.invariant-loop-share
invariant-loop-share l = l.total ≡ sum (take l.share-index l.shares)
