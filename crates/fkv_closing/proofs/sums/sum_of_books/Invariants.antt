use Rattle.std.proofs.Common.{◌≡◌, sum_by, take}
use Rattle.fkv_closing.proofs.sums.sum_of_books.Given as goal

abbrev pub invariant-loop-part : goal.invariant-loop-part
invariant-loop-part g l = l.total ≡ sum_by (λ part. part.book) (take l.part-index l.parts)
