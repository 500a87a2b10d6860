use Rattle.std.proofs.Common.{◌≡◌, true, length, IsTrue}
use Rattle.std.specs.List.{All}
use Rattle.fkv_locked.specs.Kept.{seen, IsEnded}
use Rattle.fkv_store.proofs.closing.parts_of.Given as goal

abbrev pub invariant-loop-lock : goal.invariant-loop-lock
invariant-loop-lock g l = record {
  ended : g.H.Recorder.keeps ≡ true → IsTrue g.R.Receipt.keeps → All (λ part. IsEnded g.F.Key.Ord.cmp g.F.Functions.meaning (seen g.F.Key.Ord.cmp part.partition) part.history.items part.book) l.parts.items;
  len : length l.parts.items ≡ length l.yielded;
}
