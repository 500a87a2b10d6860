use Rattle.std.proofs.Common.{length, map}
use Rattle.fkv_closing.proofs.ListsLemmas.{AreAdded}
use Rattle.fkv_closing.proofs.owns.add_lists.Given as goal

abbrev pub invariant-loop-partition : goal.invariant-loop-partition
invariant-loop-partition g l =
    AreAdded (map (λ of. map (λ own. own.items) of.items) l.initial.all.items) (map (λ of. map (λ own. own.items) of.items) l.all.items)
    (map g.H.Recorder.entries l.fn.own.items) (length l.yielded)
