use Rattle.std.proofs.Common.{map}
use Rattle.fkv_closing.specs.Lists.{AreByPartition}
use Rattle.fkv_closing.proofs.owns.by_partition.Given as goal

abbrev pub invariant-loop-own : goal.invariant-loop-own
invariant-loop-own g l =
    AreByPartition l.count (map (λ of. map (λ own. own.items) of.items) l.all.items) (map (λ own. map g.H.Recorder.entries own.items) l.yielded)
