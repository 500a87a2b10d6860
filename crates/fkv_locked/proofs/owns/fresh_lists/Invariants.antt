use Rattle.std.proofs.Common.{◌≡◌, [], map, replicate}
use Rattle.fkv_locked.proofs.owns.fresh_lists.Given as goal

abbrev pub invariant-loop-place : goal.invariant-loop-place
invariant-loop-place g l = map g.H.Recorder.entries l.own.items ≡ replicate l._place []
